-- Numbers and types at the front of octets.
use Rattle.std.proofs.Common.{◌≡◌, ◌≢◌, ◌≤◌, ◌<◌, ℕ, zero, suc, List, [], ◌∷◌, ◌++◌, length, take, refl, ap, ◌∙◌, append_assoc}
use Rattle.std.proofs.Common.{arith}
use Rattle.std.proofs.lemmas.List.{take-append-le}
use Rattle.byteorder.specs.Numbers.{big_from-append, little_from-append}
use Rattle.dmr_capture.specs.Blocks.{HasHeadLength}
use Rattle.dmr_capture.specs.Orders.{ordered_number}
use Rattle.dmr_capture.specs.declared.order.Order.{Order}
use Rattle.dmr_capture.specs.declared.order.Order.TheVariants.{Big, Little}

-- a number at the front is that of the first octets
pub number_front : (order : Order) (n : ℕ) (xs ys : List ℕ) → n ≤ length xs
    → ordered_number order n 0 (xs ++ ys) ≡ ordered_number order n 0 xs
number_front Big n xs ys within = big_from-append n xs ys within
number_front Little n xs ys within = little_from-append n xs ys within

-- octets that aren't none
pub some_octets : (xs : List ℕ) → 0 < length xs → xs ≢ []
some_octets xs some none = let e = ap length none in absurd (omega arith)

-- how many octets a block is judged by hangs on its first ones
pub head_length_more : (order : Order) (first more : List ℕ) (count : ℕ) → 8 ≤ length first → HasHeadLength order first count
    → HasHeadLength order (first ++ more) count
head_length_more order first more count within says =
    let type : take 4 (first ++ more) ≡ take 4 first = take-append-le 4 first more (omega arith) in
    let kind = number_front order 4 first more (omega arith) in
    rw (type, kind) says

-- nothing is taken of nothing
pub taken_of_none : (n : ℕ) (xs : List ℕ) → length xs ≡ 0 → take n xs ≡ []
taken_of_none zero xs none = refl
taken_of_none (suc n) [] none = refl
taken_of_none (suc n) (x ∷ xs) none = absurd (omega arith)

-- three pieces behind a front
pub joined : (front a b : List ℕ) → front ++ a ++ b ≡ front ++ (a ++ b)
joined front a b = append_assoc front a b

-- Three parts behind a front are one part behind it.
pub joined_more : (front a b c : List ℕ) → front ++ a ++ b ++ c ≡ front ++ (a ++ b ++ c)
joined_more front a b c = ap (λ l. l ++ c) (append_assoc front a b) ∙ append_assoc front (a ++ b) c
