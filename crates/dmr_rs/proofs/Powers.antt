-- Powers of x, and lists of octets that are zero at the first of them.
use Rattle.std.proofs.Common.{◌≡◌, ℕ, zero, suc, ◌+◌, ◌-◌, ◌*◌, ◌<◌, ◌≤◌, ◌==◌, Bool, true, false, List, []}
use Rattle.std.proofs.Common.{◌∷◌, ◌++◌, length, replicate, refl, sym, ◌∙◌, ap, arith, cond, eqb, eqb-true, eq-eqb, inl, inr}
use Rattle.std.specs.Prelude.{bit_xor}
use Rattle.std.specs.Int.Bits.{xor_assoc, xor_self, xor_zero_l, xor_zero_r}
use Rattle.std.specs.List.{All}
use Rattle.std.proofs.lemmas.Nat.{xor_lt}
use Rattle.std.proofs.lemmas.Bool.{agree_below, agree_below_at, cases_eq, ne_eqb}
use Rattle.std.proofs.lemmas.List.Elements.{All-cons, All-head, All-tail}
use Rattle.dmr_bits.specs.Polynomials.{add_front}
use Rattle.dmr_rs.specs.Field.{times_x, times, octet_field}
use Rattle.dmr_rs.proofs.Field.{IsLinear, none_is, composed, x_linear, times_x-lt, times_linear, xor_swap, xor_none}

-- so many times times x
abbrev pub shifted : ℕ → ℕ → ℕ
shifted zero a = a
shifted (suc n) a = times_x (shifted n a)

-- multiplying by x any number of times is a linear map
pub shifted_linear : (n : ℕ) → IsLinear (shifted n)
shifted_linear zero = record { sum = λ a b. refl; shift = λ a. refl }
shifted_linear (suc n) = composed times_x (shifted n) x_linear (shifted_linear n)

-- an octet times a power of x is an octet
pub shifted-lt : (n a : ℕ) → a < 256 → shifted n a < 256
shifted-lt zero a h = h
shifted-lt (suc n) a h = times_x-lt (shifted n a)

-- multiplying by x as often as two counts say together is doing it for one count after the other
pub shifted-add : (n m a : ℕ) → shifted (n + m) a ≡ shifted n (shifted m a)
shifted-add zero m a = let e : 0 + m ≡ m = omega arith in ap (λ k. shifted k a) e
shifted-add (suc n) m a =
    let e : suc n + m ≡ suc (n + m) = omega arith in
    ap (λ k. shifted k a) e ∙ ap times_x (shifted-add n m a)

-- a product by a number and by a power of x is the same in either order
pub shifted-times : (n k a : ℕ) → times k (shifted n a) ≡ shifted n (times k a)
shifted-times zero k a = refl
shifted-times (suc n) k a = let L = times_linear k in L.shift (shifted n a) ∙ ap times_x (shifted-times n k a)

-- ---- an octet that a power keeps or takes to zero is zero
octet_none : (a : ℕ) → a < 256 → times_x a ≡ 0 → a ≡ 0
octet_none a h e =
    eqb-true a 0
    (sym (agree_below_at (λ i. eqb (times_x i) 0) (λ i. eqb i 0) 256 a refl h) ∙ eq-eqb (times_x a) 0 e)

-- an octet whose product with a power of x is zero is zero itself
pub shifted_none : (n a : ℕ) → a < 256 → shifted n a ≡ 0 → a ≡ 0
shifted_none zero a h e = e
shifted_none (suc n) a h e = shifted_none n a h (octet_none (shifted n a) (shifted-lt n a h) e)

keeps : ℕ → Bool
keeps r = agree_below (λ i. eqb (shifted (suc r) i) i) (λ i. eqb i 0) 256

kept_none : (r a : ℕ) → r < 11 → a < 256 → shifted (suc r) a ≡ a → a ≡ 0
unfolding keeps
kept_none r a h k e =
    eqb-true a 0
    (sym (agree_below_at (λ i. eqb (shifted (suc r) i) i) (λ i. eqb i 0) 256 a (agree_below_at keeps (λ i. true) 11 r refl h) k)
    ∙ eq-eqb (shifted (suc r) a) a e)

-- different powers below the twelfth take only zero to the same octet
pub apart : (n j a : ℕ) → j < n → n < 12 → a < 256 → bit_xor (shifted n a) (shifted j a) ≡ 0 → a ≡ 0
apart n j a h k small e =
    let r : ℕ = n - j - 1 in
    let L = shifted_linear j in
    let more : n ≡ j + suc r = omega arith in
    let fits : bit_xor (shifted (suc r) a) a < 256 = xor_lt 8 (shifted (suc r) a) a (shifted-lt (suc r) a small) small in
    let sum : shifted j (bit_xor (shifted (suc r) a) a) ≡ 0 =
    L.sum (shifted (suc r) a) a ∙ ap (λ b. bit_xor b (shifted j a)) (sym (ap (λ m. shifted m a) more ∙ shifted-add j (suc r) a)) ∙
    e in
    kept_none r a (omega arith) small (xor_none (shifted (suc r) a) a (shifted_none j (bit_xor (shifted (suc r) a) a) fits sum))

-- ---- the value of a polynomial, where multiplying by what x stands for is the map f
abbrev pub horner : (ℕ → ℕ) → ℕ → List ℕ → ℕ
horner f s [] = s
horner f s (c ∷ w) = horner f (bit_xor (f s) c) w

-- the value of two lists in a row goes on from the value of the first
pub horner-append : (f : ℕ → ℕ) (s : ℕ) (v w : List ℕ) → horner f s (v ++ w) ≡ horner f (horner f s v) w
horner-append f s [] w = refl
horner-append f s (c ∷ v) w = horner-append f (bit_xor (f s) c) v w

-- the value of the sum of two lists is the sum of their values, where the map is linear
pub horner-xor : (f : ℕ → ℕ) → IsLinear f → (s t : ℕ) (v w : List ℕ) → length v ≡ length w → horner f (bit_xor s t) (add_front
    octet_field v w) ≡ bit_xor (horner f s v) (horner f t w)
horner-xor f F s t [] [] e = refl
horner-xor f F s t [] (d ∷ w) e = absurd (omega arith)
horner-xor f F s t (c ∷ v) [] e = absurd (omega arith)
horner-xor f F s t (c ∷ v) (d ∷ w) e =
    ap (λ n. horner f n (add_front octet_field v w)) (ap (λ n. bit_xor n (bit_xor c d)) (F.sum s t) ∙ xor_swap (f s) (f t) c d)
    ∙ horner-xor f F (bit_xor (f s) c) (bit_xor (f t) d) v w (omega arith)

-- zeros have the value zero, where the map is linear
pub horner-none : (f : ℕ → ℕ) → IsLinear f → (n : ℕ) → horner f 0 (replicate n 0) ≡ 0
horner-none f F zero = refl
horner-none f F (suc n) = ap (λ s. horner f s (replicate n 0)) (xor_zero_r (f 0) ∙ none_is f F) ∙ horner-none f F n

-- the value of a list at a power of x
abbrev pub at_power : ℕ → List ℕ → ℕ
at_power m w = horner (shifted m) 0 w

-- the highest coefficient apart
horner-start : (m s : ℕ) (w : List ℕ) → horner (shifted m) s w ≡ bit_xor (shifted (length w * m) s) (at_power m w)
horner-start m s [] =
    let e : 0 * m ≡ 0 = omega arith in ap (λ k. shifted k s) (sym e) ∙ sym (xor_zero_r (shifted (0 * m) s))
horner-start m s (c ∷ w) =
    let F = shifted_linear m in
    let L = shifted_linear (length w * m) in
    let e : length w * m + m ≡ suc (length w) * m = grind arith in
    let lift : ℕ → ℕ = shifted (length w * m) in
    let rest : ℕ = at_power m w in
    let below : at_power m (c ∷ w) ≡ bit_xor (lift c) rest =
    ap (λ n. horner (shifted m) n w) (ap (λ n. bit_xor n c) (none_is (shifted m) F) ∙ xor_zero_l c) ∙ horner-start m c w in
    horner-start m (bit_xor (shifted m s) c) w
    ∙ ap (λ n. bit_xor n rest) (L.sum (shifted m s) c)
    ∙ xor_assoc (lift (shifted m s)) (lift c) rest
    ∙ ap (bit_xor (lift (shifted m s))) (sym below)
    ∙ ap (λ n. bit_xor n (at_power m (c ∷ w))) (sym (shifted-add (length w * m) m s) ∙ ap (λ k. shifted k s) e)

-- the value at a power is the first octet, brought to its place, added to the value of the others
pub at_power-cons : (m c : ℕ) (w : List ℕ) → at_power m (c ∷ w) ≡ bit_xor (shifted (length w * m) c) (at_power m w)
at_power-cons m c w =
    ap (λ n. horner (shifted m) n w) (ap (λ n. bit_xor n c) (none_is (shifted m) (shifted_linear m)) ∙ xor_zero_l c) ∙ horner-start
    m c w

-- ---- how many octets are not zero
abbrev pub wrong : List ℕ → ℕ
wrong [] = 0
wrong (e ∷ es) = cond (e == 0) 0 1 + wrong es

-- each coefficient times the sum of the n-th power of x and its own
killed : ℕ → List ℕ → List ℕ
killed n [] = []
killed n (e ∷ es) = bit_xor (shifted n e) (shifted (length es) e) ∷ killed n es

length-killed : (n : ℕ) (es : List ℕ) → length (killed n es) ≡ length es
unfolding killed
length-killed n [] = refl
length-killed n (e ∷ es) = ap suc (length-killed n es)

All-killed : (n : ℕ) (es : List ℕ) → All (λ octet. octet < 256) es → All (λ octet. octet < 256) (killed n es)
unfolding killed
All-killed n [] h = h
All-killed n (e ∷ es) h =
    let Small : ℕ → Type 0 = λ octet. octet < 256 in
    let small = All-head Small e es h in
    All-cons Small (bit_xor (shifted n e) (shifted (length es) e)) (killed n es)
    (xor_lt 8 (shifted n e) (shifted (length es) e) (shifted-lt n e small) (shifted-lt (length es) e small))
    (All-killed n es (All-tail Small e es h))

wrong-killed : (n : ℕ) (es : List ℕ) → wrong (killed n es) ≤ wrong es
unfolding killed
wrong-killed n [] = omega arith
wrong-killed n (e ∷ es) =
    let rest = wrong-killed n es in
    let other : ℕ = bit_xor (shifted n e) (shifted (length es) e) in
    elim (cases_eq e 0) [
      | inl same ↦
          let none : other ≡ 0 =
          ap (λ a. bit_xor (shifted n a) (shifted (length es) a)) same
          ∙ ap (λ a. bit_xor a (shifted (length es) 0)) (none_is (shifted n) (shifted_linear n))
          ∙ ap (bit_xor 0) (none_is (shifted (length es)) (shifted_linear (length es))) in
          rw (none, same) (omega arith)
      | inr other_than ↦
          let least : cond (other == 0) 0 1 ≤ 1 = elim (other == 0) as (λ b. cond b 0 1 ≤ 1) [
            | true ↦ omega arith
            | false ↦ omega
                arith
          ] in
          rw (ne_eqb e 0 other_than) (omega arith)
    ]

at_power-killed : (n m : ℕ) (es : List ℕ) → at_power m (killed n es) ≡ bit_xor (shifted n (at_power m es)) (at_power (suc m) es)
unfolding killed
at_power-killed n m [] = sym (ap (λ a. bit_xor a 0) (none_is (shifted n) (shifted_linear n)))
at_power-killed n m (e ∷ es) =
    let N = shifted_linear n in
    let j : ℕ = length es in
    let J = shifted_linear (j * m) in
    let swap : j * m + n ≡ n + j * m = omega arith in
    let next : j * m + j ≡ j * suc m = grind arith in
    let head : shifted (length (killed n es) * m) (bit_xor (shifted n e) (shifted j e)) ≡ bit_xor (shifted n (shifted (j * m) e))
    (shifted (j * suc m) e) =
    ap (λ k. shifted (k * m) (bit_xor (shifted n e) (shifted j e))) (length-killed n es)
    ∙ J.sum (shifted n e) (shifted j e)
    ∙ ap (λ a. bit_xor a (shifted (j * m) (shifted j e))) (sym (shifted-add (j * m) n e) ∙ ap (λ k. shifted k e) swap ∙ shifted-add
    n (j * m) e)
    ∙ ap (bit_xor (shifted n (shifted (j * m) e))) (sym (shifted-add (j * m) j e) ∙ ap (λ k. shifted k e) next) in
    at_power-cons m (bit_xor (shifted n e) (shifted j e)) (killed n es)
    ∙ ap (λ a. bit_xor a (at_power m (killed n es))) head
    ∙ ap (bit_xor (bit_xor (shifted n (shifted (j * m) e)) (shifted (j * suc m) e))) (at_power-killed n m es)
    ∙ xor_swap (shifted n (shifted (j * m) e)) (shifted (j * suc m) e) (shifted n (at_power m es)) (at_power (suc m) es)
    ∙ ap (λ a. bit_xor a (bit_xor (shifted (j * suc m) e) (at_power (suc m) es))) (sym (N.sum (shifted (j * m) e) (at_power m es)))
    ∙ ap (λ a. bit_xor a (bit_xor (shifted (j * suc m) e) (at_power (suc m) es))) (ap (shifted n) (sym (at_power-cons m e es)))
    ∙ ap (bit_xor (shifted n (at_power m (e ∷ es)))) (sym (at_power-cons (suc m) e es))

-- what is zero then was zero before
unkilled : (n : ℕ) (es : List ℕ) → length es ≤ n → n < 12 → All (λ octet. octet < 256) es → killed n es ≡ replicate (length es) 0 →
    es ≡ replicate (length es) 0
unfolding killed
unkilled n [] h k small z = refl
unkilled n (e ∷ es) h k small z =
    let Small : ℕ → Type 0 = λ octet. octet < 256 in
    let first : bit_xor (shifted n e) (shifted (length es) e) ≡ 0 = cc in
    let rest : killed n es ≡ replicate (length es) 0 = cc in
    let head : e ≡ 0 = apart n (length es) e (omega arith) k (All-head Small e es small) first in
    let tail = unkilled n es (omega arith) k (All-tail Small e es small) rest in cc

-- octets that are not zero in at most d places, and zero at the first d powers of x, are all zero
pub all_zero : (k d : ℕ) (es : List ℕ) → length es ≡ k → k ≤ 12 → All (λ octet. octet < 256) es → wrong es ≤ d → ((m : ℕ) → 0 < m →
    m ≤ d → at_power m es ≡ 0) → es ≡ replicate k 0
all_zero zero d [] e h small few roots = refl
all_zero zero d (c ∷ es) e h small few roots = absurd (omega arith)
all_zero (suc k) d [] e h small few roots = absurd (omega arith)
all_zero (suc k) d (c ∷ es) e h small few roots =
    let Small : ℕ → Type 0 = λ octet. octet < 256 in
    let long : length es ≡ k = omega arith in
    let rest_small = All-tail Small c es small in
    elim (cases_eq c 0) [
      | inl same ↦
          let fewer : wrong es ≤ d = let w = rw same at few in omega arith in
          let rest_roots : (m : ℕ) → 0 < m → m ≤ d → at_power m es ≡ 0 =
          (λ m p q. sym (at_power-cons m c es
          ∙ ap (λ a. bit_xor a (at_power m es)) (ap (shifted (length es * m)) same ∙ none_is (shifted (length es * m))
          (shifted_linear (length es * m)))
          ∙ xor_zero_l (at_power m es)) ∙ roots m p q) in
          let rest = all_zero k d es long (omega arith) rest_small fewer rest_roots in cc
      | inr other ↦
          let fewer : suc (wrong es) ≤ d = let w = rw (ne_eqb c 0 other) at few in omega arith in
          let known : (m : ℕ) → 0 < m → m ≤ d → shifted (k * m) c ≡ at_power m es =
          (λ m p q. xor_none (shifted (k * m) c) (at_power m es)
          (ap (λ n. bit_xor (shifted (n * m) c) (at_power m es)) (sym long) ∙ sym (at_power-cons m c es) ∙ roots m p q)) in
          let small_killed = All-killed k es rest_small in
          let few_killed : wrong (killed k es) ≤ d - 1 = let w = wrong-killed k es in omega arith in
          let roots_killed : (m : ℕ) → 0 < m → m ≤ d - 1 → at_power m (killed k es) ≡ 0 =
          (λ m p q.
          let here = known m p (omega arith) in
          let next = known (suc m) (omega arith) (omega arith) in
          let place : k + k * m ≡ k * suc m = grind arith in
          at_power-killed k m es
          ∙ ap (λ a. bit_xor (shifted k a) (at_power (suc m) es)) (sym here)
          ∙ ap (λ a. bit_xor a (at_power (suc m) es)) (sym (shifted-add k (k * m) c) ∙ ap (λ n. shifted n c) place ∙ next)
          ∙ xor_self (at_power (suc m) es)) in
          let killed_zero = all_zero k (d - 1) (killed k es) (length-killed k es ∙ long) (omega arith) small_killed few_killed
          roots_killed in
          let rest_zero : es ≡ replicate (length es) 0 =
          unkilled k es (omega arith) (omega arith) rest_small (killed_zero ∙ ap (λ n. replicate n 0) (sym long)) in
          let first : shifted (k * 1) c ≡ 0 =
          known 1 (omega arith) (omega arith) ∙ ap (at_power 1) rest_zero ∙ horner-none (shifted 1) (shifted_linear 1) (length es)
          in
          absurd (other (shifted_none (k * 1) c (All-head Small c es small) first))
    ]
