-- What a table makes of pairs of hexadecimal digits.
use Rattle.std.proofs.Common.{◌≡◌, ℕ, zero, suc, ◌+◌, ◌*◌, ◌/◌, ◌%◌, ◌<◌, ◌≤◌, ◌==◌, Bool, true, List, [], ◌∷◌, length}
use Rattle.std.proofs.Common.{◌⊎◌, inl, inr, slice_index_or, slice_set, max, Option, Some, None, is_some, unwrap_or, Ok}
use Rattle.std.proofs.Common.{◌∙◌, ap, sym, subst, refl, arith}
use Rattle.std.proofs.Math.Nat.{le-max_left, le-max_right, max-eq_left, max-eq_right}
use Rattle.std.proofs.lemmas.Bool.{agree_below_at, cases_lt, eqb-true}
use Rattle.std.proofs.lemmas.Grind.{get_or-set_at}
use Rattle.std.proofs.lemmas.List.{ext_get_or, get_or-set_other}
use Rattle.std.proofs.lemmas.List.Elements.{All-from_get_or, All-head, All-tail}
use Rattle.std.specs.List.{AllPass}
use Rattle.hex.specs.Hex.{decode_pairs, decode_sized, digit_or_error, hex_digit_value, is_hex_digit, pair_value, value_at}
use Rattle.hex.proofs.HexLemmas.{decode_of-ok, decode_sized-ok, decode_sized-twice}
use Rattle.hex.proofs.Pairs.{cons_byte, decode_pairs-ok_pair, decode_sized-pairs}
use Rattle.dmr_text.specs.DigitValues.{digit_value}
use Rattle.dmr_text.specs.declared.digit_pairs.TheConstants.{VALUES}

-- ---- the table

abbrev is_in_table : ℕ → Bool
is_in_table octet = slice_index_or VALUES octet 0 == digit_value octet

-- the table has the value of each octet as a digit
pub in_table : (octet : ℕ) → octet < 256 → slice_index_or VALUES octet 0 ≡ digit_value octet
in_table octet h =
    eqb-true (slice_index_or VALUES octet 0) (digit_value octet) (agree_below_at is_in_table (λ _. true) 256 octet refl h)

-- ---- digits

value_of_some : (c i : ℕ) (o : Option ℕ) → is_some o ≡ true → digit_or_error c i o ≡ Ok (unwrap_or o 16)
value_of_some c i (Some v) h = refl
value_of_some c i None h = cc h

small_value : (c : ℕ) → is_hex_digit c ≡ true → digit_value c < 16
small_value c h = grind (arith)

is_digit : (o : Option ℕ) → unwrap_or o 16 < 16 → is_some o ≡ true
is_digit (Some v) h = refl
is_digit None h = absurd (omega (arith, h))

-- ---- pairs of digits

-- the octets of pairs of digits
unfoldable pub paired : List ℕ → List ℕ
paired [] = []
paired (upper ∷ []) = []
paired (upper ∷ lower ∷ rest) = (digit_value upper * 16 + digit_value lower) ∷ paired rest

pub length-paired : (word : List ℕ) → length (paired word) ≡ length word / 2
unfolding paired
length-paired [] = refl
length-paired (upper ∷ []) = refl
length-paired (upper ∷ lower ∷ rest) = let ih = length-paired rest in omega (arith, ih)

pub at_pair : (word : List ℕ) (k : ℕ) → k < length word / 2
    → slice_index_or (paired word) k 0
    ≡ digit_value (slice_index_or word (2 * k) 0) * 16 + digit_value (slice_index_or word (2 * k + 1) 0)
unfolding paired
at_pair [] k h = absurd (omega (arith, h))
at_pair (upper ∷ []) k h = absurd (omega (arith, h))
at_pair (upper ∷ lower ∷ rest) zero h = refl
at_pair (upper ∷ lower ∷ rest) (suc k) h =
    let upper_place : 2 * suc k ≡ suc (suc (2 * k)) = omega arith in
    let lower_place : 2 * suc k + 1 ≡ suc (suc (2 * k + 1)) = omega arith in
    rw (lower_place, upper_place) (at_pair rest k (omega (arith, h)))

decoded_pairs : (i : ℕ) (word : List ℕ) → length word % 2 ≡ 0 → AllPass is_hex_digit word
    → decode_pairs i word ≡ Ok (paired word)
unfolding paired decode_pairs
decoded_pairs i [] even digits = refl
decoded_pairs i (upper ∷ []) even digits = absurd (omega (arith, even))
decoded_pairs i (upper ∷ lower ∷ rest) even digits =
    let behind = All-tail (λ c. is_hex_digit c ≡ true) upper (lower ∷ rest) digits in
    let first : value_at upper i ≡ Ok (digit_value upper) =
    value_of_some upper i (hex_digit_value upper) (All-head (λ c. is_hex_digit c ≡ true) upper (lower ∷ rest) digits) in
    let second : value_at lower (i + 1) ≡ Ok (digit_value lower) =
    value_of_some lower (i + 1) (hex_digit_value lower) (All-head (λ c. is_hex_digit c ≡ true) lower rest behind) in
    let pair : pair_value upper lower i ≡ Ok (digit_value upper * 16 + digit_value lower) = rw (first, second) refl in
    let ih = decoded_pairs (i + 2) rest (omega (arith, even)) (All-tail (λ c. is_hex_digit c ≡ true) lower rest behind) in
    decode_pairs-ok_pair i upper lower (digit_value upper * 16 + digit_value lower) rest pair
    ∙ ap (cons_byte (digit_value upper * 16 + digit_value lower)) ih

-- ---- words

-- every octet of a word has a value below this one or equal to it, in front of a place
abbrev pub AreWithin : List ℕ → (count greatest : ℕ) → Type 0
AreWithin word count greatest = (k : ℕ) → k < count → digit_value (slice_index_or word k 0) ≤ greatest

-- octets are those of the pairs of a word, in front of a place
abbrev pub ArePaired : List ℕ → List ℕ → ℕ → Type 0
ArePaired word octets count = (k : ℕ) → k < count
    → slice_index_or octets k 0
    ≡ (digit_value (slice_index_or word (2 * k) 0) * 16 % 256 + digit_value (slice_index_or word (2 * k + 1) 0)) % 256

-- the greatest value is that of one of the octets in front of a place, where there is one above 0
abbrev pub IsShown : List ℕ → (count greatest : ℕ) → Type 0
IsShown word count greatest =
    (greatest ≡ 0) ⊎ ((k : ℕ) × (k < count) × (digit_value (slice_index_or word k 0) ≡ greatest))

-- pairs of digits, of which none is too great, say these octets
pub said : (word octets : List ℕ) (n greatest : ℕ) → length word ≡ 2 * n → length octets ≡ n → AreWithin word (2 * n) greatest
    → greatest < 16 → ArePaired word octets n → decode_sized word n ≡ Ok octets
said word octets n greatest long many within digits pairs =
    let value : (k : ℕ) → k < 2 * n → digit_value (slice_index_or word k 0) < 16 =
    λ k h. let most = within k h in omega (arith, most, digits) in
    let all : AllPass is_hex_digit word =
    All-from_get_or (λ c. is_hex_digit c ≡ true) word 0
    (λ k h. is_digit (hex_digit_value (slice_index_or word k 0)) (value k (omega (arith, h, long)))) in
    let same : paired word ≡ octets =
    ext_get_or 0 (paired word) octets (let count = length-paired word in omega (arith, count, long, many))
    (λ k h.
    let count = length-paired word in
    let inside : k < n = omega (arith, h, count, long) in
    let upper = value (2 * k) (omega (arith, inside)) in
    let lower = value (2 * k + 1) (omega (arith, inside)) in
    let pair = pairs k inside in
    at_pair word k (omega (arith, inside, long)) ∙ omega (arith, upper, lower, pair)) in
    decode_sized-pairs word n (omega (arith, long)) (omega (arith, long))
    ∙ decoded_pairs 0 word (omega (arith, long)) all ∙ ap Ok same

-- a word that has one octet that is no digit says no octets
pub unsaid : (word octets : List ℕ) (n k : ℕ) → k < length word → 16 ≤ digit_value (slice_index_or word k 0)
    → decode_sized word n ≡ Ok octets → ⊥
unsaid word octets n k inside large e =
    let long = decode_sized-ok word n octets e in
    let parts = decode_of-ok word octets (sym (decode_sized-twice word n long) ∙ e) in
    let small = small_value (slice_index_or word k 0) (parts.1 k 0 inside) in
    omega (arith, small, large)

-- ---- one pair more

one_of_both : (a b : ℕ) → (max a b ≡ a) ⊎ (max a b ≡ b)
one_of_both a b =
    elim (cases_lt a b) [
      | inl under ↦ inr (max-eq_right (omega (arith, under)))
      | inr over ↦ inl (max-eq_left over)
    ]

-- the octets that are read, with one pair more
pub more_pairs : (word octets : List ℕ) (place upper lower : ℕ) → place < length octets
    → upper ≡ digit_value (slice_index_or word (2 * place) 0) → lower ≡ digit_value (slice_index_or word (2 * place + 1) 0)
    → ArePaired word octets place → ArePaired word (slice_set octets place ((upper * 16 % 256 + lower) % 256)) (place + 1)
more_pairs word octets place upper lower inside first second before k h =
    elim (cases_lt k place) [
      | inl under ↦ get_or-set_other octets place k _ 0 (λ same. omega (arith, same, under)) ∙ before k under
      | inr over ↦
          let here : k ≡ place = omega (arith, h, over) in
          get_or-set_at octets place k _ 0 here inside ∙ rw (here, first, second) refl
    ]

-- what no digit is above, with one pair more
pub more_within : (word : List ℕ) (place greatest upper lower : ℕ)
    → upper ≡ digit_value (slice_index_or word (2 * place) 0) → lower ≡ digit_value (slice_index_or word (2 * place + 1) 0)
    → AreWithin word (2 * place) greatest → AreWithin word (2 * (place + 1)) (max (max greatest upper) lower)
more_within word place greatest upper lower first second before k h =
    let next = max (max greatest upper) lower in
    let front = le-max_left greatest upper in
    let of_upper = le-max_right greatest upper in
    let both = le-max_left (max greatest upper) lower in
    let of_lower = le-max_right (max greatest upper) lower in
    elim (cases_lt k (2 * place)) [
      | inl under ↦ let was = before k under in omega (arith, was, front, both)
      | inr over ↦ elim (cases_lt k (2 * place + 1)) [
        | inl middle ↦
            let here : 2 * place ≡ k = omega (arith, over, middle) in
            subst (λ j. digit_value (slice_index_or word j 0) ≤ next) here (omega (arith, first, of_upper, both))
        | inr last ↦
            let here : 2 * place + 1 ≡ k = omega (arith, h, last) in
            subst (λ j. digit_value (slice_index_or word j 0) ≤ next) here (omega (arith, second, of_lower))
      ]
    ]

-- which digit has the greatest value, with one pair more
pub more_shown : (word : List ℕ) (place greatest upper lower : ℕ)
    → upper ≡ digit_value (slice_index_or word (2 * place) 0) → lower ≡ digit_value (slice_index_or word (2 * place + 1) 0)
    → IsShown word (2 * place) greatest → IsShown word (2 * (place + 1)) (max (max greatest upper) lower)
more_shown word place greatest upper lower first second before =
    elim (one_of_both (max greatest upper) lower) [
      | inr last ↦ inr (2 * place + 1, omega arith, sym second ∙ sym last)
      | inl front ↦ elim (one_of_both greatest upper) [
        | inr middle ↦ inr (2 * place, omega arith, sym first ∙ sym (front ∙ middle))
        | inl old ↦ elim before [
          | inl none ↦ inl (front ∙ old ∙ none)
          | inr some ↦ inr (some.0, let h = some.1 in omega (arith, h), some.2 ∙ sym (front ∙ old))
        ]
      ]
    ]
