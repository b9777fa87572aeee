-- Capital digits by way of small ones.
use Rattle.std.proofs.Common.{◌≡◌, ℕ, ◌+◌, ◌*◌, ◌/◌, ◌%◌, ◌<◌, ◌==◌, zero, suc, Bool, true, false, ◌≤◌, ◌&&◌, inl, inr, List, []}
use Rattle.std.proofs.Common.{◌∷◌, ◌++◌, length, map}
use Rattle.std.proofs.Common.{Result, Ok, Err, slice_index, refl, sym, ap, ◌∙◌, arith, append-nil}
use Rattle.std.proofs.lemmas.List.{append_assoc, length-append}
use Rattle.std.proofs.lemmas.Bool.{and_parts, cases_lt, eqb-true}
use Rattle.std.specs.Prelude.{IsOk, OnOk, ◌↔◌}
use Rattle.std.specs.Char.{to_ascii_uppercase}
use Rattle.dmr_text.specs.Spelling.{octets_word}
use Rattle.hex.proofs.HexLemmas.{length-encode_with}
use Rattle.hex.specs.Hex.{IsBytes, encode_lower, encode_upper, encode_with, lower_digits, upper_digits}

abbrev is_raised : ℕ → Bool
is_raised d = to_ascii_uppercase (slice_index lower_digits d) == slice_index upper_digits d

abbrev all_raised : ℕ → Bool
all_raised zero = true
all_raised (suc n) = is_raised n && all_raised n

raised_at : (n d : ℕ) → all_raised n ≡ true → d < n → is_raised d ≡ true
raised_at zero d h lt = absurd (omega arith)
raised_at (suc n) d h lt =
    let parts = and_parts (is_raised n) (all_raised n) h in
    elim (cases_lt d n) [
      | inl below ↦ raised_at n d parts.1 below
      | inr top ↦
          let e : d ≡ n = omega arith in
          rw e parts.0
    ]

digit_raised : (d : ℕ) → d < 16 → to_ascii_uppercase (slice_index lower_digits d) ≡ slice_index upper_digits d
digit_raised d lt = eqb-true (to_ascii_uppercase (slice_index lower_digits d)) (slice_index upper_digits d) (raised_at 16 d refl lt)

pub upper_of_lower : (octets : List ℕ) → IsBytes octets → map to_ascii_uppercase (encode_lower octets) ≡ encode_upper octets
unfolding encode_with
upper_of_lower [] bytes = refl
upper_of_lower (o ∷ octets) bytes =
    let fits : o < 256 = bytes 0 in
    let high : o / 16 < 16 = omega arith in
    let low : o % 16 < 16 = omega arith in
    let rest = upper_of_lower octets (λ k. bytes (suc k)) in
    rw (digit_raised (o / 16) high, digit_raised (o % 16) low, rest) refl

-- octets that were made small digits, which are made capital ones
pub raised : {E : Type 0} (result : Result Unit E) (old new octets : List ℕ) → IsBytes octets
    → (IsOk result ↔ (length old ≡ 2 * length octets)) → OnOk result (new ≡ encode_lower octets)
    → length old ≡ 2 * length octets → map to_ascii_uppercase new ≡ encode_upper octets
raised (Ok x) old new octets bytes fits written room = ap (map to_ascii_uppercase) written ∙ upper_of_lower octets bytes
raised (Err e) old new octets bytes fits written room = cc (fits.1 room)

-- the digits of octets in two pieces
pub digits_append : (front rest : List ℕ) → encode_upper (front ++ rest) ≡ encode_upper front ++ encode_upper rest
unfolding encode_with
digits_append [] rest = refl
digits_append (o ∷ front) rest = rw (digits_append front rest) refl

-- octets have two digits each
pub digits_length : (octets : List ℕ) → length (encode_upper octets) ≡ 2 * length octets
digits_length octets = length-encode_with upper_digits octets

-- a piece more was made digits
pub digits_on : (self new front back rest : List ℕ) → new ≡ self ++ encode_upper front → front ++ back ≡ rest
    → new ++ encode_upper back ≡ self ++ encode_upper rest
digits_on self new front back rest made whole =
    ap (λ l. l ++ encode_upper back) made
    ∙ append_assoc self (encode_upper front) (encode_upper back)
    ∙ ap (λ l. self ++ l) (sym (digits_append front back) ∙ ap encode_upper whole)

-- octets that were made digits are their word, where there are any
octets_are_digits : (octets : List ℕ) → (length octets == 0) ≡ false → octets_word octets ≡ encode_upper octets
octets_are_digits [] some = cc some
octets_are_digits (o ∷ octets) some = refl

none_left : (rest : List ℕ) → (length rest == 0) ≡ true → rest ≡ []
none_left [] none = refl
none_left (o ∷ rest) none = let e = eqb-true (length (o ∷ rest)) 0 none in absurd (omega (arith, e))

-- all of them were
pub digits_done : (old begun self octets rest : List ℕ) → begun ≡ old ++ 32 ∷ []
    → self ++ encode_upper rest ≡ begun ++ encode_upper octets
    → (length rest == 0) ≡ true → (length octets == 0) ≡ false → self ≡ old ++ (32 ∷ octets_word octets)
unfolding encode_with
digits_done old begun self octets rest begins made none some =
    sym (append-nil self)
    ∙ ap (λ l. self ++ encode_upper l) (sym (none_left rest none))
    ∙ made
    ∙ ap (λ l. l ++ encode_upper octets) begins
    ∙ append_assoc old (32 ∷ []) (encode_upper octets)
    ∙ ap (λ l. old ++ (32 ∷ l)) (sym (octets_are_digits octets some))

-- the word for octets is at most one octet longer than two digits for each of them
pub word_length : (octets : List ℕ) → length (octets_word octets) ≤ 1 + 2 * length octets
word_length [] = omega arith
word_length (o ∷ octets) = let e = digits_length (o ∷ octets) in omega (arith, e)

-- a space and that word make a line longer by two for each octet, and at most two more
pub word_behind_length : (old octets new : List ℕ) → new ≡ old ++ (32 ∷ octets_word octets)
    → length new ≤ length old + 2 + 2 * length octets
word_behind_length old octets new e =
    let whole = ap length e in
    let word = word_length octets in
    omega (arith, whole, word, length-append old (32 ∷ octets_word octets))
