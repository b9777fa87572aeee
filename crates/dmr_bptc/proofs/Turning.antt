-- Bits in which the one place is turned whose column is what the failing checks spell.
use Rattle.std.proofs.Common.{◌≡◌, ℕ, zero, suc, ◌+◌, ◌/◌, ◌%◌, ◌^◌, ◌==◌, ◌<◌, ◌≤◌, ◌||◌, ◌&&◌, Bool, true, false, List}
use Rattle.std.proofs.Common.{[], ◌∷◌, length, map, get_or, refl, sym, ◌∙◌, ap, arith, inl, inr, lit<, ◌⊎◌, not}
use Rattle.std.specs.Prelude.{nat_lt}
use Rattle.std.proofs.lemmas.Bool.{agree_below_at, eqb-true, ltb-true, ltb-false, and_parts, cases_lt}
use Rattle.std.proofs.lemmas.List.{length-map}
use Rattle.std.proofs.lemmas.Nat.Bits.{bit_at-zero, same_from_bits_below}
use Rattle.dmr_bits.specs.Bits.{xor_bits, weight, distance}
use Rattle.dmr_bits.proofs.Lists.{length-xor_bits, weight-cons, distance-cons, distance_zero}
use Rattle.dmr_codes.specs.Code.{ones_over, IsWord}
use Rattle.dmr_codes.specs.Words.{ones_over-xor, one_within}
use Rattle.dmr_codes.specs.LeastColumns.{least_three}
use Rattle.dmr_codes.specs.Seven.{IsHamming13, IsHamming15, hamming13_columns, hamming13_shaped, hamming15_columns}
use Rattle.dmr_codes.specs.Seven.{hamming15_shaped}
use Rattle.dmr_bptc.specs.Decoding.{IsCorrected}
use Rattle.dmr_bptc.specs.Sums.{AreFailing}

-- a one at each place whose column is this number
abbrev pub places_of : List ℕ → ℕ → List Bool
places_of columns checks = map (λ c. checks == c) columns

-- what is turned undoes all checks, in one place at most
abbrev undoes : List ℕ → ℕ → Bool
undoes columns checks = (ones_over 0 columns (places_of columns checks) % 2 == checks / 2 ^ 0 % 2)
    && ((ones_over 1 columns (places_of columns checks) % 2 == checks / 2 ^ 1 % 2)
    && ((ones_over 2 columns (places_of columns checks) % 2 == checks / 2 ^ 2 % 2)
    && ((ones_over 3 columns (places_of columns checks) % 2 == checks / 2 ^ 3 % 2)
    && nat_lt (weight (places_of columns checks)) 2)))

turned_far : (old turn : List Bool) → length old ≡ length turn → distance (xor_bits old turn) old ≡ weight turn
turned_far [] [] e = refl
turned_far [] (y ∷ turn) e = absurd (omega arith)
turned_far (x ∷ old) [] e = absurd (omega arith)
turned_far (true ∷ old) (true ∷ turn) e =
    omega (arith, distance-cons false true (xor_bits old turn) old, weight-cons true turn, turned_far old turn (omega arith))
turned_far (true ∷ old) (false ∷ turn) e =
    omega (arith, distance-cons true true (xor_bits old turn) old, weight-cons false turn, turned_far old turn (omega arith))
turned_far (false ∷ old) (true ∷ turn) e =
    omega (arith, distance-cons true false (xor_bits old turn) old, weight-cons true turn, turned_far old turn (omega arith))
turned_far (false ∷ old) (false ∷ turn) e =
    omega (arith, distance-cons false false (xor_bits old turn) old, weight-cons false turn, turned_far old turn (omega arith))

-- bits in which no check fails are a word, and a word has no failing check
pub unfailing : (columns : List ℕ) (bits : List Bool) (checks : ℕ) → length bits ≡ length columns → AreFailing columns bits checks
    → checks ≡ 0 → IsWord columns 4 bits
unfailing columns bits checks long fail none = record {
  long = long;
  even = λ j h. sym (fail.tied j h) ∙ ap (λ n. n / 2 ^ j % 2) none ∙ bit_at-zero j;
}

-- in a word no check fails
pub none_failing : (columns : List ℕ) (bits : List Bool) (checks : ℕ) → AreFailing columns bits checks → IsWord columns 4 bits
    → checks ≡ 0
none_failing columns bits checks fail is =
    same_from_bits_below 4 checks 0 fail.small (omega arith) (λ j h. fail.tied j h ∙ is.even j h ∙ sym (bit_at-zero j))

-- bits whose checks are undone are a word within one place
undone : (columns : List ℕ) (old : List Bool) (checks : ℕ) → length old ≡ length columns → AreFailing columns old checks
    → undoes columns checks ≡ true
    → IsWord columns 4 (xor_bits old (places_of columns checks)) × (distance (xor_bits old (places_of columns checks)) old ≤ 1)
undone columns old checks long fail holds =
    let turn : List Bool = places_of columns checks in
    let wide : length turn ≡ length columns = length-map columns (λ c. checks == c) in
    let first = and_parts _ _ holds in
    let second = and_parts _ _ first.1 in
    let third = and_parts _ _ second.1 in
    let fourth = and_parts _ _ third.1 in (
      record {
        long = length-xor_bits old turn (long ∙ sym wide) ∙ long;
        even = each (eqb-true _ _ first.0) (eqb-true _ _ second.0) (eqb-true _ _ third.0) (eqb-true _ _ fourth.0);
      },
      omega (arith, turned_far old turn (long ∙ sym wide), ltb-true (weight turn) 2 fourth.1),
    )
  where
    turn : List Bool
    turn = places_of columns checks

    sum : (j : ℕ) → ones_over j columns (xor_bits old turn) % 2 ≡ (ones_over j columns old + ones_over j columns turn) % 2
    sum j = ones_over-xor j columns old turn (long ∙ sym (length-map columns (λ c. checks == c)))

    each : ones_over 0 columns turn % 2 ≡ checks / 2 ^ 0 % 2 → ones_over 1 columns turn % 2 ≡ checks / 2 ^ 1 % 2
        → ones_over 2 columns turn % 2 ≡ checks / 2 ^ 2 % 2 → ones_over 3 columns turn % 2 ≡ checks / 2 ^ 3 % 2
        → (j : ℕ) → j < 4 → ones_over j columns (xor_bits old turn) % 2 ≡ 0
    each a b c d zero h = omega (arith, sum 0, fail.tied 0 h, a)
    each a b c d (suc zero) h = omega (arith, sum 1, fail.tied 1 h, b)
    each a b c d (suc (suc zero)) h = omega (arith, sum 2, fail.tied 2 h, c)
    each a b c d (suc (suc (suc zero))) h = omega (arith, sum 3, fail.tied 3 h, d)
    each a b c d (suc (suc (suc (suc j)))) h = absurd (omega arith)

-- a word within one place is what the bits are corrected to
pub corrected_to : (columns : List ℕ) (old new : List Bool)
    → ((w : List Bool) → IsWord columns 4 w → 0 < weight w → 3 ≤ weight w) → length old ≡ length columns → IsWord columns 4 new
    → distance new old ≤ 1 → IsCorrected (IsWord columns 4) old new
corrected_to columns old new least long is near = record {
  word = λ w word close. one_within columns 4 3 1 new w old least (lit< tt) long is word near close;
  same = λ none. absurd (omega (arith, none new is));
}

-- ---- rows
row_undoes : (checks : ℕ) → checks < 16 → undoes hamming15_columns checks ≡ true
row_undoes checks h = agree_below_at (λ s. undoes hamming15_columns s) (λ s. true) 16 checks refl h

-- a row with the bit turned that its failing checks tell is a word, and what it is corrected to
pub turned_row : (old : List Bool) (checks : ℕ) → length old ≡ 15 → AreFailing hamming15_columns old checks
    → IsHamming15 (xor_bits old (places_of hamming15_columns checks))
    × IsCorrected IsHamming15 old (xor_bits old (places_of hamming15_columns checks))
turned_row old checks long fail =
    let both = undone hamming15_columns old checks long fail (row_undoes checks fail.small) in (
      both.0,
      corrected_to hamming15_columns old (xor_bits old (places_of hamming15_columns checks))
          (least_three 15 11 hamming15_columns hamming15_shaped refl refl) long both.0 both.1,
    )

-- ---- columns
-- the failing checks that no wrong bit of one row gives
abbrev pub is_of_no_row : ℕ → Bool
is_of_no_row checks = (checks == 9) || (checks == 13)

column_undoes : (checks : ℕ) → checks < 16 → is_of_no_row checks || undoes hamming13_columns checks ≡ true
column_undoes checks h =
    agree_below_at (λ s. is_of_no_row s || undoes hamming13_columns s) (λ s. true) 16 checks refl h

undoes_column : (of_no_row holds : Bool) → of_no_row || holds ≡ true → of_no_row ≡ false → holds ≡ true
undoes_column true holds e f = cc
undoes_column false holds e f = e

-- a column with the bit turned that its failing checks tell is a word, unless they tell of no row
pub turned_column_word : (old : List Bool) (checks : ℕ) → length old ≡ 13 → AreFailing hamming13_columns old checks
    → is_of_no_row checks ≡ false
    → IsHamming13 (xor_bits old (places_of hamming13_columns checks))
turned_column_word old checks long fail some =
    (undone hamming13_columns old checks long fail
    (undoes_column (is_of_no_row checks) (undoes hamming13_columns checks) (column_undoes checks fail.small) some)).0

-- without ones there are none over any check
nothing : (j : ℕ) (columns : List ℕ) (turn : List Bool) → weight turn ≤ 0 → ones_over j columns turn ≡ 0
nothing j [] turn h = refl
nothing j (c ∷ columns) [] h = refl
nothing j (c ∷ columns) (true ∷ turn) h = absurd (omega (arith, weight-cons true turn))
nothing j (c ∷ columns) (false ∷ turn) h =
    omega (arith, weight-cons false turn, nothing j columns turn (omega (arith, weight-cons false turn)))

-- ones in one place at most have no ones over any check, or those of the place's column
lone : (columns : List ℕ) (turn : List Bool) → length turn ≡ length columns → weight turn ≤ 1
    → ((j : ℕ) → ones_over j columns turn ≡ 0)
    ⊎ ((i : ℕ) × (i < length columns) × ((j : ℕ) → ones_over j columns turn ≡ get_or columns i 0 / 2 ^ j % 2))
lone [] turn e h = inl (λ j. refl)
lone (c ∷ columns) [] e h = absurd (omega arith)
lone (c ∷ columns) (false ∷ turn) e h =
    elim (lone columns turn (omega arith) (omega (arith, weight-cons false turn))) [
      | inl none ↦ inl (λ j. omega (arith, none j))
      | inr one ↦ inr (suc one.0, omega (arith, one.1), λ j. omega (arith, one.2 j))
    ]
lone (c ∷ columns) (true ∷ turn) e h =
    inr (0, omega arith, λ j. omega (arith, nothing j columns turn (omega (arith, weight-cons true turn))))

-- no word is within one place of a column whose failing checks are those of no row
column_checks : (i : ℕ) → i < 13 → is_of_no_row (get_or hamming13_columns i 0) || nat_lt 15 (get_or hamming13_columns i 0) ≡ false
column_checks i h =
    agree_below_at (λ i. is_of_no_row (get_or hamming13_columns i 0) || nat_lt 15 (get_or hamming13_columns i 0)) (λ i. false) 13 i
    refl h

odd_checks : (checks : ℕ) → checks < 16 → not (is_of_no_row checks) || (checks / 2 ^ 0 % 2 == 1) ≡ true
odd_checks checks h = agree_below_at (λ s. not (is_of_no_row s) || (s / 2 ^ 0 % 2 == 1)) (λ s. true) 16 checks refl h

implied : (a b : Bool) → not a || b ≡ true → a ≡ true → b ≡ true
implied true b e f = e
implied false b e f = cc

apart : (a b : Bool) (x y : ℕ) → a || b ≡ false → x ≡ y → (b ≡ false) × (a ≡ false)
apart true b x y e f = cc
apart false b x y e f = (e, refl)

pub no_word : (old : List Bool) (checks : ℕ) → length old ≡ 13 → AreFailing hamming13_columns old checks
    → is_of_no_row checks ≡ true → (w : List Bool) → IsHamming13 w → 1 < distance w old
no_word old checks long fail none w is =
    elim (cases_lt 1 (distance w old)) [
      | inl far ↦ far
      | inr near ↦
          let turn : List Bool = xor_bits w old in
          let wide : length turn ≡ 13 = length-xor_bits w old (is.long ∙ sym long) ∙ is.long in
          let over : (j : ℕ) → j < 4 → ones_over j hamming13_columns turn % 2 ≡ checks / 2 ^ j % 2 =
          λ j h. omega (arith, ones_over-xor j hamming13_columns w old (is.long ∙ sym long), is.even j h, fail.tied j h) in
          elim (lone hamming13_columns turn wide (omega arith)) [
            | inl clear ↦
                (let odd = eqb-true (checks / 2 ^ 0 % 2) 1 (implied _ _ (odd_checks checks fail.small) none) in
                absurd (omega (arith, odd, over 0 (omega arith), clear 0)))
            | inr one ↦
                (let column : ℕ = get_or hamming13_columns one.0 0 in
                let test = apart (is_of_no_row column) (nat_lt 15 column) 0 0 (column_checks one.0 one.1) refl in
                let same : column ≡ checks =
                same_from_bits_below 4 column checks (omega (arith, ltb-false 15 column test.0)) fail.small
                (λ j h. omega (arith, over j h, one.2 j)) in
                absurd (cc (ap is_of_no_row same)))
          ]
    ]

unturned : (checks : ℕ) → checks < 16 → not (is_of_no_row checks) || nat_lt (weight (places_of hamming13_columns checks)) 1 ≡ true
unturned checks h =
    agree_below_at (λ s. not (is_of_no_row s) || nat_lt (weight (places_of hamming13_columns s)) 1) (λ s. true) 16 checks refl h

-- a column is corrected
pub turned_column : (old : List Bool) (checks : ℕ) → length old ≡ 13 → AreFailing hamming13_columns old checks
    → IsCorrected IsHamming13 old (xor_bits old (places_of hamming13_columns checks))
turned_column old checks long fail = by_row (is_of_no_row checks) refl
  where
    turn : List Bool
    turn = places_of hamming13_columns checks

    by_row : (none : Bool) → is_of_no_row checks ≡ none → IsCorrected IsHamming13 old (xor_bits old turn)
    by_row false e =
        let both = undone hamming13_columns old checks long fail
        (undoes_column (is_of_no_row checks) (undoes hamming13_columns checks) (column_undoes checks fail.small) e) in
        corrected_to hamming13_columns old (xor_bits old turn) (least_three 13 9 hamming13_columns hamming13_shaped refl refl) long
        both.0 both.1
    by_row true e =
        let still : distance (xor_bits old turn) old ≡ 0 =
        omega (
          arith,
          turned_far old turn (long ∙ sym (length-map hamming13_columns (λ c. checks == c))),
          ltb-true (weight turn) 1 (implied _ _ (unturned checks fail.small) e),
        ) in
        let wide : length (xor_bits old turn) ≡ length old =
        length-xor_bits old turn (long ∙ sym (length-map hamming13_columns (λ c. checks == c))) in
        record {
          word = λ w is near. absurd (omega (arith, no_word old checks long fail e w is));
          same = λ none. distance_zero (xor_bits old turn) old wide still;
        }
