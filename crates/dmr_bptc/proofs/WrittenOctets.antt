-- The table of written forms of octets is that of its definition.
use Rattle.std.proofs.Common.{◌≡◌, ℕ, zero, suc, ◌+◌, ◌-◌, ◌*◌, ◌/◌, ◌%◌, ◌^◌, ◌<◌, ◌≤◌, ◌==◌, Bool, true, false}
use Rattle.std.proofs.Common.{List, [], ◌∷◌, ◌++◌}
use Rattle.std.proofs.Common.{replicate, refl, sym, ◌∙◌, ap, subst, arith, cond, get_or, eqb, eqb-true, not, ◌&&◌}
use Rattle.std.specs.Prelude.{bit_xor, nat_lt}
use Rattle.std.proofs.lemmas.Bool.{agree_below, agree_below_at, and_parts, not-true, ltb-true}
use Rattle.std.proofs.lemmas.List.FromFn.{length-map-range_with_len, get_or-map-range_with_len}
use Rattle.dmr_bits.specs.Bits.{bits_of, xor_bits}
use Rattle.dmr_bits.proofs.Lists.{length-bits_of, get_or-bits_of}
use Rattle.dmr_bits.proofs.Numbers.{bits_of_xor}
use Rattle.dmr_bits.proofs.Widths.{bits_of-join}
use Rattle.std.proofs.lemmas.List.{append_assoc}
use Rattle.std.proofs.lemmas.Nat.{pow_pos}
use Rattle.std.proofs.lemmas.Nat.Bits.{bit_at-zero}
use Rattle.dmr_codes.specs.Code.{ones_over, row_of, column_of}
use Rattle.dmr_codes.specs.Seven.{IsHamming13, IsHamming15, hamming13_columns, hamming15_columns}
use Rattle.dmr_bptc.specs.ProductWord.{place, cell, row, column, information, IsProductWord, IsWritten}
use Rattle.dmr_bptc.specs.Octets.{octet_alone, spelled}
use Rattle.dmr_bptc.specs.declared.written_octets.TheConstants.{WRITTEN}
use Rattle.dmr_bptc.proofs.Cells.{row_from, column_from, place_below, information_from}
use Rattle.dmr_bptc.proofs.WrittenSums.{written-xor}

-- ---- written forms that are numbers
-- the bit in a cell of the word whose bits a number spells
abbrev bit_in : ℕ → ℕ → ℕ → Bool
bit_in w r c = w / 2 ^ (195 - place r c) % 2 == 1

abbrev are_even : List ℕ → List Bool → Bool
are_even columns bits = agree_below (λ j. eqb (ones_over j columns bits % 2) 0) (λ j. true) 4

-- whether each row of a word is one of its code
abbrev pub are_rows : ℕ → Bool
are_rows w = agree_below (λ r. are_even hamming15_columns (row_of (bit_in w) 15 r)) (λ r. true) 13

-- whether each column of a word is one of its code
abbrev pub are_columns : ℕ → Bool
are_columns w = agree_below (λ c. are_even hamming13_columns (column_of (bit_in w) 13 c)) (λ c. true) 15

-- whether a word has the bits of a message in its information cells
abbrev pub holds : ℕ → ℕ → Bool
holds m w = agree_below (λ k. m / 2 ^ (95 - k) % 2 == 1) (λ k. bit_in w ((k + 3) / 11) ((k + 3) % 11)) 96

abbrev is_clear : ℕ → Bool
is_clear w = agree_below (λ c. bit_in w 0 c) (λ c. false) 3

-- whether a number spells the written form of the bits that another spells
is_written : ℕ → ℕ → Bool
is_written m w = are_rows w && (are_columns w && (holds m w && (is_clear w && not (w / 2 ^ 195 % 2 == 1))))

cell_is : (w r c : ℕ) → cell (bits_of 196 w) r c ≡ bit_in w r c
cell_is w r c = get_or-bits_of 196 w (place r c) (place_below r c)

row_is : (w r : ℕ) → row_of (bit_in w) 15 r ≡ row (bits_of 196 w) r
row_is w r =
    row_from (bits_of 196 w) (row_of (bit_in w) 15 r) r (length-map-range_with_len (λ c. bit_in w r c) 0 15)
    (λ c h. get_or-map-range_with_len (λ c. bit_in w r c) 0 15 c c false h (omega arith) ∙ sym (cell_is w r c))

column_is : (w c : ℕ) → column_of (bit_in w) 13 c ≡ column (bits_of 196 w) c
column_is w c =
    column_from (bits_of 196 w) (column_of (bit_in w) 13 c) c (length-map-range_with_len (λ r. bit_in w r c) 0 13)
    (λ r h. get_or-map-range_with_len (λ r. bit_in w r c) 0 13 r r false h (omega arith) ∙ sym (cell_is w r c))

-- a number that has the checks of a product word spells one
pub product_number : (w : ℕ) → are_rows w ≡ true → are_columns w ≡ true → IsProductWord (bits_of 196 w)
product_number w in_rows in_columns =
    record {
      rows = λ r h. subst IsHamming15 (row_is w r)
          (record {
            long = length-map-range_with_len (λ c. bit_in w r c) 0 15;
            even = λ j l. eqb-true (ones_over j hamming15_columns (row_of (bit_in w) 15 r) % 2) 0
                (agree_below_at (λ j. eqb (ones_over j hamming15_columns (row_of (bit_in w) 15 r) % 2) 0) (λ j. true) 4 j
                (agree_below_at (λ r. are_even hamming15_columns (row_of (bit_in w) 15 r)) (λ r. true) 13 r in_rows h) l);
          });
      columns = λ c h. subst IsHamming13 (column_is w c)
          (record {
            long = length-map-range_with_len (λ r. bit_in w r c) 0 13;
            even = λ j l. eqb-true (ones_over j hamming13_columns (column_of (bit_in w) 13 c) % 2) 0
                (agree_below_at (λ j. eqb (ones_over j hamming13_columns (column_of (bit_in w) 13 c) % 2) 0) (λ j. true) 4 j
                (agree_below_at (λ c. are_even hamming13_columns (column_of (bit_in w) 13 c)) (λ c. true) 15 c in_columns h) l);
          });
    }

-- and what it holds is spelled by the number that its cells are compared with
pub information_number : (m w : ℕ) → holds m w ≡ true → information (bits_of 196 w) ≡ bits_of 96 m
information_number m w held =
    sym (information_from (bits_of 196 w) (bits_of 96 m) (length-bits_of 96 m)
    (λ k h. get_or-bits_of 96 m k h
    ∙ agree_below_at (λ k. m / 2 ^ (95 - k) % 2 == 1) (λ k. bit_in w ((k + 3) / 11) ((k + 3) % 11)) 96 k held h
    ∙ sym (cell_is w ((k + 3) / 11) ((k + 3) % 11))))

written_number : (m w : ℕ) → is_written m w ≡ true → IsWritten (bits_of 96 m) (bits_of 196 w)
unfolding is_written
written_number m w e =
    let all = and_parts (are_rows w) _ e in
    let more = and_parts (are_columns w) _ all.1 in
    let rest = and_parts (holds m w) _ more.1 in
    let last = and_parts (is_clear w) _ rest.1 in
    record {
      long = length-bits_of 196 w;
      word = product_number w all.0 more.0;
      holds = information_number m w rest.0;
      reserved = record {
        cells = λ c h. cell_is w 0 c ∙ agree_below_at (λ c. bit_in w 0 c) (λ c. false) 3 c last.0 h;
        first = get_or-bits_of 196 w 0 (omega arith) ∙ not-true (w / 2 ^ 195 % 2 == 1) last.1;
      };
    }

-- ---- the entries of the table
-- the number that the 196 bits of four words spell
abbrev pub number_in : List ℕ → ℕ
number_in words = ((get_or words 0 0 * 2 ^ 64 + get_or words 1 0) * 2 ^ 64 + get_or words 2 0) * 2 ^ 4 + get_or words 3 0

-- the entry of the table for an octet of this value at this place
abbrev pub entry : ℕ → ℕ → List ℕ
entry p n = get_or (get_or WRITTEN p []) n []

-- whether the four parts of 196 bits are within their sizes: three have 64 bits, and the last one has four
abbrev pub are_small : List ℕ → Bool
are_small words =
    nat_lt (get_or words 0 0) (2 ^ 64)
    && (nat_lt (get_or words 1 0) (2 ^ 64) && (nat_lt (get_or words 2 0) (2 ^ 64) && nat_lt (get_or words 3 0) (2 ^ 4)))

-- the message with one octet
abbrev message : ℕ → ℕ → ℕ
message p n = n * 2 ^ (88 - 8 * p)

-- the sums of the entries, and of the messages, of the lowest bits of an octet
sum_of : (ℕ → ℕ) → ℕ → ℕ → ℕ
sum_of f zero n = 0
sum_of f (suc j) n = bit_xor (sum_of f j n) (cond (n / 2 ^ j % 2 == 1) (f (2 ^ j)) 0)

units_are : (i : ℕ) → i < 96 → is_written (message (i / 8) (2 ^ (i % 8))) (number_in (entry (i / 8) (2 ^ (i % 8)))) ≡ true
unfolding is_written
units_are i h =
    agree_below_at (λ i. is_written (message (i / 8) (2 ^ (i % 8))) (number_in (entry (i / 8) (2 ^ (i % 8)))))
    (λ i. true) 96 i refl h

entries_are : (i : ℕ) → i < 3072
    → (eqb (sum_of (λ m. number_in (entry (i / 256) m)) 8 (i % 256)) (number_in (entry (i / 256) (i % 256)))
    && (eqb (sum_of (message (i / 256)) 8 (i % 256)) (message (i / 256) (i % 256)) && are_small (entry (i / 256) (i % 256)))) ≡ true
unfolding sum_of
entries_are i h =
    agree_below_at
    (λ i. eqb (sum_of (λ m. number_in (entry (i / 256) m)) 8 (i % 256)) (number_in (entry (i / 256) (i % 256)))
    && (eqb (sum_of (message (i / 256)) 8 (i % 256)) (message (i / 256) (i % 256)) && are_small (entry (i / 256) (i % 256))))
    (λ i. true) 3072 i refl h

nothing_written : IsWritten (bits_of 96 0) (bits_of 196 0)
unfolding is_written
nothing_written = written_number 0 0 refl

unit_written : (p j : ℕ) (t : Bool) → p < 12 → j < 8
    → IsWritten (bits_of 96 (cond t (message p (2 ^ j)) 0)) (bits_of 196 (cond t (number_in (entry p (2 ^ j))) 0))
unit_written p j false h l = nothing_written
unit_written p j true h l =
    let place : (8 * p + j) / 8 ≡ p = omega arith in
    let bit : (8 * p + j) % 8 ≡ j = omega arith in
    let P : ℕ → ℕ → Type 0 = λ q i. is_written (message q (2 ^ i)) (number_in (entry q (2 ^ i))) ≡ true in
    written_number (message p (2 ^ j)) (number_in (entry p (2 ^ j)))
    (subst (P p) bit (subst (λ q. P q ((8 * p + j) % 8)) place (units_are (8 * p + j) (omega arith))))

sums_written : (p n j : ℕ) → p < 12 → j ≤ 8
    → IsWritten (bits_of 96 (sum_of (message p) j n)) (bits_of 196 (sum_of (λ m. number_in (entry p m)) j n))
unfolding sum_of
sums_written p n zero h l = nothing_written
sums_written p n (suc j) h l =
    let F : ℕ → ℕ = λ m. number_in (entry p m) in
    let t : Bool = n / 2 ^ j % 2 == 1 in
    let more : ℕ = cond t (message p (2 ^ j)) 0 in
    let added : ℕ = cond t (F (2 ^ j)) 0 in
    let both = written-xor (bits_of 96 (sum_of (message p) j n)) (bits_of 96 more) (bits_of 196 (sum_of F j n)) (bits_of 196 added)
    (sums_written p n j h (omega arith)) (unit_written p j t h (omega arith)) in
    subst (IsWritten (bits_of 96 (bit_xor (sum_of (message p) j n) more))) (sym (bits_of_xor 196 (sum_of F j n) added))
    (subst (λ (m : List Bool). IsWritten m (xor_bits (bits_of 196 (sum_of F j n)) (bits_of 196 added)))
    (sym (bits_of_xor 96 (sum_of (message p) j n) more)) both)

-- the bits of zero are zeros
zeros_of : (w : ℕ) → bits_of w 0 ≡ replicate w false
zeros_of zero = refl
zeros_of (suc w) =
    let head : (0 / 2 ^ w % 2 == 1) ≡ false = ap (λ n. n == 1) (bit_at-zero w) in
    let tail = zeros_of w in cc

message_is : (p n : ℕ) → p < 12 → n < 256 → bits_of 96 (message p n) ≡ octet_alone p n
message_is p n h l =
    let b : ℕ = 88 - 8 * p in
    let none : n * 2 ^ b ≡ n * 2 ^ b + 0 = omega arith in
    let other : n ≡ 0 * 2 ^ 8 + n = omega arith in
    ap (bits_of 96) none
    ∙ bits_of-join (8 * p + 8) b 96 n 0 (omega arith) (pow_pos b)
    ∙ ap (λ x. x ++ bits_of b 0)
    (ap (bits_of (8 * p + 8)) other ∙ bits_of-join (8 * p) 8 (8 * p + 8) 0 n refl l ∙ ap (λ x. x ++ bits_of 8 n) (zeros_of (8 * p)))
    ∙ ap (λ x. (replicate (8 * p) false ++ bits_of 8 n) ++ x) (zeros_of b)
    ∙ append_assoc (replicate (8 * p) false) (bits_of 8 n) (replicate b false)

-- the bits of the number in four parts are those of each part, one behind the other
pub spelled_is : (words : List ℕ) → are_small words ≡ true → bits_of 196 (number_in words) ≡ spelled words
spelled_is words e =
    let a : ℕ = get_or words 0 0 in
    let b : ℕ = get_or words 1 0 in
    let c : ℕ = get_or words 2 0 in
    let d : ℕ = get_or words 3 0 in
    let all = and_parts (nat_lt a (2 ^ 64)) _ e in
    let more = and_parts (nat_lt b (2 ^ 64)) _ all.1 in
    let last = and_parts (nat_lt c (2 ^ 64)) _ more.1 in
    bits_of-join 192 4 196 ((a * 2 ^ 64 + b) * 2 ^ 64 + c) d refl (ltb-true d (2 ^ 4) last.1)
    ∙ ap (λ x. x ++ bits_of 4 d)
    (bits_of-join 128 64 192 (a * 2 ^ 64 + b) c refl (ltb-true c (2 ^ 64) last.0)
    ∙ ap (λ x. x ++ bits_of 64 c) (bits_of-join 64 64 128 a b refl (ltb-true b (2 ^ 64) more.0)))
    ∙ append_assoc (bits_of 64 a ++ bits_of 64 b) (bits_of 64 c) (bits_of 4 d)
    ∙ append_assoc (bits_of 64 a) (bits_of 64 b) (bits_of 64 c ++ bits_of 4 d)

record IsEntry (p n : ℕ) : Type 0 where
  sum : sum_of (λ m. number_in (entry p m)) 8 n ≡ number_in (entry p n)
  whole : sum_of (message p) 8 n ≡ message p n
  small : are_small (entry p n) ≡ true

entry_is : (p n : ℕ) → p < 12 → n < 256 → IsEntry p n
entry_is p n h l =
    let place : (256 * p + n) / 256 ≡ p = omega arith in
    let octet : (256 * p + n) % 256 ≡ n = omega arith in
    let at = entries_are (256 * p + n) (omega arith) in
    let first = and_parts (eqb (sum_of (λ m. number_in (entry ((256 * p + n) / 256) m)) 8 ((256 * p + n) % 256)) (number_in (entry
    ((256 * p + n) / 256) ((256 * p + n) % 256)))) _ at in
    let rest = and_parts (eqb (sum_of (message ((256 * p + n) / 256)) 8 ((256 * p + n) % 256)) (message ((256 * p + n) / 256)
    ((256 * p + n) % 256))) _ first.1 in
    subst (IsEntry p) octet
    (subst (λ q. IsEntry q ((256 * p + n) % 256)) place
    (record { sum = eqb-true _ _ first.0; whole = eqb-true _ _ rest.0; small = rest.1 }))

-- each entry is the written form of its octet
pub octet_written : (p n : ℕ) → p < 12 → n < 256 → IsWritten (octet_alone p n) (spelled (entry p n))
octet_written p n h l =
    let is = entry_is p n h l in
    subst (IsWritten (octet_alone p n)) (ap (bits_of 196) is.sum ∙ spelled_is (entry p n) is.small)
    (subst (λ (m : List Bool). IsWritten m (bits_of 196 (sum_of (λ k. number_in (entry p k)) 8 n)))
    (ap (bits_of 96) is.whole ∙ message_is p n h l) (sums_written p n 8 h (omega arith)))

-- the last word of each entry has four bits
pub last_fits : (p n : ℕ) → p < 12 → n < 256 → get_or (entry p n) 3 0 < 16
last_fits p n h l =
    let words : List ℕ = entry p n in
    let all = and_parts (nat_lt (get_or words 0 0) (2 ^ 64)) _ (entry_is p n h l).small in
    let more = and_parts (nat_lt (get_or words 1 0) (2 ^ 64)) _ all.1 in
    let last = and_parts (nat_lt (get_or words 2 0) (2 ^ 64)) _ more.1 in
    ltb-true (get_or words 3 0) (2 ^ 4) last.1

-- nothing is written for nothing
pub zeros_written : IsWritten (replicate 96 false) (spelled (0 ∷ 0 ∷ 0 ∷ 0 ∷ []))
zeros_written =
    let long : bits_of 96 0 ≡ replicate 96 false = refl in
    let sent : bits_of 196 0 ≡ spelled (0 ∷ 0 ∷ 0 ∷ 0 ∷ []) = refl in
    subst (IsWritten (replicate 96 false)) sent
    (subst (λ (m : List Bool). IsWritten m (bits_of 196 0)) long nothing_written)
