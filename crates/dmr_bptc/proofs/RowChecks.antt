-- The checks that fail in a row, from those of its two parts, and the cell that they correct.
use Rattle.std.proofs.Common.{◌≡◌, ℕ, zero, suc, ◌+◌, ◌*◌, ◌/◌, ◌%◌, ◌^◌, ◌<◌, Bool, true, List, take, drop, refl, sym, ◌∙◌, ap}
use Rattle.std.proofs.Common.{arith}
use Rattle.std.proofs.Common.{get_or, eqb, eqb-true}
use Rattle.std.specs.Prelude.{bit_xor, nat_lt}
use Rattle.std.proofs.lemmas.Bool.{agree_below_at, ltb-true}
use Rattle.std.proofs.lemmas.Nat.{xor_lt}
use Rattle.std.proofs.lemmas.Nat.Bits.{bit_at_xor}
use Rattle.dmr_bits.specs.Bits.{bits_of, number_of, xor_bits}
use Rattle.dmr_bits.proofs.Lists.{bits_of_spelled}
use Rattle.dmr_bits.proofs.Widths.{bits_of-take, bits_of-drop, bits_of-mod}
use Rattle.dmr_bits.proofs.Sums.{bits_of_xor}
use Rattle.dmr_codes.specs.Code.{ones_over}
use Rattle.dmr_codes.specs.Words.{ones_over_split}
use Rattle.dmr_codes.specs.Seven.{hamming15_columns}
use Rattle.dmr_bptc.specs.Sums.{AreFailing}
use Rattle.dmr_bptc.proofs.Turning.{places_of}
use Rattle.dmr_bptc.specs.declared.table.row_checks.TheConstants.{FRONT_CHECKS, BACK_CHECKS, CELLS}

-- the checks with an odd number of ones, as the bits of a number
abbrev checks : List ℕ → List Bool → ℕ
checks cs w = ones_over 0 cs w % 2 + 2 * (ones_over 1 cs w % 2) + 4 * (ones_over 2 cs w % 2) + 8 * (ones_over 3 cs w % 2)

front_is : (n : ℕ) → n < 256 → get_or FRONT_CHECKS n 0 ≡ checks (take 8 hamming15_columns) (bits_of 8 n)
front_is n h = eqb-true (get_or FRONT_CHECKS n 0) (checks (take 8 hamming15_columns) (bits_of 8 n))
    (agree_below_at (λ i. eqb (get_or FRONT_CHECKS i 0) (checks (take 8 hamming15_columns) (bits_of 8 i))) (λ i. true) 256 n refl h)

back_is : (n : ℕ) → n < 128 → get_or BACK_CHECKS n 0 ≡ checks (drop 8 hamming15_columns) (bits_of 7 n)
back_is n h = eqb-true (get_or BACK_CHECKS n 0) (checks (drop 8 hamming15_columns) (bits_of 7 n))
    (agree_below_at (λ i. eqb (get_or BACK_CHECKS i 0) (checks (drop 8 hamming15_columns) (bits_of 7 i))) (λ i. true) 128 n refl h)

-- the ones of a row are those of its two parts
parts : (j n : ℕ) → ones_over j hamming15_columns (bits_of 15 n)
    ≡ ones_over j (take 8 hamming15_columns) (bits_of 8 (n / 2 ^ 7)) + ones_over j (drop 8 hamming15_columns) (bits_of 7
    (n % 2 ^ 7))
parts j n =
    ones_over_split j 8 hamming15_columns (bits_of 15 n)
    ∙ ap {B = ℕ} (λ l. ones_over j (take 8 hamming15_columns) l + ones_over j (drop 8 hamming15_columns) (drop 8 (bits_of 15 n)))
    (bits_of-take 8 7 15 n refl)
    ∙ ap {B = ℕ} (λ l. ones_over j (take 8 hamming15_columns) (bits_of 8 (n / 2 ^ 7)) + ones_over j (drop 8 hamming15_columns) l)
    (bits_of-drop 8 7 15 n refl ∙ sym (bits_of-mod 7 n))

-- a bit of the checks
check_bit : (cs : List ℕ) (w : List Bool) (j : ℕ) → j < 4 → checks cs w / 2 ^ j % 2 ≡ ones_over j cs w % 2
check_bit cs w zero h = omega arith
check_bit cs w (suc zero) h = omega arith
check_bit cs w (suc (suc zero)) h = omega arith
check_bit cs w (suc (suc (suc zero))) h = omega arith
check_bit cs w (suc (suc (suc (suc j)))) h = absurd (omega arith)

checks_small : (cs : List ℕ) (w : List Bool) → checks cs w < 16
checks_small cs w = omega arith

-- the checks that fail in a row are those that fail in one of its two parts
pub row_failing : (n : ℕ) → n < 2 ^ 15
    → AreFailing hamming15_columns (bits_of 15 n) (bit_xor (get_or FRONT_CHECKS (n / 2 ^ 7) 0) (get_or BACK_CHECKS (n % 2 ^ 7) 0))
row_failing n small =
    let front : ℕ = get_or FRONT_CHECKS (n / 2 ^ 7) 0 in
    let back : ℕ = get_or BACK_CHECKS (n % 2 ^ 7) 0 in
    let F : List Bool = bits_of 8 (n / 2 ^ 7) in
    let B : List Bool = bits_of 7 (n % 2 ^ 7) in
    let first : front ≡ checks (take 8 hamming15_columns) F = front_is (n / 2 ^ 7) (omega arith) in
    let second : back ≡ checks (drop 8 hamming15_columns) B = back_is (n % 2 ^ 7) (omega arith) in
    record {
      small = xor_lt 4 front back (omega (arith, first, checks_small (take 8 hamming15_columns) F))
          (omega (arith, second, checks_small (drop 8 hamming15_columns) B));
      tied = λ j h.
          let one : front / 2 ^ j % 2 ≡ ones_over j (take 8 hamming15_columns) F % 2 =
          ap (λ m. m / 2 ^ j % 2) first ∙ check_bit (take 8 hamming15_columns) F j h in
          let two : back / 2 ^ j % 2 ≡ ones_over j (drop 8 hamming15_columns) B % 2 =
          ap (λ m. m / 2 ^ j % 2) second ∙ check_bit (drop 8 hamming15_columns) B j h in
          omega (arith, bit_at_xor front back j, one, two, parts j n);
    }

-- the cell that is turned
cell_is : (s : ℕ) → s < 16 → bits_of 15 (get_or CELLS s 0) ≡ places_of hamming15_columns s
cell_is s h =
    let turn : List Bool = places_of hamming15_columns s in
    ap (bits_of 15) (eqb-true (get_or CELLS s 0) (number_of turn)
    (agree_below_at (λ i. eqb (get_or CELLS i 0) (number_of (places_of hamming15_columns i))) (λ i. true) 16 s refl h))
    ∙ bits_of_spelled 15 turn refl

-- each entry of the table of cells fits the fifteen bits of a row
pub small_cell : (s : ℕ) → s < 16 → get_or CELLS s 0 < 2 ^ 15
small_cell s h = ltb-true _ _ (agree_below_at (λ i. nat_lt (get_or CELLS i 0) (2 ^ 15)) (λ i. true) 16 s refl h)

-- a row whose cell is turned
pub turned_cell : (received s : ℕ) → s < 16
    → bits_of 15 (bit_xor received (get_or CELLS s 0)) ≡ xor_bits (bits_of 15 received) (places_of hamming15_columns s)
turned_cell received s h =
    bits_of_xor 15 received (get_or CELLS s 0) ∙ ap (xor_bits (bits_of 15 received)) (cell_is s h)
