use Rattle.std.proofs.Common.{◌≡◌, ℕ, Bool, List, get_or, set, subst, sym, ◌∙◌, ap, arith}
use Rattle.std.specs.Prelude.{bit_xor}
use Rattle.std.proofs.lemmas.List.{get_or-set_same, length-set}
use Rattle.std.proofs.lemmas.Nat.{xor_lt}
use Rattle.dmr_bits.specs.Bits.{bits_of, xor_bits}
use Rattle.dmr_bits.proofs.Lists.{length-bits_of}
use Rattle.dmr_codes.specs.Seven.{IsHamming15, hamming15_columns}
use Rattle.dmr_bptc.specs.Decoding.{IsCorrected}
use Rattle.dmr_bptc.specs.Rows.{laid}
use Rattle.dmr_bptc.specs.ProductWord.{cell, row}
use Rattle.dmr_bptc.specs.declared.table.row_checks.TheConstants.{CELLS}
use Rattle.dmr_bptc.proofs.RightColumns.{kept_row}
use Rattle.dmr_bptc.proofs.RowChecks.{turned_cell, small_cell}
use Rattle.dmr_bptc.proofs.RowNumbers.{row_laid, small_more, cell_kept}
use Rattle.dmr_bptc.proofs.Turning.{places_of, unfailing, turned_row}
use Rattle.dmr_bptc.proofs.table.row_checks.correct_row.Goals as goal

-- a row in which no check fails is a word
right : (c : goal.Then-failing-eq0) → IsHamming15 (row c.args.table.now c.args.row_number)
right c =
    let rows : List ℕ = c.table.inside.rows in
    let i : ℕ = c.args.row_number in
    let received : ℕ = get_or rows i 0 in
    subst IsHamming15 (row_laid rows i c.requires.inside ∙ ap (λ l. row l i) c.table.view_is)
    (unfailing hamming15_columns (bits_of 15 received) c.failing_checks-failing.result (length-bits_of 15 received)
    c.failing_checks-failing.ensures.failing c.if-failing-eq0.true)

pub returns-then-failing-eq0-clause-word : goal.returns-then-failing-eq0-clause-word
returns-then-failing-eq0-clause-word c = right c

pub returns-then-failing-eq0-clause-corrected : goal.returns-then-failing-eq0-clause-corrected
returns-then-failing-eq0-clause-corrected c = kept_row (row c.args.table.now c.args.row_number) (right c)

pub invariant_of-table : goal.invariant_of-table
invariant_of-table c =
    let rows : List ℕ = c.table.inside.rows in
    let i : ℕ = c.args.row_number in
    let s : ℕ = c.failing_checks-failing.result in
    let n : ℕ = bit_xor (get_or rows i 0) (get_or CELLS s 0) in
    record {
      long = length-set rows i n ∙ c.table.invariant.long;
      small = small_more rows i n
          (xor_lt 15 (get_or rows i 0) (get_or CELLS s 0) (c.table.invariant.small i 0 (omega (arith, c.table.invariant.long)))
          (small_cell s c.failing_checks-failing.ensures.failing.small)) c.table.invariant.small;
    }

-- the row that is written, and what it is
new_row : (c : goal.After-table-2-1)
    → row (laid (set c.table.inside.rows c.args.row_number (bit_xor (get_or c.table.inside.rows c.args.row_number 0)
    (get_or CELLS c.failing_checks-failing.result 0)))) c.args.row_number
    ≡ xor_bits (bits_of 15 (get_or c.table.inside.rows c.args.row_number 0))
    (places_of hamming15_columns c.failing_checks-failing.result)
new_row c =
    let rows : List ℕ = c.table.inside.rows in
    let i : ℕ = c.args.row_number in
    let received : ℕ = get_or rows i 0 in
    let s : ℕ = c.failing_checks-failing.result in
    let n : ℕ = bit_xor received (get_or CELLS s 0) in
    sym (row_laid (set rows i n) i c.requires.inside)
    ∙ ap (bits_of 15) (get_or-set_same rows i n 0 (omega (arith, c.table.invariant.long, c.requires.inside)))
    ∙ turned_cell received s c.failing_checks-failing.ensures.failing.small

turned : (c : goal.After-table-2-1)
    → IsHamming15 (xor_bits (bits_of 15 (get_or c.table.inside.rows c.args.row_number 0))
    (places_of hamming15_columns c.failing_checks-failing.result))
    × IsCorrected IsHamming15 (bits_of 15 (get_or c.table.inside.rows c.args.row_number 0))
    (xor_bits (bits_of 15 (get_or c.table.inside.rows c.args.row_number 0))
    (places_of hamming15_columns c.failing_checks-failing.result))
turned c =
    let received : ℕ = get_or c.table.inside.rows c.args.row_number 0 in
    turned_row (bits_of 15 received) c.failing_checks-failing.result (length-bits_of 15 received)
    c.failing_checks-failing.ensures.failing

pub returns-clause-word : goal.returns-clause-word
returns-clause-word c = subst IsHamming15 (sym (new_row c)) (turned c).0

pub returns-clause-corrected : goal.returns-clause-corrected
returns-clause-corrected c =
    let rows : List ℕ = c.table.inside.rows in
    let i : ℕ = c.args.row_number in
    let received : ℕ = get_or rows i 0 in
    let s : ℕ = c.failing_checks-failing.result in
    let after : List Bool = laid (set rows i (bit_xor received (get_or CELLS s 0))) in
    let P : List Bool → Type 0 = λ x. IsCorrected IsHamming15 x (row after i) in
    subst P (row_laid rows i c.requires.inside ∙ ap (λ l. row l i) c.table.view_is)
    (subst (IsCorrected IsHamming15 (bits_of 15 received)) (sym (new_row c)) (turned c).1)

pub returns-clause-kept : goal.returns-clause-kept
returns-clause-kept c r k h l apart =
    let rows : List ℕ = c.table.inside.rows in
    let s : ℕ = c.failing_checks-failing.result in
    let n : ℕ = bit_xor (get_or rows c.args.row_number 0) (get_or CELLS s 0) in
    cell_kept rows c.args.row_number r k n h l apart ∙ ap (λ b. cell b r k) c.table.view_is
