use Rattle.std.proofs.Common.{ℕ, ◌<◌, ◌==◌, Bool, List, subst, sym, ap, eqb-true}
use Rattle.dmr_codes.specs.Seven.{IsHamming13, hamming13_columns}
use Rattle.dmr_bits.specs.Bits.{xor_bits}
use Rattle.dmr_bptc.specs.Decoding.{IsCorrected}
use Rattle.dmr_bptc.specs.Rows.{laid}
use Rattle.dmr_bptc.specs.Sums.{failing_in}
use Rattle.dmr_bptc.specs.ProductWord.{column}
use Rattle.dmr_bptc.proofs.Cells.{length-column}
use Rattle.dmr_bptc.proofs.RightColumns.{failing_column, turned_cells, none_left, kept_word}
use Rattle.dmr_bptc.proofs.Turning.{places_of, unfailing, turned_column, turned_column_word}
use Rattle.dmr_bptc.proofs.table.checks.correct_columns.Goals as goal

-- where no check fails, all columns are words
right : (c : goal.Then-none_fails) (k : ℕ) → k < 15 → IsHamming13 (column c.args.table.now k)
right c k h =
    let rows : List ℕ = c.table.inside.rows in
    let failing : List ℕ = c.failing_columns-failing.result in
    subst IsHamming13 (ap (λ l. column l k) c.table.view_is)
    (unfailing hamming13_columns (column (laid rows) k) (failing_in failing k) (length-column (laid rows) k)
    (failing_column rows failing k c.table.invariant.long h c.failing_columns-failing.ensures.value)
    (c.none_fails.ensures.tells.0 c.if-none_fails.true k h))

pub returns-then-none_fails-clause-words : goal.returns-then-none_fails-clause-words
returns-then-none_fails-clause-words c = λ all. right c

pub returns-then-none_fails-clause-corrected : goal.returns-then-none_fails-clause-corrected
returns-then-none_fails-clause-corrected c k h = kept_word (column c.args.table.now k) (right c k h)

pub returns-clause-words : goal.returns-clause-words
returns-clause-words c e k h =
    let rows : List ℕ = c.table.inside.rows in
    let after : List ℕ = c.turn_wrong_bits.new.rows in
    let failing : List ℕ = c.failing_columns-failing.result in
    let checks : ℕ = failing_in failing k in
    let old : List Bool = column (laid rows) k in
    subst IsHamming13
    (sym (turned_cells rows after k checks h (λ r l. c.turn_wrong_bits.ensures.turned r k l h)))
    (turned_column_word old checks (length-column (laid rows) k)
    (failing_column rows failing k c.table.invariant.long h c.failing_columns-failing.ensures.value)
    (none_left k c.columns_with.result c.columns_with-2.result (checks == 9) (checks == 13) h (eqb-true _ 0 e)
    (c.columns_with.ensures.value k h) (c.columns_with-2.ensures.value k h)))

pub returns-clause-corrected : goal.returns-clause-corrected
returns-clause-corrected c k h =
    let rows : List ℕ = c.table.inside.rows in
    let after : List ℕ = c.turn_wrong_bits.new.rows in
    let failing : List ℕ = c.failing_columns-failing.result in
    let checks : ℕ = failing_in failing k in
    let old : List Bool = column (laid rows) k in
    let new : List Bool = xor_bits old (places_of hamming13_columns checks) in
    let is : IsCorrected IsHamming13 old new =
    turned_column old checks (length-column (laid rows) k)
    (failing_column rows failing k c.table.invariant.long h c.failing_columns-failing.ensures.value) in
    let P : List Bool → Type 0 = λ x. IsCorrected IsHamming13 x (column (laid after) k) in
    subst P (ap (λ l. column l k) c.table.view_is)
    (subst (IsCorrected IsHamming13 old)
    (sym (turned_cells rows after k checks h (λ r l. c.turn_wrong_bits.ensures.turned r k l h))) is)
