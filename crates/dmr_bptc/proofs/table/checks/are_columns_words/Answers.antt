use Rattle.std.proofs.Common.{ℕ, List, subst, sym, ap}
use Rattle.dmr_codes.specs.Seven.{IsHamming13, hamming13_columns}
use Rattle.dmr_bptc.specs.Rows.{laid}
use Rattle.dmr_bptc.specs.Sums.{failing_in}
use Rattle.dmr_bptc.specs.ProductWord.{column}
use Rattle.dmr_bptc.proofs.Cells.{length-column}
use Rattle.dmr_bptc.proofs.RightColumns.{failing_column}
use Rattle.dmr_bptc.proofs.Turning.{unfailing, none_failing}
use Rattle.dmr_bptc.proofs.table.checks.are_columns_words.Goals as goal

pub returns : goal.returns
returns c =
    let rows : List ℕ = c.table.inside.rows in
    let failing : List ℕ = c.failing_columns.result in
    record {
      tells = (
        λ e k h. subst IsHamming13 (ap (λ l. column l k) c.table.view_is)
            (unfailing hamming13_columns (column (laid rows) k) (failing_in failing k) (length-column (laid rows) k)
            (failing_column rows failing k c.table.invariant.long h c.failing_columns.ensures.value)
            (c.none_fails.ensures.tells.0 e k h)),
        λ words. c.none_fails.ensures.tells.1
            (λ k h. none_failing hamming13_columns (column (laid rows) k) (failing_in failing k)
            (failing_column rows failing k c.table.invariant.long h c.failing_columns.ensures.value)
            (subst IsHamming13 (sym (ap (λ l. column l k) c.table.view_is)) (words k h))),
      );
    }
