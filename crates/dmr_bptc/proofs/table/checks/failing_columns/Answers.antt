use Rattle.dmr_bptc.proofs.ColumnSums.{four_sums}
use Rattle.dmr_bptc.proofs.table.checks.failing_columns.Goals as goal

pub returns-clause-value : goal.returns-clause-value
returns-clause-value c = four_sums c.args.rows.now c.sum_of.result c.sum_of-2.result c.sum_of-3.result c.sum_of-4.result
    c.sum_of.ensures.value c.sum_of-2.ensures.value c.sum_of-3.ensures.value c.sum_of-4.ensures.value
