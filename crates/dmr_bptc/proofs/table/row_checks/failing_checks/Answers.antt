use Rattle.dmr_bptc.proofs.RowChecks.{row_failing}
use Rattle.dmr_bptc.proofs.table.row_checks.failing_checks.Goals as goal

pub returns : goal.returns
returns c = record { failing = row_failing c.args.received c.requires.small }
