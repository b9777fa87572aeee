use Rattle.std.proofs.Common.{◌≡◌, ◌-◌, ◌^◌, ◌<◌, drop}
use Rattle.dmr_codes.specs.Seven.{hamming13_columns}
use Rattle.dmr_bptc.specs.Sums.{sum_rows}
use Rattle.dmr_bptc.proofs.table.checks.sum_of.Given as goal

abbrev pub invariant-loop-above : goal.invariant-loop-above
invariant-loop-above l = record {
  value : l.sum ≡ sum_rows l.check (drop (13 - l.above) hamming13_columns) (drop (13 - l.above) l.rows);
  fits : l.sum < 2 ^ 15;
}
