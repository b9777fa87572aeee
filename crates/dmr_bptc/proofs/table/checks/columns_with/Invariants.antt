use Rattle.std.proofs.Common.{◌≡◌, ◌↔◌, ℕ, ◌-◌, ◌/◌, ◌%◌, ◌^◌, ◌<◌}
use Rattle.dmr_bptc.specs.Sums.{fails}
use Rattle.dmr_bptc.proofs.table.checks.columns_with.Given as goal

abbrev pub invariant-loop-check : goal.invariant-loop-check
invariant-loop-check l = record {
  left : (c : ℕ) → c < 15 → (l.columns / 2 ^ (14 - c) % 2 ≡ 1)
      ↔ ((j : ℕ) → j < l.check → fails l.failing j c ≡ l.checks / 2 ^ j % 2);
  fits : l.columns < 2 ^ 15;
}
