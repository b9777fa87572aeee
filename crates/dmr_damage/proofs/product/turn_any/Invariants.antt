use Rattle.std.proofs.Common.{◌≡◌, ◌≢◌, ℕ, ◌<◌}
use Rattle.dmr_bptc.specs.ProductWord.{column}
use Rattle.dmr_damage.proofs.product.turn_any.Given as goal

abbrev pub invariant-loop-row : goal.invariant-loop-row
invariant-loop-row l = record { kept : (c : ℕ) → c < 15 → c ≢ l.column_number → column l.bits c ≡ column l.fn.bits c }
