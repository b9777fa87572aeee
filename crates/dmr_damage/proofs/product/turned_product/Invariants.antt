use Rattle.std.proofs.Common.{◌≡◌, ◌≢◌, ℕ, ◌<◌, ◌≤◌}
use Rattle.dmr_bits.specs.Bits.{distance}
use Rattle.dmr_bptc.specs.ProductWord.{column}
use Rattle.dmr_damage.proofs.product.turned_product.Given as goal

abbrev pub invariant-loop-column : goal.invariant-loop-column
invariant-loop-column l = record {
  near : (c : ℕ) → c < 15 → c ≢ l.bad → c < l.column → distance (column l.information c) (column l.bits c) ≤ 1;
  ahead : (c : ℕ) → c < 15 → l.column ≤ c → column l.bits c ≡ column l.information c;
}
