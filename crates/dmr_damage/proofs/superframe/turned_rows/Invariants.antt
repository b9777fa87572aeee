use Rattle.std.proofs.Common.{◌≡◌, ℕ, ◌<◌, ◌≤◌}
use Rattle.dmr_bits.specs.Bits.{distance}
use Rattle.dmr_embedded.specs.EmbeddedWord.{row}
use Rattle.dmr_damage.proofs.superframe.turned_rows.Given as goal

abbrev pub invariant-loop-row : goal.invariant-loop-row
invariant-loop-row l = record {
  near : (r : ℕ) → r < 8 → r < l.row → distance (row l.bits r) (row l.found r) ≤ 1;
  ahead : (r : ℕ) → r < 8 → l.row ≤ r → row l.found r ≡ row l.bits r;
}
