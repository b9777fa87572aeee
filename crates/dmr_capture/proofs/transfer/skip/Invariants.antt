-- So many octets were passed over, and these are left.
use Rattle.std.proofs.Common.{◌≡◌, ◌+◌, List, ℕ, length, false}
use Rattle.std.specs.Io.KnownBytes.{Consumes}
use Rattle.dmr_capture.proofs.transfer.skip.Given as goal

abbrev pub invariant-loop-left : goal.invariant-loop-left
invariant-loop-left g l = record {
  well : g.S.Source.has_failed l.source ≡ false;
  chunk : length l.chunk ≡ 1024;
  octets : (passed : List ℕ) × Consumes (g.S.Source.left l.initial.source) (g.S.Source.left l.source) passed
      × (length passed + l.left ≡ l.count);
}

abbrev pub decreases-loop-left : goal.decreases-loop-left
decreases-loop-left g l = l.left
