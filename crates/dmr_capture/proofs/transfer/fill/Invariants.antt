-- What has come stands in the buffer up to this place.
use Rattle.std.proofs.Common.{◌-◌, ◌≡◌, ◌≤◌, length, take, false}
use Rattle.dmr_capture.proofs.Filled.{Filled}
use Rattle.dmr_capture.proofs.transfer.fill.Given as goal

abbrev pub invariant-loop-done : goal.invariant-loop-done
invariant-loop-done g l = record {
  within : l.done ≤ l.to;
  room : l.to ≤ length l.buffer;
  well : g.S.Source.has_failed l.source ≡ false;
  octets : Filled (g.S.Source.left l.initial.source) (g.S.Source.left l.source) (take l.from l.initial.buffer) l.from l.buffer
      l.done;
}

abbrev pub decreases-loop-done : goal.decreases-loop-done
decreases-loop-done g l = l.to - l.done
