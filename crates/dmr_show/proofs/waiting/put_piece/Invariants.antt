-- The front of the piece has gone out.
use Rattle.std.proofs.Common.{length, ◌-◌, ◌≡◌, ◌≤◌, take}
use Rattle.std.specs.Io.KnownBytes.{Appends}
use Rattle.dmr_show.proofs.waiting.put_piece.Given as goal

abbrev pub invariant-loop-done : goal.invariant-loop-done
invariant-loop-done g l = record {
  within : l.done ≤ length l.piece;
  failure : g.K.Sink.has_failed l.sink ≡ g.K.Sink.has_failed l.initial.sink;
  octets : Appends (g.K.Sink.held l.initial.sink) (g.K.Sink.held l.sink) (take l.done l.piece);
}

abbrev pub decreases-loop-done : goal.decreases-loop-done
decreases-loop-done g l = length l.piece - l.done
