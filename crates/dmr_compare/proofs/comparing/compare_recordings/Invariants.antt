-- What was read of the two recordings was compared.
use Rattle.std.proofs.Common.{◌≡◌, ◌+◌, List, false}
use Rattle.dmr_compare.proofs.SlotsBeside.{SlotsBeside}
use Rattle.dmr_compare.specs.Reading.{slots_to_come}
use Rattle.dmr_compare.specs.Slots.{ListedSlot}
use Rattle.dmr_compare.proofs.comparing.compare_recordings.Given as goal

abbrev pub invariant-loop-found : goal.invariant-loop-found
invariant-loop-found g l = record {
  first : g.S.Source.has_failed l.first ≡ false;
  second : g.T.Source.has_failed l.second ≡ false;
  sink : g.K.Sink.has_failed l.sink ≡ false;
  one : l.one.recording ≡ l.fn.recording;
  other : l.other.recording ≡ l.fn.recording;
  beside : (firsts : List ListedSlot) × (seconds : List ListedSlot) × SlotsBeside l.settings l.one l.other l.counts firsts seconds
      (g.S.Source.left l.fn.first) (g.S.Source.left l.first) (g.T.Source.left l.fn.second) (g.T.Source.left l.second)
      (g.K.Sink.held l.fn.sink) (g.K.Sink.held l.sink);
}

abbrev pub decreases-loop-found : goal.decreases-loop-found
decreases-loop-found g l = slots_to_come l.one + slots_to_come l.other
