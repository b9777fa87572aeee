-- These slots were read, and not more than are in front.
use Rattle.std.proofs.Common.{◌≡◌, ◌≤◌, List, length, false}
use Rattle.dmr_compare.specs.Reading.{HasRead, slots_to_come}
use Rattle.dmr_compare.specs.Slots.{ListedSlot}
use Rattle.dmr_compare.proofs.reader.SlotReader.pass.Given as goal

abbrev pub invariant-loop-self : goal.invariant-loop-self
invariant-loop-self g l = record {
  source : g.S.Source.has_failed l.source ≡ false;
  recording : l.self.recording ≡ l.initial.self.recording;
  read : (slots : List ListedSlot) × (length slots ≤ l.front)
      × HasRead l.self slots (g.S.Source.left l.initial.source) (g.S.Source.left l.source);
}

abbrev pub decreases-loop-self : goal.decreases-loop-self
decreases-loop-self g l = slots_to_come l.self
