-- The slots so far were listed, and the next record begins at this octet.
use Rattle.std.proofs.Common.{◌≡◌, ◌+◌, ◌*◌, ◌-◌, ◌≤◌, List, [], length, false}
use Rattle.dmr_recording.specs.Places.{octet_behind}
use Rattle.dmr_listing.specs.ListingRules.{IsListed}
use Rattle.dmr_recording.specs.Recordings.{RecordedSlot, slot_limit_of, spelling}
use Rattle.dmr_listing.proofs.listing.list_recording.Given as goal

abbrev pub invariant-loop-slot : goal.invariant-loop-slot
invariant-loop-slot g l = record {
  source : g.S.Source.has_failed l.source ≡ false;
  lines : g.L.Taker.has_failed l.lines ≡ false;
  kept : g.L.Taker.kept l.lines ≡ g.L.Taker.kept l.initial.lines;
  few : l.view.slots ≤ slot_limit_of l.recording;
  room : l.octet ≤ 8 + 37 * l.view.slots;
  so_far : (slots : List RecordedSlot) × (length slots ≡ l.view.slots) × (l.octet ≡ octet_behind (spelling l.recording) slots)
      × IsListed g.L.Taker.Takes l.recording slots [] l.view (g.S.Source.left l.initial.source) (g.S.Source.left l.source)
      l.initial.lines l.lines;
}

abbrev pub decreases-loop-slot : goal.decreases-loop-slot
decreases-loop-slot g l = slot_limit_of l.recording - l.view.slots
