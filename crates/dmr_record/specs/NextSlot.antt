-- What stands next in a recording: a slot, or its end.
use Rattle.std.specs.Prelude.{Option, Some, None}
use Rattle.dmr_record.specs.declared.next_slot.NextSlot.{NextSlot}
use Rattle.dmr_record.specs.declared.next_slot.NextSlot.TheVariants.{Slot, End}

-- the slot that stands next, where one does
abbrev pub slot_if_any : {B : Type 0} → NextSlot B → Option (Option B)
slot_if_any (Slot slot) = Some slot
slot_if_any End = None

-- where a slot stands next, this holds of it
abbrev pub IfSlot : {B : Type 0} → NextSlot B → (Option B → Type 0) → Type 0
IfSlot (Slot slot) Is = Is slot
IfSlot End Is = Unit {0}

-- where a recording is at its end, this holds
abbrev pub IfNoSlot : {B : Type 0} → NextSlot B → Type 0 → Type 0
IfNoSlot (Slot slot) holds = Unit {0}
IfNoSlot End holds = holds
