-- The slots of a recording, with what a listing shows of each.
use Rattle.std.specs.Prelude.{◌≡◌, List, [], ◌∷◌, Option, Some, None, map, ℕ, codes}
use Rattle.std.specs.List.{flat_map}
use Rattle.dmr_listing.specs.ListingRules.{IsLineAt, ListingTurn, turn_after, turn_passed}
use Rattle.dmr_listing.specs.declared.burst_line.BurstLine.{BurstLine}
use Rattle.dmr_recording.specs.Recordings.{RecordedSlot}
use Rattle.dmr_listing.specs.declared.listed_burst.ListedBurst.{ListedBurst}

-- Silence, or a burst with its line.
abbrev pub ListedSlot : Type 0
ListedSlot = Option ListedBurst

-- the slot as the file has it
abbrev pub bare_slot : ListedSlot → RecordedSlot
bare_slot None = None
bare_slot (Some listed) = Some listed.burst

-- the slots as the file has them
abbrev pub bare_slots : List ListedSlot → List RecordedSlot
bare_slots slots = map bare_slot slots

-- what is printed of a slot; that of a burst is left open here
abbrev pub slot_text : ListedSlot → Option (List ℕ)
slot_text None = Some (codes "silence")
slot_text (Some listed) = None

-- the line that a listing has of a slot: none of silence
abbrev pub line_in_slot : ListedSlot → List BurstLine
line_in_slot None = []
line_in_slot (Some listed) = listed.line ∷ []

-- the lines that a listing has of slots
abbrev pub lines_of : List ListedSlot → List BurstLine
lines_of slots = flat_map line_in_slot slots

-- A listing goes on from one turn to another over a slot, which has this line where it is a burst.
abbrev pub IsListedAt : ListingTurn → ListedSlot → ListingTurn → Type 0
IsListedAt turn None next = next ≡ turn_passed turn
IsListedAt turn (Some listed) next =
    IsLineAt turn listed.burst listed.line × (next ≡ turn_after listed.line listed.burst turn)
