-- Which bursts of a downlink are repeated, and what they are.
use Rattle.std.specs.Prelude.{◌≡◌, Bool, true, false, List, [], ◌∷◌, Option, Some, None, if◌then◌else◌}
use Rattle.dmr_link.specs.declared.full_lc.FullLc.{FullLc}
use Rattle.dmr_listing.specs.ListingRules.{IsLineAt, ListingTurn, turn_after, turn_passed}
use Rattle.dmr_listing.specs.declared.access_type.AccessType.{AccessType}
use Rattle.dmr_listing.specs.declared.access_type.AccessType.TheVariants.{Busy, Free}
use Rattle.dmr_listing.specs.declared.burst_line.BurstLine.{BurstLine}
use Rattle.dmr_listing.specs.declared.contents.Contents.{Contents}
use Rattle.dmr_listing.specs.declared.contents.Contents.TheVariants.{LinkControl}
use Rattle.dmr_listing.specs.declared.voice_place.VoicePlace.{VoicePlace}
use Rattle.dmr_log.specs.Repeated.{data_told}
use Rattle.dmr_log.specs.declared.repeated.ControlKind.TheVariants.{DataType}
use Rattle.dmr_log.specs.declared.repeated.Repeated.{Repeated}
use Rattle.dmr_log.specs.declared.repeated.Repeated.TheVariants.{Control, Place}
use Rattle.dmr_reading.specs.declared.reading.Reading.{Reading}
use Rattle.dmr_reading.specs.declared.reading.Reading.TheVariants as reading
use Rattle.dmr_recording.specs.Recordings.{RecordedSlot}
use Rattle.dmr_recording.specs.declared.recording.RecordedBurst.{RecordedBurst}
use Rattle.dmr_dmrd_export.specs.declared.burst.SentKind.{SentKind}
use Rattle.dmr_dmrd_export.specs.declared.burst.SentKind.TheVariants as kind
use Rattle.dmr_dmrd_export.specs.declared.burst.RepeatedBurst.{RepeatedBurst}

-- 1. Which bursts are repeated.

-- a CACH says that the burst behind it is repeated: it announces the channel as busy
abbrev pub is_marked : Option AccessType → Bool
is_marked None = false
is_marked (Some Free) = false
is_marked (Some Busy) = true

-- the burst that is repeated, by the line that a listing has of it, or none
abbrev pub repeated_with : BurstLine → RecordedBurst → Option RepeatedBurst
repeated_with line recorded =
    if is_marked line.access_type then Some (record { line = line; octets = recorded.burst }) else None

-- The next slot of a downlink has this repeated burst, or none: a listing shows this line of it.
abbrev pub IsRepeatedNext : ListingTurn → RecordedSlot → Option RepeatedBurst → ListingTurn → Type 0
IsRepeatedNext turn None burst next = (burst ≡ None) × (next ≡ turn_passed turn)
IsRepeatedNext turn (Some recorded) burst next =
    (line : BurstLine) × IsLineAt turn recorded line × (burst ≡ repeated_with line recorded)
    × (next ≡ turn_after line recorded turn)

-- The slots of a downlink have these repeated bursts, one or none each.
abbrev pub AreRepeated : ListingTurn → List RecordedSlot → List (Option RepeatedBurst) → ListingTurn → Type 0
AreRepeated turn [] bursts end = (bursts ≡ []) × (end ≡ turn)
AreRepeated turn (slot ∷ slots) [] end = ⊥
AreRepeated turn (slot ∷ slots) (burst ∷ bursts) end =
    (next : ListingTurn) × IsRepeatedNext turn slot burst next × AreRepeated next slots bursts end

-- 2. What they are.

-- the link control that a data burst holds, or else that of the headers in front of it
abbrev pub own_or_headers : Option Contents → Option FullLc → Option FullLc
own_or_headers (Some (LinkControl lc)) headers = Some lc
own_or_headers contents headers = headers

abbrev pub told_as : Option FullLc → Reading → Option Contents → Repeated
told_as headers (reading.Data side slot_type information) contents =
    data_told slot_type.kind (own_or_headers contents headers) contents
told_as headers (reading.Untyped side) contents = Control (DataType 15)
told_as headers r contents = Place None false

-- What a repeated burst is to a log, behind headers of a call with this link control. Whatever has no data sync is a place of a
-- call, as a burst that the repeater has sent, and 15 is the data type of a slot type that can't be read.
abbrev pub told_by_line : Option FullLc → BurstLine → Repeated
told_by_line headers line = told_as headers line.reading line.contents

abbrev pub kind_as : Reading → Option VoicePlace → SentKind
kind_as (reading.Data side slot_type information) place = kind.Data slot_type.kind
kind_as (reading.Untyped side) place = kind.Data 15
kind_as r place = kind.Voice place

-- What its packet tells that it is: data of its type, or voice in the place that a listing shows.
abbrev pub kind_of_line : BurstLine → SentKind
kind_of_line line = kind_as line.reading line.voice_place

-- the link control that a listing shows where this burst is repeated: the newest four frames carry it
abbrev pub carried_with : Option RepeatedBurst → Option FullLc
carried_with None = None
carried_with (Some burst) = burst.line.link_control
