-- What is kept of a slot behind some frames of it.
use Rattle.std.specs.Prelude.{Bool, List, [], ◌∷◌, Option, Some, None}
use Rattle.dmr_listing.specs.Lines.{SlotPast, after_burst, passed}
use Rattle.dmr_reading.specs.declared.reading.Reading.{Reading}

-- A frame of a slot: silence, or a burst by what it is read as and its bits.
abbrev pub SlotFrame : Type 0
SlotFrame = Option (Reading × List Bool)

-- a frame later
abbrev pub behind_frame : SlotFrame → SlotPast → SlotPast
behind_frame None past = passed past
behind_frame (Some burst) past = after_burst burst.0 burst.1 past

-- behind these frames, one after another
abbrev pub behind_frames : List SlotFrame → SlotPast → SlotPast
behind_frames [] past = past
behind_frames (frame ∷ frames) past = behind_frames frames (behind_frame frame past)
