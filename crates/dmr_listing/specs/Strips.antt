-- What strips show of a recording: what stands in each slot, frame by frame, and each once.
use Rattle.std.specs.Prelude.{◌≡◌, ◌==◌, ℕ, ◌+◌, ◌/◌, ◌<◌, ◌&&◌, Bool, List, [], ◌∷◌, ◌++◌, Option, Some, None, take}
use Rattle.std.specs.Prelude.{length, map, drop, nat_le, if◌then◌else◌}
use Rattle.dmr_recording.specs.Places.{place_by_number}
use Rattle.dmr_listing.specs.ListingRules.{GivenInTurn, IsLineAt, IsRead, IsReadUpToFault, IsRefusedBehind, ListingTurn, turn_after}
use Rattle.dmr_listing.specs.ListingRules.{turn_passed}
use Rattle.dmr_listing.specs.Marks.{mark_of}
use Rattle.dmr_recording.specs.Recordings.{RecordedSlot}
use Rattle.dmr_listing.specs.declared.burst_line.BurstLine.{BurstLine}
use Rattle.dmr_recording.specs.declared.fault_line.FaultLine.{FaultLine}
use Rattle.dmr_listing.specs.declared.frames.Frames.{Frames}
use Rattle.dmr_listing.specs.declared.mark.Mark.{Mark}
use Rattle.dmr_listing.specs.declared.mark.Mark.TheVariants.{Silence}
use Rattle.dmr_recording.specs.declared.place.Place.{Place}
use Rattle.dmr_recording.specs.declared.recording.Recording.{Recording}

-- What a strip shows: its first frame, and the marks of slot 1 and slot 2 of its frames in turn.
pub record Picture : Type 0 where
  pub frame : ℕ
  pub marks : List Mark

-- the most marks that a strip has: those of both slots of 50 frames
abbrev pub most_marks : ℕ
most_marks = 100

-- whether a frame is one of these
abbrev pub has : Frames → ℕ → Bool
has frames frame = nat_le frames.first frame && nat_le frame frames.last

-- The mark of the next slot: silence, or that of the line that its burst has there.
abbrev pub IsMarkAt : ListingTurn → RecordedSlot → Mark → ListingTurn → Type 0
IsMarkAt turn None mark end = (mark ≡ Silence) × (end ≡ turn_passed turn)
IsMarkAt turn (Some burst) mark end =
    (line : BurstLine) × IsLineAt turn burst line × (mark ≡ mark_of line) × (end ≡ turn_after line burst turn)

-- the mark of the slot of this number with its place, where its frame is asked for
abbrev pub shown : Frames → ℕ → Mark → List (Place × Mark)
shown frames number mark = if has frames (number / 2) then (place_by_number number, mark) ∷ [] else []

-- The marks of slots, whose bursts have these lines, from the slot of this number on: one for each slot whose frame is asked for,
-- with its place.
abbrev pub shown_marks : Frames → ℕ → List RecordedSlot → List BurstLine → List (Place × Mark)
shown_marks frames number [] lines = []
shown_marks frames number (None ∷ slots) lines = shown frames number Silence ++ shown_marks frames (number + 1) slots lines
shown_marks frames number (Some burst ∷ slots) [] = []
shown_marks frames number (Some burst ∷ slots) (line ∷ lines) =
    shown frames number (mark_of line) ++ shown_marks frames (number + 1) slots lines

-- The strip has exactly these marks, and begins in the frame of the first of them.
abbrev pub IsStripOf : List (Place × Mark) → Picture → Type 0
IsStripOf [] strip = strip.marks ≡ []
IsStripOf (first ∷ more) strip =
    (strip.frame ≡ (first.0).frame) × (strip.marks ≡ map (λ (m : Place × Mark). m.1) (first ∷ more))

-- The strips of marks, in order: each of as many as it can have, but for the last, and none without any.
abbrev pub AreStrips : List (Place × Mark) → List Picture → Type 0
AreStrips marks [] = marks ≡ []
AreStrips marks (strip ∷ strips) =
    (0 < length marks) × IsStripOf (take most_marks marks) strip × AreStrips (drop most_marks marks) strips

-- the first frame of a strip with one mark more: the one that it had, or the new mark's where it had no marks
abbrev pub strip_frame : List Mark → ℕ → ℕ → ℕ
strip_frame [] before frame = frame
strip_frame (mark ∷ marks) before frame = before

-- the strip with the mark of one slot more
abbrev pub pushed : Place → Mark → Picture → Picture
pushed place mark strip = record {
  frame = strip_frame strip.marks strip.frame place.frame;
  marks = strip.marks ++ mark ∷ [];
}

-- the strip with the mark of one slot more, where its frame is asked for
abbrev pub pushed_in : Frames → Place → Mark → Picture → Picture
pushed_in frames place mark strip = if has frames place.frame then pushed place mark strip else strip

-- the strip of the last marks, unless there are none
abbrev pub unless_empty : Picture → List Picture
unless_empty strip = if length strip.marks == 0 then [] else strip ∷ []

-- A strip was given to a taker where it is full, and an empty one waits in its place.
pub record IsGivenWhereFull {L : Type 0} (Takes : L → Picture → L → Type 0) (strip waiting : Picture) (old new : L) : Type 0 where
  pub full : length strip.marks ≡ most_marks → (waiting.marks ≡ []) × GivenInTurn Takes old (strip ∷ []) new
  pub other : length strip.marks < most_marks → (waiting ≡ strip) × GivenInTurn Takes old [] new

-- These slots of a recording were read behind its head, and these octets of the next one, and a taker was given the strips of the
-- slots.
pub record IsStripped {L : Type 0} (Takes : L → Picture → L → Type 0) (recording : Recording) (frames : Frames)
    (slots : List RecordedSlot) (part : List ℕ) (end : ListingTurn) (left_old left_new : Option (List ℕ)) (old new : L)
    : Type 0 where
  pub lines : List BurstLine
  pub read : IsRead recording slots lines part end left_old left_new
  pub strips : List Picture
  pub drawn : AreStrips (shown_marks frames 0 slots lines) strips
  pub given : GivenInTurn Takes old strips new

-- The recording was read up to a slot that shows this fault, and a taker was given the strips of the slots before it.
pub record IsStrippedUpToFault {L : Type 0} (Takes : L → Picture → L → Type 0) (recording : Recording) (frames : Frames)
    (fault : FaultLine) (left_old left_new : Option (List ℕ)) (old new : L) : Type 0 where
  pub slots : List RecordedSlot
  pub lines : List BurstLine
  pub read : IsReadUpToFault recording slots lines fault left_old left_new
  pub strips : List Picture
  pub drawn : AreStrips (shown_marks frames 0 slots lines) strips
  pub given : GivenInTurn Takes old strips new

-- The recording was read up to a slot, and of the strips of these slots a taker was given all but the last, which it refused.
pub record IsStrippedUpToStrip {L : Type 0} (Takes Refuses : L → Picture → L → Type 0) (recording : Recording) (frames : Frames)
    (left_old left_new : Option (List ℕ)) (old new : L) : Type 0 where
  pub slots : List RecordedSlot
  pub lines : List BurstLine
  pub part : List ℕ
  pub end : ListingTurn
  pub read : IsRead recording slots lines part end left_old left_new
  pub strips : List Picture
  pub last : Picture
  pub drawn : AreStrips (shown_marks frames 0 slots lines) (strips ++ last ∷ [])
  pub given : IsRefusedBehind Takes Refuses old strips last new
