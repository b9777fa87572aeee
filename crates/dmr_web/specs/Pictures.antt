-- What is shown of the strips of a recording: the marks of both slots of 50 frames, and then those of the next ones.
use Rattle.std.specs.Prelude.{ℕ, ◌+◌, List, [], Option, if◌then◌else◌, length, nat_le}
use Rattle.std.specs.List.{sum_by}
use Rattle.dmr_listing.specs.ListingRules.{IsRead, IsReadUpToFault, ListingTurn}
use Rattle.dmr_listing.specs.Strips.{AreStrips, Picture, shown_marks}
use Rattle.dmr_listing.specs.declared.burst_line.BurstLine.{BurstLine}
use Rattle.dmr_listing.specs.declared.frames.Frames.{Frames}
use Rattle.dmr_recording.specs.Recordings.{RecordedSlot}
use Rattle.dmr_recording.specs.declared.fault_line.FaultLine.{FaultLine}
use Rattle.dmr_recording.specs.declared.recording.Recording.{Recording}
use Rattle.dmr_show.specs.Printed.{PutsLines}

-- the lines that a strip has of a slot: one where it has marks of that, and else none
abbrev pub slot_lines : ℕ → Picture → ℕ
slot_lines slot strip = if nat_le slot (length strip.marks) then 1 else 0

-- the lines of a strip: that of slot 1, and then that of slot 2
abbrev pub picture_lines : Picture → ℕ
picture_lines strip = slot_lines 1 strip + slot_lines 2 strip

-- These slots have strips, and their lines were put, with others behind them.
pub record AreStripsPut (frames : Frames) (slots : List RecordedSlot) (lines : List BurstLine) (others : ℕ)
    (held_old held_new : Option (List ℕ)) : Type 0 where
  pub strips : List Picture
  pub drawn : AreStrips (shown_marks frames 0 slots lines) strips
  pub put : PutsLines (sum_by picture_lines strips + others) held_old held_new

-- All that stands behind the head of a recording was read, and the strips of these frames were put, with others lines behind them.
pub record IsPicturedToEnd (recording : Recording) (frames : Frames) (others : ℕ)
    (left_old left_new held_old held_new : Option (List ℕ)) : Type 0 where
  pub slots : List RecordedSlot
  pub lines : List BurstLine
  pub end : ListingTurn
  pub read : IsRead recording slots lines [] end left_old left_new
  pub strips : AreStripsPut frames slots lines others held_old held_new

-- The same up to a slot that shows this fault.
pub record IsPicturedToFault (recording : Recording) (frames : Frames) (others : ℕ) (fault : FaultLine)
    (left_old left_new held_old held_new : Option (List ℕ)) : Type 0 where
  pub slots : List RecordedSlot
  pub lines : List BurstLine
  pub read : IsReadUpToFault recording slots lines fault left_old left_new
  pub strips : AreStripsPut frames slots lines others held_old held_new
