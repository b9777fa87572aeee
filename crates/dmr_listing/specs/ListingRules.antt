-- What a listing of a recording shows: a line for each burst, in order, each once.
use Rattle.std.specs.Prelude.{◌≡◌, ℕ, ◌+◌, List, [], ◌∷◌, ◌++◌, Option, Some, None, length}
use Rattle.std.specs.Io.KnownBytes.{Consumes}
use Rattle.std.specs.List.{AllByRecursion, flat_map}
use Rattle.dmr_bits.specs.Bits.{bits_of_octets}
use Rattle.dmr_recording.specs.Places.{octet_behind, place_by_number}
use Rattle.dmr_listing.specs.Lines.{IsCachAccessType, IsLine, SlotPast, after_burst, no_past, passed}
use Rattle.dmr_recording.specs.Recordings.{IsSlotOf, ShowsSlotFaultOf, RecordedSlot, spelling}
use Rattle.dmr_listing.specs.Summaries.{counted_line, none_counted}
use Rattle.dmr_listing.specs.declared.burst_line.BurstLine.{BurstLine}
use Rattle.dmr_listing.specs.declared.listed_burst.ListedBurst.{ListedBurst}
use Rattle.dmr_recording.specs.declared.fault_line.FaultLine.{FaultLine}
use Rattle.dmr_recording.specs.declared.recording.RecordedBurst.{RecordedBurst}
use Rattle.dmr_recording.specs.declared.recording.Recording.{Recording}
use Rattle.dmr_listing.specs.declared.summary.BurstCounts.{BurstCounts}

-- Where a listing is: how many slots came, what is kept of the slot of a frame whose turn is next and of the other one, and what
-- was counted.
pub record ListingTurn : Type 0 where
  pub slots : ℕ
  pub next : SlotPast
  pub other : SlotPast
  pub bursts : BurstCounts

-- before the first slot
abbrev pub begun : ListingTurn
begun = record { slots = 0; next = no_past; other = no_past; bursts = none_counted }

-- behind a silent slot
abbrev pub turn_passed : ListingTurn → ListingTurn
turn_passed turn = record { slots = turn.slots + 1; next = turn.other; other = passed turn.next; bursts = turn.bursts }

-- behind a burst with this line
abbrev pub turn_after : BurstLine → RecordedBurst → ListingTurn → ListingTurn
turn_after line burst turn = record {
  slots = turn.slots + 1;
  next = turn.other;
  other = after_burst line.reading (bits_of_octets burst.burst) turn.next;
  bursts = counted_line line turn.bursts;
}

-- The line of a burst in the next slot: it shows what the burst is read as behind what came in its own slot.
pub record IsLineAt (turn : ListingTurn) (burst : RecordedBurst) (line : BurstLine) : Type 0 where
  pub place : line.place ≡ place_by_number turn.slots
  pub announced : IsCachAccessType burst.cach line.access_type
  pub shows : IsLine turn.next (bits_of_octets burst.burst) line

-- The lines of slots, one for each burst: from one turn to another.
abbrev pub Lists : ListingTurn → List RecordedSlot → List BurstLine → ListingTurn → Type 0
Lists turn [] lines end = (lines ≡ []) × (end ≡ turn)
Lists turn (None ∷ slots) lines end = Lists (turn_passed turn) slots lines end
Lists turn (Some burst ∷ slots) [] end = ⊥
Lists turn (Some burst ∷ slots) (line ∷ lines) end = IsLineAt turn burst line × Lists (turn_after line burst turn) slots lines end

-- the bursts of slots with their lines, in order
abbrev pub listed_bursts : List RecordedSlot → List BurstLine → List ListedBurst
listed_bursts [] lines = []
listed_bursts (None ∷ slots) lines = listed_bursts slots lines
listed_bursts (Some burst ∷ slots) [] = []
listed_bursts (Some burst ∷ slots) (line ∷ lines) = record { burst = burst; line = line } ∷ listed_bursts slots lines

-- These were given to a taker in turn, each once: what it makes of one is how it stands behind that.
abbrev pub GivenInTurn : {S X : Type 0} → (S → X → S → Type 0) → S → List X → S → Type 0
GivenInTurn Takes old [] new = new ≡ old
GivenInTurn {S} Takes old (x ∷ xs) new = (between : S) × Takes old x between × GivenInTurn Takes between xs new

-- They were given to a taker in turn, and then it refused this one.
pub record IsRefusedBehind {S X : Type 0} (Takes Refuses : S → X → S → Type 0) (old : S) (given : List X) (refused : X) (new : S)
    : Type 0 where
  pub between : S
  pub taken : GivenInTurn Takes old given between
  pub last : Refuses between refused new

-- These slots of a recording were read behind its head, and these octets of the next one, and the lines of the slots are these.
pub record IsRead (recording : Recording) (slots : List RecordedSlot) (lines : List BurstLine) (part : List ℕ) (end : ListingTurn)
    (left_old left_new : Option (List ℕ)) : Type 0 where
  pub each : AllByRecursion (IsSlotOf recording) slots
  pub octets : Consumes left_old left_new (flat_map (spelling recording) slots ++ part)
  pub listed : Lists begun slots lines end

-- The recording was read up to a slot that shows this fault: the fault's place is that slot, and its octet the one at which the
-- slot's record begins.
pub record IsReadUpToFault (recording : Recording) (slots : List RecordedSlot) (lines : List BurstLine) (fault : FaultLine)
    (left_old left_new : Option (List ℕ)) : Type 0 where
  pub part : List ℕ
  pub end : ListingTurn
  pub before : IsRead recording slots lines part end left_old left_new
  pub shown : ShowsSlotFaultOf recording (length slots) fault.fault part
  pub octet : fault.octet ≡ octet_behind (spelling recording) slots
  pub place : fault.place ≡ Some (place_by_number (length slots))

-- These slots of a recording were read behind its head, and these octets of the next one, and a taker was given the bursts of the
-- slots with their lines.
pub record IsListed {L : Type 0} (Takes : L → ListedBurst → L → Type 0) (recording : Recording) (slots : List RecordedSlot)
    (part : List ℕ) (end : ListingTurn) (left_old left_new : Option (List ℕ)) (old new : L) : Type 0 where
  pub lines : List BurstLine
  pub read : IsRead recording slots lines part end left_old left_new
  pub given : GivenInTurn Takes old (listed_bursts slots lines) new

-- The recording was read up to a slot that shows this fault, and a taker was given the bursts before it with their lines.
pub record IsListedUpToFault {L : Type 0} (Takes : L → ListedBurst → L → Type 0) (recording : Recording) (fault : FaultLine)
    (left_old left_new : Option (List ℕ)) (old new : L) : Type 0 where
  pub slots : List RecordedSlot
  pub lines : List BurstLine
  pub read : IsReadUpToFault recording slots lines fault left_old left_new
  pub given : GivenInTurn Takes old (listed_bursts slots lines) new

-- The recording was read up to a burst that a taker refused with its line, behind the bursts before it with their lines.
pub record IsListedUpToLine {L : Type 0} (Takes Refuses : L → ListedBurst → L → Type 0) (recording : Recording)
    (left_old left_new : Option (List ℕ)) (old new : L) : Type 0 where
  pub slots : List RecordedSlot
  pub lines : List BurstLine
  pub burst : RecordedBurst
  pub end : ListingTurn
  pub read : IsRead recording slots lines (spelling recording (Some burst)) end left_old left_new
  pub line : BurstLine
  pub next : IsLineAt end burst line
  pub given : IsRefusedBehind Takes Refuses old (listed_bursts slots lines) (record { burst = burst; line = line }) new
