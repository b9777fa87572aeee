-- One slot, frame by frame: what comes, what is repeated of it, and which transmission is open.
use Rattle.std.specs.Prelude.{◌≡◌, ℕ, ◌∷◌, ◌++◌, not, Bool, false, List, [], Option, Some, None, drop, replicate, slice_index_or}
use Rattle.std.specs.Prelude.{is_some}
use Rattle.std.specs.Prelude.{if◌then◌else◌}
use Rattle.dmr_bits.specs.Bits.{bits_of_octets}
use Rattle.dmr_burst.specs.declared.burst.Burst.{Burst}
use Rattle.dmr_burst.specs.declared.burst.Burst.TheVariants.{Data, VoiceSync, Voice}
use Rattle.dmr_hearing.specs.Hearing.{Hears}
use Rattle.dmr_hearing.specs.Parts.{is_own}
use Rattle.dmr_hearing.specs.declared.heard.Heard.{Heard}
use Rattle.dmr_link.specs.declared.full_lc.FullLc.{FullLc}
use Rattle.dmr_listing.specs.Lines.{IsLine, no_past}
use Rattle.dmr_listing.specs.declared.burst_line.BurstLine.{BurstLine}
use Rattle.dmr_log.specs.Checks.{checks_of, none_checked}
use Rattle.dmr_log.specs.Repeated.{data_told}
use Rattle.dmr_log.specs.Transmissions.{IsStep}
use Rattle.dmr_log.specs.declared.arrived.Arrived.{Arrived}
use Rattle.dmr_log.specs.declared.arrived.Came.{Came}
use Rattle.dmr_log.specs.declared.arrived.Came.TheVariants as came
use Rattle.dmr_log.specs.declared.slot_log.SlotTold.{SlotTold}
use Rattle.dmr_log.specs.declared.checks.Checks.{Checks}
use Rattle.dmr_log.specs.declared.repeated.Repeated.{Repeated}
use Rattle.dmr_log.specs.declared.repeated.Repeated.TheVariants.{Nothing, Place}
use Rattle.dmr_log.specs.declared.transmission.Ended.{Ended}
use Rattle.dmr_log.specs.declared.transmission.EndedBy.TheVariants.{Recording}
use Rattle.dmr_log.specs.declared.transmission.Transmission.{Transmission}
use Rattle.dmr_reading.specs.declared.reading.Reading.{Reading}
use Rattle.dmr_reading.specs.declared.reading.Reading.TheVariants as reading
use Rattle.dmr_slot.specs.LineRules.{LineMemory, IsPush, silent_line}
use Rattle.dmr_slot.specs.declared.line.SlotOut.{SlotOut}

-- 1. What comes.

-- whether a burst that comes can be read in a listing
abbrev pub came_as : Reading → Came
came_as reading.Unreadable = came.Unreadable
came_as r = came.Burst

-- nothing
abbrev pub nothing_arrived : Arrived
nothing_arrived = record {
  came = came.Silence;
  is_data = false;
  is_voice = false;
  is_own = false;
  contents = None;
  checks = none_checked;
}

-- A burst that is heard so, and has this line in a listing.
abbrev pub arrived_of : ℕ → Heard → BurstLine → Arrived
arrived_of colour heard line = record {
  came = came_as line.reading;
  is_data = is_some heard.data_burst;
  is_voice = heard.voice;
  is_own = is_own colour heard.emb;
  contents = line.contents;
  checks = checks_of line.reading line.wrong;
}

-- A burst comes: it is what it is heard as, and what a listing shows of it by itself.
pub record ArrivesAs (colour : ℕ) (octets : List ℕ) (arrived : Arrived) : Type 0 where
  pub heard : Heard
  pub line : BurstLine
  pub hears : Hears colour (Some octets) heard
  pub listed : IsLine no_past (bits_of_octets octets) line
  pub value : arrived ≡ arrived_of colour heard line

-- A slot comes, silence or a burst.
abbrev pub Arrives : ℕ → Option (List ℕ) → Arrived → Type 0
Arrives colour None arrived = arrived ≡ nothing_arrived
Arrives colour (Some octets) arrived = ArrivesAs colour octets arrived

-- 2. What is repeated.

-- The burst that goes out is one that came: data was heard, or a voice sync in the place of an A, or an EMB of the own colour code
-- in any other place. Else the repeater has made it, in a gap or a place that is filled.
abbrev pub is_there : Burst → Arrived → Bool
is_there (Data colour kind information) arrived = arrived.is_data
is_there (VoiceSync vocoder) arrived = arrived.is_voice
is_there (Voice emb field vocoder) arrived = arrived.is_own

-- What is repeated of what came, by the burst that goes out and the link control that is known of its call.
abbrev pub repeated_of : Option Burst → Option FullLc → Arrived → Repeated
repeated_of None lc arrived = Nothing
repeated_of (Some (Data colour kind information)) lc arrived = data_told kind lc arrived.contents
repeated_of (Some (VoiceSync vocoder)) lc arrived = Place lc (not arrived.is_voice)
repeated_of (Some (Voice emb field vocoder)) lc arrived = Place lc (not arrived.is_own)

-- The bits that count: those of a burst that came and is repeated.
abbrev pub counted_bits : Option Burst → Arrived → Checks
counted_bits None arrived = none_checked
counted_bits (Some burst) arrived = if is_there burst arrived then arrived.checks else none_checked

-- 3. From frame to frame.

-- What the log keeps of a slot: the line that decides what is repeated, what came in five frames in a row, on
-- which is not yet decided, and the transmission that is open.
pub record SlotTrack : Type 0 where
  pub colour : ℕ
  pub line : LineMemory
  pub undecided : List Arrived
  pub current : Option Transmission

-- a slot in which nothing came; no call hang holds it
abbrev pub silent_track : ℕ → SlotTrack
silent_track colour =
    record { colour = colour; line = silent_line colour 0; undecided = replicate 5 nothing_arrived; current = None }

-- A slot comes. It is decided what is repeated of what came five frames before, in this frame: this burst. So this is told of that
-- frame: the transmission that ended in front of it, if one did, what came in it, what it repeats, and what is open behind it.
pub record IsPassed (before : SlotTrack) (slot : Option (List ℕ)) (at : ℕ) (told : SlotTold) (burst : Option Burst)
    (after : SlotTrack) : Type 0 where
  pub arrived : Arrived
  pub out : SlotOut
  pub decided : Arrived
  pub oldest : decided ≡ slice_index_or before.undecided 0 nothing_arrived
  pub arrives : Arrives before.colour slot arrived
  pub pushed : IsPush before.line slot out after.line
  pub repeats : burst ≡ out.repeated
  pub came : told.came ≡ decided.came
  pub repeated : told.repeated ≡ repeated_of out.repeated out.lc decided
  pub step : IsStep before.current at told.repeated (counted_bits out.repeated decided) told.ended after.current
  pub current : told.current ≡ after.current
  pub waits : after.undecided ≡ drop 1 before.undecided ++ arrived ∷ []
  pub same : after.colour ≡ before.colour

-- No frame follows: this ended, and nothing else is told.
abbrev pub told_at_end : Option Ended → SlotTold
told_at_end ended = record { ended = ended; came = came.Silence; repeated = Nothing; current = None }

-- The recording ends, with the transmission that is open.
abbrev pub ended_with : Option Transmission → Option Ended
ended_with None = None
ended_with (Some t) = Some (record { transmission = t; by = Recording })
