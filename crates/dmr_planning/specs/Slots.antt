-- The transmissions of a slot, one behind another.
use Rattle.std.specs.Prelude.{◌≡◌, ℕ, ◌+◌, ◌-◌, ◌<◌, ◌⊎◌, nat_lt, Bool, false, List, [], ◌∷◌, ◌++◌, Option, Some, None}
use Rattle.std.specs.Prelude.{Result, Ok, Err, if◌then◌else◌}
use Rattle.dmr_making.specs.Playing.{packet_in}
use Rattle.dmr_making.specs.Senders.{IsSendable}
use Rattle.dmr_making.specs.declared.playing.PlacedTransmission.{PlacedTransmission}
use Rattle.dmr_planning.specs.Counting.{slot_count}
use Rattle.dmr_planning.specs.Pauses.{before_behind, needed, paused, silenced, silenced_to, stands}
use Rattle.dmr_planning.specs.Tries.{try_fault}
use Rattle.dmr_planning.specs.declared.slot_plan.Numbered.{Numbered}
use Rattle.dmr_planning.specs.declared.slot_plan.SlotPlan.{SlotPlan}
use Rattle.dmr_planning.specs.declared.slot_state.SlotState.{SlotState}
use Rattle.dmr_script.specs.declared.fault.Refusal.{Refusal}
use Rattle.dmr_script.specs.declared.fault.Refusal.TheVariants as refusal
use Rattle.dmr_script.specs.declared.packet.PacketTry.{PacketTry}
use Rattle.dmr_script.specs.declared.statement.NumberedStatement.{NumberedStatement}
use Rattle.dmr_script.specs.declared.statement.Transmission.{Transmission}
use Rattle.dmr_script.specs.declared.statement.Transmission.TheVariants as said
use Rattle.dmr_script.specs.declared.statement.Transmit.{Transmit}

-- What is planned of a slot: its transmissions, and where it stands behind them.
pub record SlotSoFar : Type 0 where
  pub placed : List PlacedTransmission
  pub state : SlotState

-- what is planned of it by now
abbrev pub so_far : SlotPlan → SlotSoFar
so_far p = record { placed = p.placed.items; state = p.state }

-- nothing is
abbrev pub nothing_placed : SlotState → SlotSoFar
nothing_placed state = record { placed = []; state = state }

-- 1. Silences.

-- So many silences more were planned.
pub record IsSilenced (count : ℕ) (old new : SlotSoFar) : Type 0 where
  pub placed : new.placed ≡ old.placed
  pub state : silenced old.state count ≡ Ok new.state

-- Silences up to this frame were.
pub record IsSilencedTo (frame : ℕ) (old new : SlotSoFar) : Type 0 where
  pub placed : new.placed ≡ old.placed
  pub state : silenced_to old.state frame ≡ Ok new.state

-- 2. Transmissions.

-- a transmission is a confirmed packet, which may be tried again
abbrev pub is_confirmed : Transmission → Bool
is_confirmed (said.Packet p) = p.confirmed
is_confirmed _ = false

-- A transmission of the script: which of its statements it is, in which line, and what it says.
pub record NumberedTransmit : Type 0 where
  pub statement : ℕ
  pub line : ℕ
  pub transmit : Transmit

-- a statement that is a transmission, as the code has it
abbrev pub numbered_of : Numbered → NumberedTransmit
numbered_of n = record { statement = n.statement; line = n.line; transmit = n.transmit.now }

-- where a slot that has paused places a transmission of so many slots, up to 1,048,576 frames
abbrev pub placed_paused : SlotState → Option ℕ → ℕ → ℕ → Result PlacedTransmission Refusal
placed_paused paused packet statement count =
    if nat_lt (1048576 - stands paused) count
    then Err refusal.TooLong
    else Ok (record { statement = statement; packet = packet; start = stands paused; length = count })

-- where a slot places it, once it has paused, or why it may not pause
abbrev pub placed_behind_pause : Result SlotState Refusal → Option ℕ → ℕ → ℕ → Result PlacedTransmission Refusal
placed_behind_pause (Err e) packet statement count = Err e
placed_behind_pause (Ok paused) packet statement count = placed_paused paused packet statement count

-- Where a slot places a transmission: behind as many silences as are named or needed.
abbrev pub placed_behind : SlotState → ℕ → NumberedTransmit → ℕ → Result PlacedTransmission Refusal
placed_behind s own n count =
    placed_behind_pause (paused s (needed s own n.transmit)) s.packet n.statement count

-- Where a slot stands behind a transmission.
abbrev pub slot_state_behind : SlotState → ℕ → NumberedTransmit → PlacedTransmission → SlotState
slot_state_behind s own n placed = record {
  end = placed.start + placed.length;
  silences = None;
  before = before_behind own n.transmit;
  line = n.line;
  packet = if is_confirmed n.transmit.transmission then Some n.statement else s.packet;
}

-- the last confirmed packet in a slot
abbrev pub last_packet : List NumberedStatement → SlotState → Option PacketTry
last_packet statements s = packet_in statements s.packet

-- how many slots a transmission has behind what is planned of a slot
abbrev pub count_behind : List NumberedStatement → SlotState → Transmit → ℕ
count_behind statements s t = slot_count t.transmission (last_packet statements s)

-- A transmission is placed here in a slot that stands so. What it tries again fits it, where it tries something again; and it
-- stands behind enough silences.
pub record IsPlacedNext (statements : List NumberedStatement) (own : ℕ) (n : NumberedTransmit) (s : SlotState)
    (one : PlacedTransmission) : Type 0 where
  pub fits : try_fault n.transmit.transmission (last_packet statements s) ≡ None
  pub sendable : IsSendable (last_packet statements s) n.transmit.transmission
  pub is : placed_behind s own n (count_behind statements s n.transmit) ≡ Ok one

-- A transmission more was planned.
pub record IsTransmitted (statements : List NumberedStatement) (own : ℕ) (n : NumberedTransmit) (old new : SlotSoFar) : Type 0 where
  pub one : PlacedTransmission
  pub next : IsPlacedNext statements own n old.state one
  pub placed : new.placed ≡ old.placed ++ one ∷ []
  pub state : new.state ≡ slot_state_behind old.state own n one

-- Why a transmission isn't planned: it doesn't fit what it tries again, or has nothing to try again; it is longer than a recording;
-- or it has too few silences in front of it, or no room.
abbrev pub IsUntransmitted : List NumberedStatement → ℕ → NumberedTransmit → SlotState → Refusal → Type 0
IsUntransmitted statements own n s e =
    (try_fault n.transmit.transmission (last_packet statements s) ≡ Some e)
    ⊎ ((1048576 < count_behind statements s n.transmit) × (e ≡ refusal.TooLong))
    ⊎ (placed_behind s own n (count_behind statements s n.transmit) ≡ Err e)
