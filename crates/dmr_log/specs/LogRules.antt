-- Both slots of a recording, frame by frame: what ends in front of each frame, and what the gateway receives.
use Rattle.std.specs.Prelude.{◌≡◌, ℕ, ◌+◌, ◌-◌, true, List, [], ◌∷◌, Option, Some, None, is_some}
use Rattle.dmr_burst.specs.declared.burst.Burst.{Burst}
use Rattle.dmr_gateway.specs.GatewayRules.{Gate}
use Rattle.dmr_gateway.specs.declared.received.Received.{Received}
use Rattle.dmr_log.specs.Ears.{ListensOn, nothing_received, received_last}
use Rattle.dmr_log.specs.SlotTracks.{IsPassed, silent_track, ended_with, told_at_end}
use Rattle.dmr_log.specs.Transmissions.{plus_one}
use Rattle.dmr_log.specs.declared.log.FrameTold.{FrameTold}
use Rattle.dmr_log.specs.declared.log.LogCounts.{LogCounts}
use Rattle.dmr_log.specs.declared.log.LogState.{LogState}
use Rattle.dmr_log.specs.declared.slot_log.SlotTold.{SlotTold}
use Rattle.dmr_log.specs.declared.transmission.Ended.{Ended}
use Rattle.dmr_log.specs.declared.transmission.Subject.{Subject}
use Rattle.dmr_log.specs.declared.transmission.Subject.TheVariants.{Call, Packet, Controls}
use Rattle.dmr_recording.specs.declared.recording.RecordedBurst.{RecordedBurst}

-- 1. What is counted.

-- nothing
abbrev pub no_counts : LogCounts
no_counts = record { calls = 0; packets = 0; controls = 0; repeated = 0; received = 0 }

-- a transmission more, by what it is
abbrev pub with_subject : Subject → LogCounts → LogCounts
with_subject (Call call) counts = record counts { calls = plus_one true counts.calls }
with_subject (Packet packet) counts = record counts { packets = plus_one true counts.packets }
with_subject (Controls kind) counts = record counts { controls = plus_one true counts.controls }

-- a transmission more that has ended, if there is one
abbrev pub with_ended : Option Ended → LogCounts → LogCounts
with_ended None counts = counts
with_ended (Some ended) counts = with_subject ended.transmission.subject counts

abbrev pub with_ends : SlotTold → SlotTold → LogCounts → LogCounts
with_ends slot_1 slot_2 counts = with_ended slot_2.ended (with_ended slot_1.ended counts)

-- the bursts more that both slots repeat
abbrev pub with_repeated : Option Burst → Option Burst → LogCounts → LogCounts
with_repeated burst_1 burst_2 counts =
    record counts { repeated = plus_one (is_some burst_2) (plus_one (is_some burst_1) counts.repeated) }

-- a record more, if there is one
abbrev pub with_one : Option Received → LogCounts → LogCounts
with_one r counts = record counts { received = plus_one (is_some r) counts.received }

-- these records more
abbrev pub with_records : List (Option Received) → LogCounts → LogCounts
with_records [] counts = counts
with_records (r ∷ rs) counts = with_records rs (with_one r counts)

-- 2. From frame to frame.

-- nothing is told in front of frame 0
abbrev pub nothing_told : FrameTold
nothing_told = record { frame = 0; slot_1 = told_at_end None; slot_2 = told_at_end None; received = nothing_received }

-- before the first frame
abbrev pub new_log : ℕ → Option Gate → LogState
new_log colour gateway = record {
  first = silent_track colour;
  second = silent_track colour;
  gateway = gateway;
  told = nothing_told;
  taken = 0;
  counts = no_counts;
}

-- A frame is taken, with these slots. It is decided on the frame five frames before it, which is frame 0 up to the sixth that is
-- taken. What ends in front of the frame that is decided is told, with all that the gateway received in the frame before that.
pub record IsFrameLogged (before : LogState) (slot_1 slot_2 : Option (List ℕ)) (after : LogState) : Type 0 where
  pub burst_1 : Option Burst
  pub burst_2 : Option Burst
  pub frame : after.told.frame ≡ before.taken - 5
  pub passed_1 : IsPassed before.first slot_1 (before.taken - 5) after.told.slot_1 burst_1 after.first
  pub passed_2 : IsPassed before.second slot_2 (before.taken - 5) after.told.slot_2 burst_2 after.second
  pub listens : ListensOn before.gateway burst_1 burst_2 after.told.received after.gateway
  pub taken : after.taken ≡ before.taken + 1
  pub counts : after.counts
      ≡ with_records after.told.received
      (with_repeated burst_1 burst_2 (with_ends after.told.slot_1 after.told.slot_2 before.counts))

-- The recording ends, and with it what is open. All is told that the gateway received in the last frame.
pub record IsEndLogged (before after : LogState) : Type 0 where
  pub frame : after.told.frame ≡ before.taken - 5
  pub ends_1 : after.told.slot_1 ≡ told_at_end (ended_with before.first.current)
  pub ends_2 : after.told.slot_2 ≡ told_at_end (ended_with before.second.current)
  pub received : after.told.received ≡ received_last before.gateway
  pub taken : after.taken ≡ before.taken
  pub counts : after.counts ≡ with_records after.told.received (with_ends after.told.slot_1 after.told.slot_2 before.counts)

-- the burst that a slot of a recording has
abbrev pub recorded_burst : Option RecordedBurst → Option (List ℕ)
recorded_burst None = None
recorded_burst (Some recorded) = Some recorded.burst
