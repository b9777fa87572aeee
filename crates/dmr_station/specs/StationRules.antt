-- The repeater's rules, one frame of the uplink after another.
use Rattle.std.specs.Prelude.{ℕ, ◌≡◌, ◌&&◌, Bool, true, false, not, List, [], ◌∷◌, ◌++◌, count_by, Option, Some, None}
use Rattle.std.specs.Prelude.{is_some, option_to_list, slice_index_or}
use Rattle.dmr_burst.specs.declared.burst.Burst.{Burst}
use Rattle.dmr_arq.specs.declared.sender_state.Outcome.{Outcome}
use Rattle.dmr_arq.specs.declared.sender_state.Outcome.TheVariants.{Delivered, Sent, GivenUp}
use Rattle.dmr_gateway.specs.GatewayRules.{Gate, new_gate, IsAskedFor}
use Rattle.dmr_gateway.specs.SideRules.{all_received, side_told, side_outcome}
use Rattle.dmr_settings.specs.declared.config.Config.{Config}
use Rattle.dmr_gateway.specs.declared.received.Received.{Received}
use Rattle.dmr_slot.specs.ChannelMeaning.{claims_of}
use Rattle.dmr_slot.specs.ChannelRules.{OnAir, off_air, frame_out, after_frame}
use Rattle.dmr_slot.specs.Bursts.{AreSent}
use Rattle.dmr_slot.specs.LineRules.{LineMemory, silent_line, IsPush}
use Rattle.dmr_slot.specs.LineRules as line_rules
use Rattle.dmr_gateway.specs.GatewayRules as gateway_rules
use Rattle.dmr_slot.specs.declared.line.SlotOut.{SlotOut}
use Rattle.dmr_station.specs.Announced.{IsAnnounced}
use Rattle.dmr_station.specs.declared.announcing.Message.{Message}
use Rattle.dmr_station.specs.Sent.{DownlinkBurst, DownlinkSlots, SlotBursts}
use Rattle.dmr_record.specs.Uplink.{UplinkSlots}

-- 1. What the rules go by.

-- The colour code, for how many frames a call holds its slot and the channel stays on the air, the LLID of the gateway, and how
-- many datagrams may wait for each slot.
pub record Settings : Type 0 where
  pub colour : ℕ
  pub call_hang : ℕ
  pub channel_hang : ℕ
  pub llid : ℕ
  pub queue : ℕ

-- What the rules go by, of the settings that a run was configured with.
abbrev pub settings_of : Config → Settings
settings_of config =
    record {
      colour = config.colour;
      call_hang = config.call_hang;
      channel_hang = config.channel_hang;
      llid = config.llid;
      queue = config.queue;
    }

-- What is remembered between two frames: the lines of both slots, the channel that they share, the gateway, and the message whose
-- second half is to come, where the next frame isn't the first of two.
pub record StationMemory : Type 0 where
  pub first : LineMemory
  pub second : LineMemory
  pub channel : OnAir
  pub gate : Gate
  pub kept : Option Message

-- Nothing was heard, and nothing was sent.
abbrev pub start : Settings → StationMemory
start s = record {
  first = silent_line s.colour s.call_hang;
  second = silent_line s.colour s.call_hang;
  channel = off_air s.colour s.channel_hang;
  gate = new_gate s.colour s.llid s.queue;
  kept = None;
}

-- The settings of what is remembered.
abbrev pub settings_in : StationMemory → Settings
settings_in m =
    record {
      colour = m.channel.colour;
      call_hang = m.first.call_hang;
      channel_hang = m.channel.hang;
      llid = m.gate.llid;
      queue = m.gate.first.outbox.queue.capacity;
    }

-- 2. One frame.

-- A slot is free for the gateway where its line gives nothing.
abbrev pub is_free : SlotOut → Bool
is_free out = not (is_some out.repeated) && not (is_some out.hang)

-- A burst that goes out, with whether it is a repeated one and the message of its frame.
abbrev pub marked : Message → SlotOut → Option Burst → Option DownlinkBurst
marked m out None = None
marked m out (Some burst) = Some (record { burst = burst; is_repeated = is_some out.repeated; message = m })

-- What goes out in the slots of one frame: each burst with whether its line repeats it, and all with the frame's message.
abbrev pub marked_slots : Message → List SlotOut → SlotBursts → DownlinkSlots
marked_slots m [] bursts = []
marked_slots m (out ∷ outs) [] = []
marked_slots m (out ∷ outs) (burst ∷ bursts) = marked m out burst ∷ marked_slots m outs bursts

-- What frames count of the gateway: records, packets that were delivered, sent and given up, and offers that were refused.
pub record Counts : Type 0 where
  pub received : ℕ
  pub delivered : ℕ
  pub sent : ℕ
  pub given_up : ℕ
  pub refused : ℕ

-- Before the first frame: no record, no packet and no offer is counted.
abbrev pub nothing_counted : Counts
nothing_counted = record { received = 0; delivered = 0; sent = 0; given_up = 0; refused = 0 }

-- How many of these outcomes are this one.
abbrev pub outcome_count : Outcome → List Outcome → ℕ
outcome_count outcome outcomes = count_by (is_outcome outcome) outcomes
  where
    -- Both packets were delivered, or both were sent, or both were given up.
    is_outcome : Outcome → Outcome → Bool
    is_outcome Delivered Delivered = true
    is_outcome Sent Sent = true
    is_outcome GivenUp GivenUp = true
    is_outcome outcome other = false

-- The gateway hears what the line of a slot repeats, and is asked for a burst.
abbrev pub IsSlotAsked : ℕ → SlotOut → Gate → Option Burst → Gate → Type 0
IsSlotAsked slot out before burst after = IsAskedFor slot out.repeated (is_free out) before burst after

-- A frame of the uplink is pushed into both lines, the gateway hears what they repeat and is asked for a burst for each slot, and
-- what they give goes out as the channel decides, with the message that is announced.
pub record IsAsked (before : StationMemory) (frame : UplinkSlots) (sending : DownlinkSlots)
    (after : StationMemory) : Type 0 where
  pub first : SlotOut
  pub second : SlotOut
  pub first_line : IsPush before.first (slice_index_or frame 0 None) first after.first
  pub second_line : IsPush before.second (slice_index_or frame 1 None) second after.second
  pub between : Gate
  pub first_gate : Option Burst
  pub second_gate : Option Burst
  pub first_asked : IsSlotAsked 1 first before.gate first_gate between
  pub second_asked : IsSlotAsked 2 second between second_gate after.gate
  pub bursts : SlotBursts
  pub sent : AreSent before.channel.colour (frame_out before.channel
      (claims_of (first ∷ second ∷ []) (first_gate ∷ second_gate ∷ []))) bursts
  pub channel : after.channel ≡ after_frame before.channel (claims_of (first ∷ second ∷ []) (first_gate ∷ second_gate ∷ []))
  pub message : Message
  pub announces : IsAnnounced before.kept (first ∷ second ∷ []) message after.kept
  pub marks : sending ≡ marked_slots message (first ∷ second ∷ []) bursts

-- A silent frame changes nothing but the message that is kept, and nothing goes out in it.
pub record RestsInSilence (m : StationMemory) : Type 0 where
  pub first : line_rules.LineRests m.first
  pub second : line_rules.LineRests m.second
  pub channel : m.channel.left ≡ 0
  pub gate : gateway_rules.GateRests m.gate

-- What the gateway received in this frame and what isn't taken yet: that of slot 1, and then that of slot 2.
abbrev pub received_of : Gate → List Received
received_of g = all_received g.first ++ all_received g.second

-- What became of packets and isn't told yet: of one in slot 1, and then of one in slot 2.
abbrev pub outcomes_to_tell : Gate → List Outcome
outcomes_to_tell g = option_to_list (side_outcome g.first) ++ option_to_list (side_outcome g.second)

-- The gateway once all that it received is taken: no status and no packet is left in either slot.
abbrev pub received_taken : Gate → Gate
received_taken g =
    record g { first = record g.first { status = None; packet = None }; second = record g.second { status = None; packet = None } }

-- The gateway once it is told in both slots what became of a packet.
abbrev pub outcomes_told : Gate → Gate
outcomes_told g = record g { first = side_told g.first; second = side_told g.second }
