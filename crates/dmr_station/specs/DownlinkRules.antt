-- What the downlink sends in both slots, from what their lines give.
use Rattle.std.specs.Prelude.{ℕ, ◌≡◌, Bool, false, List, [], ◌∷◌, ◌++◌, map, zip, replicate, count_by, slice_index_or, Option}
use Rattle.std.specs.Prelude.{Some, None}
use Rattle.std.specs.List.{flat_map}
use Rattle.dmr_slot.specs.ChannelMeaning.{claims_of, channel_frames}
use Rattle.dmr_slot.specs.Bursts.{AreSent}
use Rattle.dmr_slot.specs.Fronts.{IsFrontOfLine}
use Rattle.dmr_slot.specs.LineRules.{LineMemory, silent_line, ArePushed}
use Rattle.dmr_slot.specs.declared.line.SlotOut.{SlotOut}
use Rattle.dmr_station.specs.Announced.{AreAnnounced}
use Rattle.dmr_station.specs.declared.announcing.Message.{Message}
use Rattle.dmr_station.specs.Sent.{DownlinkBurst, DownlinkSlots, SlotBursts}
use Rattle.dmr_record.specs.Outgoing.{Sending}
use Rattle.dmr_record.specs.Received.{Receipt}
use Rattle.dmr_record.specs.Uplink.{UplinkSlots}
use Rattle.dmr_station.specs.GatewayMeaning.{IsGatewayOf}
use Rattle.dmr_station.specs.StationRules.{Settings, Counts, marked_slots}
use Rattle.std.specs.List.{AllZip}

-- 1. Frames of both slots.

-- What stands in one slot of each frame.
abbrev pub slots_in : ℕ → List UplinkSlots → UplinkSlots
slots_in number frames = map (λ frame. slice_index_or frame number None) frames

-- Both slots side by side.
abbrev pub frames_in : List SlotOut → List SlotOut → List (List SlotOut)
frames_in [] second = []
frames_in (a ∷ first) [] = []
frames_in (a ∷ first) (b ∷ second) = (a ∷ b ∷ []) ∷ frames_in first second

-- The slots of frames, in order.
abbrev pub slots_of : List DownlinkSlots → DownlinkSlots
slots_of frames = flat_map (λ frame. frame) frames

-- The slot sends what its line repeats; a silent one doesn't, nor does one with the call hang, the gateway's burst or idle.
abbrev pub is_repeated : Option DownlinkBurst → Bool
is_repeated None = false
is_repeated (Some d) = d.is_repeated

-- How many slots repeat a burst.
abbrev pub repeated_count : DownlinkSlots → ℕ
repeated_count slots = count_by is_repeated slots

-- 2. What goes out.

-- What goes out frame by frame: its bursts, each with whether its line repeats it and with the message of its frame.
abbrev pub marked_frames : List Message → List (List SlotOut) → List SlotBursts → List DownlinkSlots
marked_frames [] outs bursts = []
marked_frames (m ∷ messages) [] bursts = []
marked_frames (m ∷ messages) (outs ∷ more) [] = []
marked_frames (m ∷ messages) (outs ∷ more) (frame ∷ bursts) = marked_slots m outs frame ∷ marked_frames messages more bursts

-- Frame by frame: what the lines of both slots give goes out, a repeated burst first, then the call hang, and then the gateway's
-- burst; without any, idle while the channel is on the air, and else nothing. The message of each two frames is the one for the
-- first of them.
pub record IsDownlinkOf (s : Settings) (first second : List SlotOut) (gates : List SlotBursts)
    (sending : List DownlinkSlots) : Type 0 where
  pub bursts : List SlotBursts
  pub channel : AllZip (AreSent s.colour)
      (channel_frames s.channel_hang [] (map (λ frame. claims_of frame.0 frame.1) (zip (frames_in first second) gates))) bursts
  pub messages : List Message
  pub announced : AreAnnounced [] (frames_in first second) messages
  pub marks : sending ≡ marked_frames messages (frames_in first second) bursts

-- 3. By the rules, whatever is read.

-- What a line that heard nothing gives for slots, one push after another; and by looking back, it is what the rules for voice calls
-- repeat of them, or else the call hang.
pub record IsPushedLine (s : Settings) (slots : UplinkSlots) (outs : List SlotOut) : Type 0 where
  pub after : LineMemory
  pub pushed : ArePushed (silent_line s.colour s.call_hang) slots outs after
  pub looks_back : IsFrontOfLine s.colour s.call_hang slots outs

-- What the rules make of frames that are handed over one after another, and of the datagrams of the outgoing file: the lines of
-- both slots, what the gateway makes of them, and what goes out.
pub record Makes (s : Settings) (offers : List (List Sending)) (frames : List UplinkSlots)
    (sending : List DownlinkSlots) (receipts : List Receipt) (counts : Counts) : Type 0 where
  pub first : List SlotOut
  pub second : List SlotOut
  pub first_line : IsPushedLine s (slots_in 0 frames) first
  pub second_line : IsPushedLine s (slots_in 1 frames) second
  pub gates : List SlotBursts
  pub gateway : IsGatewayOf s offers first second gates receipts counts
  pub downlink : IsDownlinkOf s first second gates sending

-- A frame in which nothing is received.
abbrev pub silent_frame : UplinkSlots
silent_frame = None ∷ None ∷ []

-- The frames that are handed over for a recording: nothing first, and five times past its end.
abbrev pub handed_frames : List UplinkSlots → List UplinkSlots
handed_frames frames = silent_frame ∷ (frames ++ replicate 5 silent_frame)
