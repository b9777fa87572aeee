-- What is held of the packets of a capture, one after the other.
use Rattle.std.specs.Prelude.{◌≡◌, ℕ, ◌+◌, ◌≤◌, max, if◌then◌else◌, Bool, List, [], ◌∷◌, ◌++◌, Option, Some, None, length, zero}
use Rattle.std.specs.Prelude.{suc, slice_index_or}
use Rattle.dmr_capture.specs.State.{CapturedPacket}
use Rattle.dmr_record.specs.Head.{frame_limit}
use Rattle.dmr_record.specs.Uplink.{UplinkSlot, UplinkSlots}
use Rattle.dmr_dmrd.specs.Lines.{HeldSlot, IsSlotHeld, no_slot, slot_behind}
use Rattle.dmr_dmrd.specs.Placing.{asked_behind, frame_asked}
use Rattle.dmr_dmrd.specs.Syncs.{mobile_burst}
use Rattle.dmr_dmrd.specs.Taking.{taken_packet}
use Rattle.dmr_dmrd.specs.declared.hold.Hold.{Hold}
use Rattle.dmr_dmrd.specs.declared.hold.ImportSettings.{ImportSettings}
use Rattle.dmr_dmrd.specs.declared.packet.HotspotPacket.{HotspotPacket}
use Rattle.dmr_dmrd.specs.declared.packet.Slot.{Slot}
use Rattle.dmr_dmrd.specs.declared.packet.Slot.TheVariants.{One, Two}
use Rattle.dmr_dmrd.specs.declared.placing.Asked.{Asked}
use Rattle.dmr_dmrd.specs.declared.placing.Start.{Start}

-- the burst that is held of a packet: as it came, or as a mobile station would have sent it
abbrev pub held_burst : Bool → List ℕ → List ℕ
held_burst as_uplink burst = if as_uplink then mobile_burst burst else burst

-- where the recording begins, where this packet may be the first that is taken
abbrev pub start_of : Option Start → Slot → ℕ → Start
start_of None slot time = record { time = time; slot = slot }
start_of (Some start) slot time = start

-- what is held of a slot
abbrev pub slot_held : Slot → Hold → HeldSlot
slot_held One hold = hold.one
slot_held Two hold = hold.two

-- the same with this of a slot
abbrev pub hold_with_slot : Slot → HeldSlot → Hold → Hold
hold_with_slot One slot hold = record hold { one = slot }
hold_with_slot Two slot hold = record hold { two = slot }

-- what a packet asks for that is taken, and came at this time
abbrev pub asked_of : Hold → HotspotPacket → ℕ → Asked
asked_of hold p time = asked_behind (slot_held p.slot hold).places.last (start_of hold.start p.slot time) p time

-- its slot behind it
abbrev pub slot_with : ImportSettings → Hold → HotspotPacket → ℕ → HeldSlot
slot_with settings hold p time =
    slot_behind (slot_held p.slot hold) p time (held_burst settings.as_uplink p.burst) (asked_of hold p time)

-- what is held behind a packet, where it is taken: its slot, its repeater and where the recording begins. Others are counted.
abbrev pub hold_with_taken : ImportSettings → Hold → ℕ → Option HotspotPacket → Hold
hold_with_taken settings hold time None = record hold { other = hold.other + 1 }
hold_with_taken settings hold time (Some p) = hold_with_slot p.slot (slot_with settings hold p time)
    (record hold { repeater = Some p.repeater; start = Some (start_of hold.start p.slot time) })

-- what is held behind a packet of a capture
abbrev pub hold_with : ImportSettings → Hold → CapturedPacket → Hold
hold_with settings hold packet =
    hold_with_taken settings hold packet.time (taken_packet settings.ports hold.repeater packet.link packet.octets)

-- what is held behind packets, one after the other
abbrev pub hold_behind : ImportSettings → Hold → List CapturedPacket → Hold
hold_behind settings hold [] = hold
hold_behind settings hold (packet ∷ packets) = hold_behind settings (hold_with settings hold packet) packets

-- in front of a capture
abbrev pub no_hold : ImportSettings → Hold
no_hold settings = record { repeater = settings.repeater; start = None; one = no_slot; two = no_slot; other = 0 }

-- what is held of the packets of a capture
abbrev pub held_of_capture : ImportSettings → List CapturedPacket → Hold
held_of_capture settings packets = hold_behind settings (no_hold settings) packets

-- A packet is taken, and asks for a frame past those that a recording may have.
pub record IsPastRecording (settings : ImportSettings) (hold : Hold) (packet : CapturedPacket) : Type 0 where
  pub p : HotspotPacket
  pub frame : ℕ
  pub taken : taken_packet settings.ports hold.repeater packet.link packet.octets ≡ Some p
  pub asks : frame_asked (asked_of hold p packet.time) ≡ Some frame
  pub past : frame_limit ≤ frame

-- the slot of a frame: what is held of it, and silence past the end of that
abbrev pub slot_in : List UplinkSlot → ℕ → UplinkSlot
slot_in line frame = slice_index_or line frame None

-- the first so many frames of two slots
abbrev pub first_frames : List UplinkSlot → List UplinkSlot → ℕ → List UplinkSlots
first_frames one two zero = []
first_frames one two (suc frame) =
    first_frames one two frame ++ (slot_in one frame ∷ slot_in two frame ∷ []) ∷ []

-- how many frames two slots have: those of the longer one
abbrev pub frames_held : Hold → ℕ
frames_held hold = max (length hold.one.line) (length hold.two.line)

-- the frames of the recording of what is held
abbrev pub recorded_frames : Hold → List UplinkSlots
recorded_frames hold = first_frames hold.one.line hold.two.line (frames_held hold)

-- What is held of both slots is as it has to be.
pub record AreSlotsHeld (hold : Hold) : Type 0 where
  pub one : IsSlotHeld hold.one
  pub two : IsSlotHeld hold.two

-- how many packets have no place: those that were late, and those that weren't taken
abbrev pub late_or_other : Hold → ℕ
late_or_other hold = hold.other + hold.one.places.late + hold.two.places.late
