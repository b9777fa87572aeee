-- What is held of a slot: the bursts that were placed, and the silences between them.
use Rattle.std.specs.Prelude.{◌≡◌, ℕ, ◌-◌, ◌≤◌, List, [], ◌∷◌, ◌++◌, Option, Some, None, length, replicate}
use Rattle.dmr_record.specs.Uplink.{UplinkSlot}
use Rattle.dmr_dmrd.specs.Placing.{frame_asked, frames_up_to, no_places, places_behind}
use Rattle.dmr_dmrd.specs.declared.packet.HotspotPacket.{HotspotPacket}
use Rattle.dmr_dmrd.specs.declared.placing.Asked.{Asked}
use Rattle.dmr_dmrd.specs.declared.placing.SlotPlaces.{SlotPlaces}

-- A slot: what is remembered of the packets that were placed, and its bursts and silences, frame by frame.
pub record HeldSlot : Type 0 where
  pub places : SlotPlaces
  pub line : List UplinkSlot

-- the line with a burst in this frame: behind what there is, silence up to the frame, and then the burst
abbrev pub line_with : List UplinkSlot → List ℕ → ℕ → List UplinkSlot
line_with line burst frame = (line ++ replicate (frame - length line) None) ++ Some burst ∷ []

-- the same, where there is a frame
abbrev pub line_behind : List UplinkSlot → List ℕ → Option ℕ → List UplinkSlot
line_behind line burst None = line
line_behind line burst (Some frame) = line_with line burst frame

-- the slot behind a packet that came at this time, asks for this, and has this burst
abbrev pub slot_behind : HeldSlot → HotspotPacket → ℕ → List ℕ → Asked → HeldSlot
slot_behind slot p time burst asked = record {
  places = places_behind slot.places p time asked;
  line = line_behind slot.line burst (frame_asked asked);
}

-- in front of a recording
abbrev pub no_slot : HeldSlot
no_slot = record { places = no_places; line = [] }

-- A slot has as many frames as one more than the last place, no more than a recording has, and each burst and each number that was
-- left out takes one.
pub record IsSlotHeld (slot : HeldSlot) : Type 0 where
  pub count : length slot.line ≡ frames_up_to slot.places.last
  pub few : length slot.line ≤ 1048576
  pub bursts : slot.places.bursts ≤ length slot.line
  pub lost : slot.places.lost ≤ length slot.line
