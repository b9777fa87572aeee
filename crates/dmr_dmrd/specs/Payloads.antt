-- What a payload of the protocol of hotspots says.
use Rattle.std.specs.Prelude.{ℕ, ◌/◌, ◌%◌, ◌==◌, ◌&&◌, ◌||◌, nat_le, if◌then◌else◌, Bool, List, Option, Some, None}
use Rattle.std.specs.Prelude.{length, take, drop, slice_index}
use Rattle.byteorder.specs.Endian.{big_number}
use Rattle.dmr_dmrd.specs.declared.packet.BurstKind.{BurstKind}
use Rattle.dmr_dmrd.specs.declared.packet.BurstKind.TheVariants.{Data, Voice}
use Rattle.dmr_dmrd.specs.declared.packet.HotspotPacket.{HotspotPacket}
use Rattle.dmr_dmrd.specs.declared.packet.Slot.{Slot}
use Rattle.dmr_dmrd.specs.declared.packet.Slot.TheVariants.{One, Two}

-- whether octets begin with DMRD
abbrev pub begins_with_dmrd : List ℕ → Bool
begins_with_dmrd payload = (slice_index payload 0 == 0x44) && (slice_index payload 1 == 0x4D) && (slice_index payload 2 == 0x52)
    && (slice_index payload 3 == 0x44)

-- whether a payload is one of a burst: it has 53 octets, or 55 with bit errors and RSSI, and begins with DMRD
abbrev pub is_dmrd : List ℕ → Bool
is_dmrd payload = ((length payload == 53) || (length payload == 55)) && begins_with_dmrd payload

-- the slot, by the highest bit of the flags
abbrev pub slot_said : ℕ → Slot
slot_said flags = if nat_le 0x80 flags then Two else One

abbrev pub kind_by_type : ℕ → ℕ → BurstKind
kind_by_type type number = if type == 0 then Voice number else if type == 1 then Voice 0 else Data

-- What the burst is, by the frame type in two bits of the flags: 0 is a voice burst from B to F, whose number stands in the lowest
-- four bits, 1 is a voice burst A, and 2 is data.
abbrev pub kind_said : ℕ → BurstKind
kind_said flags = kind_by_type (flags / 16 % 4) (flags % 16)

-- the burst of 33 octets
abbrev pub burst_said : List ℕ → List ℕ
burst_said payload = take 33 (drop 20 payload)

-- The number of a packet stands at 4, its repeater at 11, the flags at 15, its stream at 16, and its burst at 20.
abbrev pub hotspot_packet_said : List ℕ → HotspotPacket
hotspot_packet_said payload = record {
  number = slice_index payload 4;
  repeater = big_number 4 (drop 11 payload);
  slot = slot_said (slice_index payload 15);
  kind = kind_said (slice_index payload 15);
  stream = big_number 4 (drop 16 payload);
  burst = burst_said payload;
}

-- the packet that a payload says
abbrev pub hotspot_packet_in : List ℕ → Option HotspotPacket
hotspot_packet_in payload = if is_dmrd payload then Some (hotspot_packet_said payload) else None
