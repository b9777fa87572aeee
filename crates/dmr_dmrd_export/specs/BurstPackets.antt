-- The packet of a repeated burst, octet by octet.
use Rattle.std.specs.Prelude.{ℕ, ◌+◌, ◌*◌, ◌/◌, ◌%◌, ◌==◌, List, [], ◌∷◌, ◌++◌, Some, None, if◌then◌else◌}
use Rattle.dmr_capture.specs.Written.{WrittenPacket}
use Rattle.dmr_ip.specs.Contents.{udp_checksum, udp_header}
use Rattle.dmr_listing.specs.declared.voice_place.VoicePlace.TheVariants as place
use Rattle.dmr_recording.specs.Places.{milliseconds}
use Rattle.dmr_dmrd_export.specs.declared.burst.SentKind.{SentKind}
use Rattle.dmr_dmrd_export.specs.declared.burst.SentKind.TheVariants.{Voice, Data}
use Rattle.dmr_dmrd_export.specs.declared.packet.BurstPacket.{BurstPacket}
use Rattle.dmr_dmrd_export.specs.declared.settings.ExportSettings.{ExportSettings}

-- 1. The payload: that of the protocol of Homebrew repeaters.

-- The bits that tell what the burst is: 10 for the voice burst A, the number 1 to 5 for B to F, 0 for one whose place isn't known,
-- and 20 with the data type for data.
abbrev pub kind_flags : SentKind → ℕ
kind_flags (Voice None) = 0
kind_flags (Voice (Some place.A)) = 0x10
kind_flags (Voice (Some place.B)) = 1
kind_flags (Voice (Some place.C)) = 2
kind_flags (Voice (Some place.D)) = 3
kind_flags (Voice (Some place.E)) = 4
kind_flags (Voice (Some place.F)) = 5
kind_flags (Data type) = 0x20 + type % 16

-- 80 is slot 2, and 40 says that the target is no talk group
abbrev pub packet_flags : BurstPacket → ℕ
packet_flags p =
    (if p.place.slot == 2 then 0x80 else 0) + (if p.addresses.is_to_unit then 0x40 else 0) + kind_flags p.kind

-- the three octets of an address
abbrev pub three_octets : ℕ → List ℕ
three_octets address = (address / 65536 % 256) ∷ (address / 256 % 256) ∷ (address % 256) ∷ []

-- the four octets of a number
abbrev pub four_octets : ℕ → List ℕ
four_octets number = (number / 16777216) ∷ (number / 65536 % 256) ∷ (number / 256 % 256) ∷ (number % 256) ∷ []

-- What stands in front of the burst: DMRD, the number of the packet, the source, the target, the repeater, the flags and the
-- stream.
abbrev pub payload_head : ℕ → BurstPacket → List ℕ
payload_head repeater p =
    0x44 ∷ 0x4D ∷ 0x52 ∷ 0x44 ∷ p.number ∷ three_octets p.addresses.source ++ three_octets p.addresses.target
    ++ four_octets repeater ++ packet_flags p ∷ four_octets p.stream

abbrev pub packet_payload : ℕ → BurstPacket → List ℕ
packet_payload repeater p = payload_head repeater p ++ p.burst

-- 2. The datagram that carries it.

-- The head of IPv4 (RFC 791): 81 octets, no fragment, time to live 64, UDP, the checksum B698, from 192.0.2.1 to 192.0.2.2.
abbrev pub packet_ip_head : List ℕ
packet_ip_head =
    0x45 ∷ 0 ∷ 0 ∷ 81 ∷ 0 ∷ 0 ∷ 0x40 ∷ 0 ∷ 64 ∷ 17 ∷ 0xB6 ∷ 0x98 ∷ 192 ∷ 0 ∷ 2 ∷ 1 ∷ 192 ∷ 0 ∷ 2 ∷ 2 ∷ []

-- The head of UDP (RFC 768): 61 octets between ports 62031, with the checksum of both heads and the payload.
abbrev pub packet_udp_head : List ℕ → List ℕ
packet_udp_head payload = udp_header (udp_checksum 61 0xC0000201 0xC0000202 62031 62031 payload) 61 62031 62031

abbrev pub packet_datagram : List ℕ → List ℕ
packet_datagram payload = packet_ip_head ++ packet_udp_head payload ++ payload

-- 3. In a capture.

-- when a burst goes out, in microseconds: 60 milliseconds behind the begin for each frame, and 30 more in slot 2
abbrev pub burst_time : ExportSettings → BurstPacket → ℕ
burst_time settings p = settings.start + 1000 * milliseconds p.place

-- the packet of a capture
abbrev pub dmrd_packet : ExportSettings → BurstPacket → WrittenPacket
dmrd_packet settings p = record {
  time = burst_time settings p;
  octets = packet_datagram (packet_payload settings.repeater p);
}
