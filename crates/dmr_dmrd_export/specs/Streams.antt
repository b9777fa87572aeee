-- Which streams there are, and which packet each repeated burst is.
use Rattle.std.specs.Prelude.{◌≡◌, ℕ, ◌+◌, ◌-◌, ◌%◌, ◌==◌, List, [], ◌∷◌, ◌++◌, Option, Some, None, if◌then◌else◌}
use Rattle.std.specs.Prelude.{option_to_list, slice_index_or}
use Rattle.dmr_link.specs.declared.full_lc.FullLc.{FullLc}
use Rattle.dmr_log.specs.Checks.{none_checked}
use Rattle.dmr_log.specs.Transmissions.{IsStep, is_before_voice}
use Rattle.dmr_log.specs.declared.repeated.Repeated.TheVariants.{Nothing}
use Rattle.dmr_log.specs.declared.transmission.Ended.{Ended}
use Rattle.dmr_log.specs.declared.transmission.Subject.{Subject}
use Rattle.dmr_log.specs.declared.transmission.Subject.TheVariants.{Call, Packet, Controls}
use Rattle.dmr_log.specs.declared.transmission.Transmission.{Transmission}
use Rattle.dmr_recording.specs.Places.{place_by_number}
use Rattle.dmr_recording.specs.declared.place.Place.{Place}
use Rattle.dmr_dmrd_export.specs.Repeats.{carried_with, kind_of_line, told_by_line}
use Rattle.dmr_dmrd_export.specs.StreamAddresses.{first_addresses, no_addresses}
use Rattle.dmr_dmrd_export.specs.declared.burst.RepeatedBurst.{RepeatedBurst}
use Rattle.dmr_dmrd_export.specs.declared.packet.BurstPacket.{BurstPacket}
use Rattle.dmr_dmrd_export.specs.declared.stream.SlotStream.{SlotStream}
use Rattle.dmr_dmrd_export.specs.declared.streams.BothStreams.{BothStreams}

-- 1. One slot.

-- nothing came yet
abbrev pub no_stream : SlotStream
no_stream = record { current = None; name = 0; addresses = no_addresses }

abbrev pub headers_of_subject : Subject → Option FullLc
headers_of_subject (Call call) = if is_before_voice call.stage then call.link_control else None
headers_of_subject (Packet packet) = None
headers_of_subject (Controls kind) = None

-- the link control of the call of which headers alone came so far
abbrev pub headers_of : Option Transmission → Option FullLc
headers_of None = None
headers_of (Some t) = headers_of_subject t.subject

-- The transmission that is open, which is the stream that goes on, or where this frame is its first, a new one with the next name.
abbrev pub stream_with : SlotStream → ℕ → ℕ → Option FullLc → Transmission → SlotStream
stream_with before names frame carried t =
    if t.span.first == frame
    then record { current = Some t; name = names + 1; addresses = first_addresses t.subject carried }
    else record before { current = Some t }

-- how many names are given then
abbrev pub names_with : ℕ → ℕ → Transmission → ℕ
names_with names frame t = if t.span.first == frame then names + 1 else names

-- the packet of a burst: its number counts the frames of the transmission, from 0
abbrev pub packet_of_burst : Place → Transmission → SlotStream → RepeatedBurst → BurstPacket
packet_of_burst place t stream burst = record {
  place = place;
  number = (place.frame - t.span.first) % 256;
  addresses = stream.addresses;
  kind = kind_of_line burst.line;
  stream = stream.name;
  burst = burst.octets;
}

-- No burst is repeated in this frame: the transmission that is open goes on with it, or ends.
pub record IsSlotSilent (before : SlotStream) (place : Place) (after : SlotStream) : Type 0 where
  pub ended : Option Ended
  pub step : IsStep before.current place.frame Nothing none_checked ended after.current
  pub name : after.name ≡ before.name
  pub addresses : after.addresses ≡ before.addresses

-- A burst is repeated in this frame. It is of the transmission that is open behind it, by the rules of a log, and this is its
-- packet. Behind it these names are given.
pub record IsBurstSent (before : SlotStream) (names : ℕ) (place : Place) (burst : RepeatedBurst) (carried : Option FullLc)
    (packet : BurstPacket) (after : SlotStream) (names_after : ℕ) : Type 0 where
  pub ended : Option Ended
  pub transmission : Transmission
  pub step : IsStep before.current place.frame (told_by_line (headers_of before.current) burst.line) none_checked ended
      (Some transmission)
  pub stream : after ≡ stream_with before names place.frame carried transmission
  pub given : names_after ≡ names_with names place.frame transmission
  pub value : packet ≡ packet_of_burst place transmission after burst

-- The next frame of a slot: a repeated burst is one packet, and silence is none. `carried` is what the four frames behind it carry.
abbrev pub IsStreamed : SlotStream → ℕ → Place → Option RepeatedBurst → Option FullLc → Option BurstPacket → SlotStream → ℕ
    → Type 0
IsStreamed before names place None carried packet after names_after =
    IsSlotSilent before place after × (packet ≡ None) × (names_after ≡ names)
IsStreamed before names place (Some burst) carried packet after names_after =
    (one : BurstPacket) × (packet ≡ Some one) × IsBurstSent before names place burst carried one after names_after

-- 2. Both slots.

-- in front of a downlink
abbrev pub no_streams : BothStreams
no_streams = record { slots = 0; next = no_stream; other = no_stream; names = 0 }

-- The next slot: its packet, where a burst is repeated in it.
pub record IsSlotStreamed (before : BothStreams) (burst : Option RepeatedBurst) (carried : Option FullLc)
    (packet : Option BurstPacket) (after : BothStreams) : Type 0 where
  pub stream : SlotStream
  pub names : ℕ
  pub goes_on : IsStreamed before.next before.names (place_by_number before.slots) burst carried packet stream names
  pub turn : after ≡ record { slots = before.slots + 1; next = before.other; other = stream; names = names }

-- what the four frames behind a slot carry, where these slots follow it: eight slots on the same slot comes, in the fourth frame
abbrev pub carried_behind : List (Option RepeatedBurst) → Option FullLc
carried_behind bursts = carried_with (slice_index_or bursts 7 None)

-- The packets of slots, one for each repeated burst, in their order. Other slots follow them.
abbrev pub AreStreamed : BothStreams → (bursts behind : List (Option RepeatedBurst)) → List BurstPacket → BothStreams → Type 0
AreStreamed turn [] behind packets end = (packets ≡ []) × (end ≡ turn)
AreStreamed turn (burst ∷ bursts) behind packets end =
    (one : Option BurstPacket) × (next : BothStreams) × (rest : List BurstPacket)
    × IsSlotStreamed turn burst (carried_behind (bursts ++ behind)) one next × (packets ≡ option_to_list one ++ rest)
    × AreStreamed next bursts behind rest end
