-- What stands in a file are octets.
use Rattle.std.specs.Prelude.{[], Some, None, unwrap_or}
use Rattle.std.specs.List.{AllByRecursion}
use Rattle.hex.specs.Hex.{IsBytes}
use Rattle.dmr_recording.specs.Recordings.{RecordedSlot}
use Rattle.dmr_record.specs.Outgoing.{Sending}
use Rattle.dmr_record.specs.Received.{Receipt}
use Rattle.dmr_text.specs.Files.{File, Receipts, Sendings, Slots}

-- a burst and its CACH, where it has one, are octets
abbrev pub HasSlotOctets : RecordedSlot → Type 0
HasSlotOctets None = Unit {0}
HasSlotOctets (Some b) = IsBytes b.burst × IsBytes (unwrap_or b.cach [])

-- The bursts of a recording and the octets of the records of a list are octets, each below 256.
abbrev pub HasOctets : File → Type 0
HasOctets (Slots of slots) = AllByRecursion HasSlotOctets slots
HasOctets (Sendings sendings) = AllByRecursion (λ (s : Sending). IsBytes s.datagram) sendings
HasOctets (Receipts receipts) = AllByRecursion (λ (r : Receipt). IsBytes r.octets) receipts
