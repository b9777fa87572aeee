-- Which packets a capture of a received list has, and when they came.
use Rattle.std.specs.Prelude.{◌≡◌, ℕ, ◌+◌, ◌*◌, ◌^◌, ◌≤◌, ◌==◌, ◌&&◌, if◌then◌else◌, Bool, true, false, List, [], ◌∷◌, Option}
use Rattle.std.specs.Prelude.{None, Some}
use Rattle.std.specs.List.{flat_map}
use Rattle.dmr_record.specs.Received.{Receipt}
use Rattle.dmr_record.specs.declared.received.ReceivedKind.{ReceivedKind}
use Rattle.dmr_record.specs.declared.received.ReceivedKind.TheVariants.{Datagram, ShortData, Status}
use Rattle.dmr_capture.specs.Written.{WrittenPacket}
use Rattle.dmr_datagrams.specs.declared.wanted.ExportSettings.{ExportSettings}

-- whether a record is a datagram
abbrev pub is_datagram : ReceivedKind → Bool
is_datagram Datagram = true
is_datagram ShortData = false
is_datagram Status = false

-- whether a slot is wanted: one, or both
abbrev pub is_of_slot : Option ℕ → ℕ → Bool
is_of_slot None slot = true
is_of_slot (Some wanted) slot = wanted == slot

-- whether a record is written
abbrev pub is_wanted : ExportSettings → ReceivedKind → ℕ → Bool
is_wanted settings kind slot = is_datagram kind && is_of_slot settings.slot slot

-- when a record of this frame and slot came, in microseconds: 60 milliseconds for each frame, and 30 more in slot 2
abbrev pub exported_time : ℕ → ℕ → ℕ → ℕ
exported_time start frame slot = start + (60000 * frame + (if slot == 2 then 30000 else 0))

-- the first time that a capture has no room for
abbrev pub time_limit : ℕ
time_limit = 2 ^ 32 * 1000000

-- the packet of a record
abbrev pub exported_packet : ExportSettings → Receipt → WrittenPacket
exported_packet settings r = record { time = exported_time settings.start r.frame r.slot; octets = r.octets }

-- the same as a list, which is empty where the record isn't written
abbrev pub exported_packets : ExportSettings → Receipt → List WrittenPacket
exported_packets settings r = if is_wanted settings r.kind r.slot then exported_packet settings r ∷ [] else []

-- the packets of a received list, in its order
abbrev pub exported : ExportSettings → List Receipt → List WrittenPacket
exported settings receipts = flat_map (exported_packets settings) receipts

-- A record is wanted, and came later than a capture can say.
pub record IsLate (settings : ExportSettings) (r : Receipt) : Type 0 where
  pub wanted : is_wanted settings r.kind r.slot ≡ true
  pub late : time_limit ≤ exported_time settings.start r.frame r.slot
