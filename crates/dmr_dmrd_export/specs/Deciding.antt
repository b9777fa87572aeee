-- What is decided slot by slot, and written: each slot four frames behind it.
use Rattle.std.specs.Prelude.{◌≡◌, ◌⊎◌, ℕ, ◌≤◌, List, [], ◌++◌, Option, None, length, map, replicate}
use Rattle.std.specs.Io.KnownBytes.{Appends}
use Rattle.std.specs.List.{AllByRecursion, flat_map}
use Rattle.dmr_capture.specs.Written.{IsWritable, packet_record}
use Rattle.dmr_record.specs.Devices.{Tears}
use Rattle.dmr_dmrd_export.specs.BurstPackets.{dmrd_packet}
use Rattle.dmr_dmrd_export.specs.Streams.{AreStreamed, no_streams}
use Rattle.dmr_dmrd_export.specs.declared.burst.RepeatedBurst.{RepeatedBurst}
use Rattle.dmr_dmrd_export.specs.declared.packet.BurstPacket.{BurstPacket}
use Rattle.dmr_dmrd_export.specs.declared.settings.ExportSettings.{ExportSettings}
use Rattle.dmr_dmrd_export.specs.declared.state.ExportState.{ExportState}

-- in front of a downlink
abbrev pub nothing_exported : ExportState
nothing_exported = record { waiting = []; streams = no_streams }

-- These slots came. The last of them wait, eight at most, and as many where any is decided. Of those these are the packets.
pub record AreDecided (came : List (Option RepeatedBurst)) (packets : List BurstPacket) (state : ExportState) : Type 0 where
  pub decided : List (Option RepeatedBurst)
  pub split : came ≡ decided ++ state.waiting
  pub few : length state.waiting ≤ 8
  pub full : (decided ≡ []) ⊎ (length state.waiting ≡ 8)
  pub streamed : AreStreamed no_streams decided state.waiting packets state.streams

-- More slots come, and these packets more are decided.
pub record AreMoreDecided (before : ExportState) (newest : List (Option RepeatedBurst)) (more : List BurstPacket)
    (after : ExportState) : Type 0 where
  pub go_on : (came : List (Option RepeatedBurst)) (packets : List BurstPacket)
      → AreDecided came packets before → AreDecided (came ++ newest) (packets ++ more) after

-- the records of packets in a capture
abbrev pub dmrd_records : ExportSettings → List BurstPacket → List ℕ
dmrd_records settings packets = flat_map packet_record (map (dmrd_packet settings) packets)

-- They are written, and can be read.
pub record AreMoreWritten (settings : ExportSettings) (before : ExportState) (newest : List (Option RepeatedBurst))
    (more : List BurstPacket) (after : ExportState) (held held' : Option (List ℕ)) : Type 0 where
  pub decided : AreMoreDecided before newest more after
  pub fit : AllByRecursion IsWritable (map (dmrd_packet settings) more)
  pub written : Appends held held' (dmrd_records settings more)

-- They aren't written to their end: the sink took a front of them.
pub record AreMoreTorn (settings : ExportSettings) (before : ExportState) (newest : List (Option RepeatedBurst))
    (held held' : Option (List ℕ)) : Type 0 where
  pub more : List BurstPacket
  pub after : ExportState
  pub decided : AreMoreDecided before newest more after
  pub written : Tears held held' (dmrd_records settings more)

-- The same, where silent slots come.
pub record IsRestTorn (settings : ExportSettings) (before : ExportState) (held held' : Option (List ℕ)) : Type 0 where
  pub silent : ℕ
  pub few : silent ≤ 8
  pub torn : AreMoreTorn settings before (replicate silent None) held held'
