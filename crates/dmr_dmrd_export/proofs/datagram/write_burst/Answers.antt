use Rattle.std.proofs.Common.{◌≡◌, ℕ, List, ap, ◌∙◌, subst}
use Rattle.std.specs.Prelude.{OnErr, OnOk}
use Rattle.std.specs.Io.KnownBytes.{Appends}
use Rattle.dmr_capture.specs.Written.{packet_record, written_record}
use Rattle.dmr_record.specs.Devices.{Tears}
use Rattle.dmr_dmrd_export.specs.BurstPackets.{burst_time, dmrd_packet, packet_datagram, packet_payload}
use Rattle.dmr_dmrd_export.specs.declared.packet.BurstPacket.{BurstPacket}
use Rattle.dmr_dmrd_export.specs.declared.settings.ExportSettings.{ExportSettings}
use Rattle.dmr_dmrd_export.proofs.datagram.write_burst.Goals as goal

same_record : (settings : ExportSettings) (packet : BurstPacket) (time : ℕ) (payload octets : List ℕ)
    → time ≡ burst_time settings packet → payload ≡ packet_payload settings.repeater packet → octets ≡ packet_datagram payload
    → written_record time octets ≡ packet_record (dmrd_packet settings packet)
same_record settings packet time payload octets at is_payload is_datagram =
    ap (λ t. written_record t octets) at
    ∙ ap (λ o. written_record (burst_time settings packet) o) (is_datagram ∙ ap packet_datagram is_payload)

pub returns-clause-record : goal.returns-clause-record
returns-clause-record g c =
    subst (λ l. OnOk c.write_packet.result (Appends (g.K.Sink.held c.args.sink.now) (g.K.Sink.held c.write_packet.new.sink) l))
    (same_record c.args.settings.now c.args.packet.now c.burst_time.result c.payload.result c.datagram-octets.result
    c.burst_time.ensures.value c.payload.ensures.value c.datagram-octets.ensures.value) c.write_packet.ensures.record

pub returns-clause-torn : goal.returns-clause-torn
returns-clause-torn g c =
    subst (λ l. OnErr c.write_packet.result (Tears (g.K.Sink.held c.args.sink.now) (g.K.Sink.held c.write_packet.new.sink) l))
    (same_record c.args.settings.now c.args.packet.now c.burst_time.result c.payload.result c.datagram-octets.result
    c.burst_time.ensures.value c.payload.ensures.value c.datagram-octets.ensures.value) c.write_packet.ensures.torn
