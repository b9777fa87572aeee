use Rattle.std.proofs.Common.{rules, ◌≡◌, true, sym, ◌∙◌, ap, subst, append-nil}
use Rattle.std.specs.Io.KnownBytes.{Appends}
use Rattle.std.specs.List.{flat_map}
use Rattle.dmr_record.specs.Received.{Receipt, receipt_of}
use Rattle.dmr_capture.specs.Written.{packet_record, written_record}
use Rattle.dmr_datagrams.specs.Packets.{is_wanted, exported_packet, exported_packets}
use Rattle.dmr_datagrams.specs.declared.wanted.ExportSettings.{ExportSettings}
use Rattle.dmr_datagrams.proofs.wanted.export_record.Goals as goal

-- a record that is wanted is one packet
one_packet : (settings : ExportSettings) (r : Receipt) → is_wanted settings r.kind r.slot ≡ true
    → flat_map packet_record (exported_packets settings r) ≡ packet_record (exported_packet settings r)
one_packet settings r wanted = rw wanted (append-nil (packet_record (exported_packet settings r)))

pub returns-in-Ok-clause-packets : goal.returns-in-Ok-clause-packets
returns-in-Ok-clause-packets g c =
    let r = receipt_of c.args.received c.args.octets.now in
    let wanted : is_wanted c.args.settings r.kind r.slot ≡ true = search rules in
    let same : written_record c.in-Some.time c.args.octets.now ≡ packet_record (exported_packet c.args.settings r) =
    ap (λ t. written_record t c.args.octets.now) c.in-Some.ensures.some in
    subst (λ l. Appends (g.K.Sink.held c.args.sink.now) (g.K.Sink.held c.write_packet.new.sink) l)
    (same ∙ sym (one_packet c.args.settings r wanted)) c.in-Ok.ensures.record
