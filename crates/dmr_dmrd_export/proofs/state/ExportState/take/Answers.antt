use Rattle.std.proofs.Common.{◌∷◌, [], refl, sym, subst, append-nil}
use Rattle.std.specs.Io.KnownBytes.{Appends}
use Rattle.dmr_capture.specs.Written.{packet_record}
use Rattle.dmr_dmrd_export.specs.BurstPackets.{dmrd_packet}
use Rattle.dmr_dmrd_export.proofs.state.ExportState.take.Goals as goal

pub returns-in-Ok-clause-written : goal.returns-in-Ok-clause-written
returns-in-Ok-clause-written g c = (
  c.in-Some.packet ∷ [],
  refl,
  record {
    decided = c.in-Some.ensures.decides;
    fit = (c.write_burst.ensures.fit, tt);
    written = subst (Appends (g.K.Sink.held c.args.sink.now) (g.K.Sink.held c.write_burst.new.sink))
        (sym (append-nil (packet_record (dmrd_packet c.args.settings.now c.in-Some.packet)))) c.in-Ok.ensures.record;
  },
)
