use Rattle.std.proofs.Common.{subst}
use Rattle.std.specs.Io.KnownBytes.{Appends}
use Rattle.dmr_record.proofs.Silences.{half_out, nothing_out, whole_frames, with_other_half}
use Rattle.dmr_record.proofs.silence.write_silence.Goals as goal

pub returns-in-Err-clause-torn : goal.returns-in-Err-clause-torn
returns-in-Err-clause-torn g c = nothing_out _ _ c.in-Err.ensures.octets

pub returns-then-written-eq0-clause-written : goal.returns-then-written-eq0-clause-written
returns-then-written-eq0-clause-written g c =
    subst (Appends (g.K.Sink.held c.args.sink.now) (g.K.Sink.held c.write.new.self))
    (whole_frames c.in-Ok.written c.in-Ok.ensures.count c.if-written-eq0.true) c.in-Ok.ensures.octets

pub returns-in-Ok-put-clause-written : goal.returns-in-Ok-put-clause-written
returns-in-Ok-put-clause-written g c =
    with_other_half c.in-Ok.written _ _ _ c.in-Ok.ensures.count c.if-written-eq0.false c.in-Ok.ensures.octets
    c.in-Ok-put.ensures.octets

pub returns-in-Err-put-clause-torn : goal.returns-in-Err-put-clause-torn
returns-in-Err-put-clause-torn g c =
    half_out c.in-Ok.written _ _ _ c.in-Ok.ensures.count c.if-written-eq0.false c.in-Ok.ensures.octets c.in-Err-put.ensures.torn
