use Rattle.dmr_planning.proofs.Torn.{at_error}
use Rattle.dmr_planning.proofs.Written.{torn_behind}
use Rattle.dmr_planning.proofs.sends.write_records.Goals as goal

pub returns-in_err-write_record-clause-torn : goal.returns-in_err-write_record-clause-torn
returns-in_err-write_record-clause-torn g c =
    at_error c.from_residual.result _
    (torn_behind c.args.statements.now c.args.sends.now c.loop-planned.planned-index _ (g.K.Sink.held c.args.sink.now)
    (g.K.Sink.held c.loop-planned.sink) (g.K.Sink.held c.write_record.new.sink) c.loop-planned-test.true
    c.loop-planned.invariant.written c.in_err-write_record.ensures.torn)
