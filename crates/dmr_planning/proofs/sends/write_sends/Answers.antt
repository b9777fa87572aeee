use Rattle.std.proofs.lemmas.Result.{on_err_weaker}
use Rattle.dmr_planning.proofs.Torn.{at_error}
use Rattle.dmr_planning.specs.Sending.{planned_sendings}
use Rattle.dmr_record.proofs.Torn.{Tears_after, Tears_more}
use Rattle.dmr_record.specs.Head.{head_octets, outgoing_magic}
use Rattle.dmr_record.specs.Outgoing.{sendings_octets}
use Rattle.dmr_planning.proofs.sends.write_sends.Goals as goal

pub returns-in_err-write_head-clause-torn : goal.returns-in_err-write_head-clause-torn
returns-in_err-write_head-clause-torn g c =
    at_error c.from_residual.result _
    (Tears_more (g.K.Sink.held c.args.sink.now) (g.K.Sink.held c.write_head.new.sink) (head_octets outgoing_magic)
    (sendings_octets (planned_sendings c.args.statements.now c.args.sends.now)) c.in_err-write_head.ensures.torn)

pub returns-clause-torn : goal.returns-clause-torn
returns-clause-torn g c =
    on_err_weaker c.write_records.result (λ torn.
    Tears_after (g.K.Sink.held c.args.sink.now) (g.K.Sink.held c.write_head.new.sink) (g.K.Sink.held c.write_records.new.sink)
    (head_octets outgoing_magic) (sendings_octets (planned_sendings c.args.statements.now c.args.sends.now))
    c.in_ok-write_head.ensures.head torn) c.write_records.ensures.torn
