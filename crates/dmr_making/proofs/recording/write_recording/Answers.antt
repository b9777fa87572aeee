use Rattle.std.proofs.lemmas.Result.{on_err_weaker}
use Rattle.dmr_making.proofs.Frames.{as_placed, at_error, tears_file, tears_head}
use Rattle.dmr_making.proofs.recording.write_recording.Goals as goal

pub returns-in_err-write_head-clause-torn : goal.returns-in_err-write_head-clause-torn
returns-in_err-write_head-clause-torn g c =
    at_error c.from_residual.result _
    (tears_head c.args.own c.args.statements.now c.args.first.now c.args.second.now (g.K.Sink.held c.args.sink.now)
    (g.K.Sink.held c.write_head.new.sink) c.in_err-write_head.ensures.torn)

pub returns-clause-torn : goal.returns-clause-torn
returns-clause-torn g c =
    on_err_weaker c.write_frames.result (λ torn.
    tears_file c.args.own c.args.statements.now c.args.first.now c.args.second.now c.new-one.result c.new-two.result
    (g.K.Sink.held c.args.sink.now) (g.K.Sink.held c.write_head.new.sink) (g.K.Sink.held c.write_frames.new.sink)
    (as_placed c.new-one.result c.args.own c.args.statements.now c.args.first.now c.new-one.ensures.own
    c.new-one.ensures.statements c.new-one.ensures.left c.new-one.ensures.from)
    (as_placed c.new-two.result c.args.own c.args.statements.now c.args.second.now c.new-two.ensures.own
    c.new-two.ensures.statements c.new-two.ensures.left c.new-two.ensures.from)
    c.in_ok-write_head.ensures.head torn) c.write_frames.ensures.torn
