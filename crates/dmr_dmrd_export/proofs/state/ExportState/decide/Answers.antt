use Rattle.std.proofs.Common.{subst}
use Rattle.std.specs.Prelude.{Option}
use Rattle.dmr_link.specs.declared.full_lc.FullLc.{FullLc}
use Rattle.dmr_dmrd_export.specs.Streams.{IsSlotStreamed}
use Rattle.dmr_dmrd_export.proofs.Streaming.{decides_more}
use Rattle.dmr_dmrd_export.proofs.state.ExportState.decide.Goals as goal

pub returns-clause-decides : goal.returns-clause-decides
returns-clause-decides c =
    let (rest, front, seven, waits) = c.in-Some.ensures.due in
    let before = c.args.self.now in
    decides_more before (record { waiting = c.push.new.self; streams = c.take.new.self }) c.in-Some.oldest c.args.newest rest
    c.take.result front seven waits
    (subst (λ (lc : Option FullLc). IsSlotStreamed before.streams c.in-Some.oldest lc c.take.result c.take.new.self)
    c.carried_with.ensures.value c.take.ensures.streamed)
