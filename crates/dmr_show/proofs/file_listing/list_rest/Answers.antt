use Rattle.std.proofs.Common.{rules}
use Rattle.dmr_lines.specs.Line.{PutsLine}
use Rattle.dmr_show.proofs.Shown.{rest_behind, rest_between, told}
use Rattle.dmr_show.specs.Held.{held_by}
use Rattle.dmr_show.proofs.file_listing.list_rest.Goals as goal

pub returns-in-Ok-clause-whole : goal.returns-in-Ok-clause-whole
returns-in-Ok-clause-whole g c =
    let first : PutsLine (held_by (g.K.Sink.held c.args.lines.now.sink.now) c.args.lines.now.waiting)
    (held_by (g.K.Sink.held c.begin.new.self.sink.now) c.begin.new.self.waiting) = search rules in (
      c.in_ok-summary.summary,
      rest_between _ _ _ _ _ _ _ _ _ _ _ c.begin.ensures.same_filter c.in_ok-summary.ensures.whole first c.in-Ok.ensures.line,
    )

pub returns-in_err-summary-clause-fault : goal.returns-in_err-summary-clause-fault
returns-in_err-summary-clause-fault g c =
    let first : PutsLine (held_by (g.K.Sink.held c.args.lines.now.sink.now) c.args.lines.now.waiting)
    (held_by (g.K.Sink.held c.begin.new.self.sink.now) c.begin.new.self.waiting) = search rules in
    let behind = told c.in_err-summary.field-0.0 _ _ c.in_err-summary.ensures.fault
    (λ fault rest. rest_behind _ _ _ _ _ _ _ _ _ _ c.begin.ensures.same_filter first rest) in
    search rules
