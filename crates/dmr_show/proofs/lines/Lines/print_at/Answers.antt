use Rattle.std.proofs.Common.{sym, ◌∙◌}
use Rattle.dmr_show.proofs.Printed.{puts_where_done}
use Rattle.dmr_show.specs.Filter.{lets_pass}
use Rattle.dmr_show.proofs.lines.Lines.print_at.Goals as goal

pub returns-then-passes-clause-lines : goal.returns-then-passes-clause-lines
returns-then-passes-clause-lines g c =
    puts_where_done c.print.result (lets_pass c.args.self.now.filter c.args.place) _ _
    (sym c.passes.ensures.value ∙ c.if-passes.true) c.print.ensures.line
