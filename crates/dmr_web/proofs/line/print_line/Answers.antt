use Rattle.std.proofs.Common.{rules, take}
use Rattle.std.proofs.lemmas.List.{take_more_set}
use Rattle.dmr_web.proofs.line.print_line.Goals as goal

pub returns-clause-line : goal.returns-clause-line
returns-clause-line g c = (
  take c.line_end-end.result c.print.new.octets,
  search rules,
  take_more_set c.print.new.octets c.line_end-end.result 10 (search rules),
)
