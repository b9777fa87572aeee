use Rattle.std.proofs.Common.{rules}
use Rattle.dmr_show.proofs.showing.print_want_of_memory.Goals as goal

pub returns : goal.returns
returns g c = search rules
