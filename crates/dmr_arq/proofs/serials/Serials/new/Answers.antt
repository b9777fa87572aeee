use Rattle.std.proofs.Common.{rules}
use Rattle.dmr_arq.proofs.serials.Serials.new.Goals as goal

pub returns : goal.returns
returns c = search rules
