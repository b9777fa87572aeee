use Rattle.std.proofs.Common.{rules}
use Rattle.dmr_data.proofs.block_forms.block_of.Goals as goal

pub returns-in-Some-clause-serial : goal.returns-in-Some-clause-serial
returns-in-Some-clause-serial g c = search rules
