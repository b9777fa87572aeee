use Rattle.std.proofs.Common.{rules}
use Rattle.dmr_data.proofs.block_forms.block_info.Goals as goal

pub returns-in-Full : goal.returns-in-Full
returns-in-Full c = search rules
