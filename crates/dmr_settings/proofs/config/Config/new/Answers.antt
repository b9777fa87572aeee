use Rattle.std.proofs.Common.{rules}
use Rattle.dmr_settings.proofs.config.Config.new.Goals as goal

pub returns-then-call_hang-channel_hang-clause-fault : goal.returns-then-call_hang-channel_hang-clause-fault
returns-then-call_hang-channel_hang-clause-fault c = search rules
