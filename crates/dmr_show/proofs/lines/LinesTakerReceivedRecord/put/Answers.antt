use Rattle.std.proofs.Common.{rules}
use Rattle.dmr_show.proofs.lines.LinesTakerReceivedRecord.put.Goals as goal

pub returns-in-Text-clause-line : goal.returns-in-Text-clause-line
returns-in-Text-clause-line g c = search rules
