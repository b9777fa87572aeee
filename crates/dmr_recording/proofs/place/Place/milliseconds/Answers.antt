use Rattle.std.proofs.Common.{rules}
use Rattle.dmr_recording.proofs.place.Place.milliseconds.Goals as goal

pub returns : goal.returns
returns c = search rules
