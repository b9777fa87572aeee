use Rattle.std.proofs.Common.{rules}
use Rattle.dmr_recording.proofs.place.Place.of_slot.Goals as goal

pub returns : goal.returns
returns c = search rules
