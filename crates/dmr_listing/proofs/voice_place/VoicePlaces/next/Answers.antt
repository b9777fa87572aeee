use Rattle.std.proofs.Common.{rules}
use Rattle.dmr_listing.proofs.voice_place.VoicePlaces.next.Goals as goal

pub returns-clause-value : goal.returns-clause-value
returns-clause-value c = search rules
