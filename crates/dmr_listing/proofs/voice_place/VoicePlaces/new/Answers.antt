use Rattle.std.proofs.Common.{rules}
use Rattle.dmr_listing.proofs.voice_place.VoicePlaces.new.Goals as goal

pub returns : goal.returns
returns c = search rules
