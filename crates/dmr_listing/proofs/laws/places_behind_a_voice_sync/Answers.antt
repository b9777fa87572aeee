use Rattle.dmr_listing.proofs.Places.{place_told, place_stands}
use Rattle.dmr_listing.proofs.laws.places_behind_a_voice_sync.Goals as goal

pub returns : goal.returns
returns c = record { law = λ readings place. (place_told readings place, place_stands readings place) }
