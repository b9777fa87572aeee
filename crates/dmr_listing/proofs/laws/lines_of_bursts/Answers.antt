use Rattle.dmr_listing.specs.ListingRules.{begun}
use Rattle.dmr_listing.proofs.Listings.{lines_placed}
use Rattle.dmr_listing.proofs.laws.lines_of_bursts.Goals as goal

pub returns : goal.returns
returns c = record { law = lines_placed begun }
