use Rattle.dmr_repeater.proofs.Records.{OffersDue-none}
use Rattle.dmr_repeater.proofs.schedule.Schedule.offer_due.Goals as goal

pub returns-then-is_past-clause-offers : goal.returns-then-is_past-clause-offers
returns-then-is_past-clause-offers g c = OffersDue-none c.args.frame c.args.self.now c.args.station.now _
