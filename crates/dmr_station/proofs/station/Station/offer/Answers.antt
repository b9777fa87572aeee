use Rattle.std.proofs.Common.{arith}
use Rattle.dmr_station.proofs.Offers.{one_offer}
use Rattle.dmr_station.proofs.station.Station.offer.Goals as goal

pub returns-in-Ok : goal.returns-in-Ok
returns-in-Ok c =
    record {
      offered = one_offer c.args.self.now c.self.inside.decider c.offer.new.self c.self.inside.counts c.args.outgoing.now _ _
          c.self.view_is c.in-Ok.ensures.offer c.offer.ensures.others (omega arith);
    }

pub returns-in-Err : goal.returns-in-Err
returns-in-Err c =
    record {
      offered = one_offer c.args.self.now c.self.inside.decider c.offer.new.self c.self.inside.counts c.args.outgoing.now _ _
          c.self.view_is c.in-Err.ensures.offer c.offer.ensures.others (omega arith);
    }
