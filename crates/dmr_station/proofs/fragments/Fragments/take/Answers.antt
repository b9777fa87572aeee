use Rattle.std.proofs.Common.{true, false}
use Rattle.dmr_station.proofs.fragments.Fragments.take.Goals as goal

pub invariant_of-self : goal.invariant_of-self
invariant_of-self c = record {
  0 = λ place. record {
    0 = c.short_lc-four.result;
    1 = c.short_lc-four.ensures.carried;
    2 = c.refilled.ensures.cachs false c.self.inside.message c.self.invariant.0 place;
  };
  1 = λ place. record {
    0 = c.short_lc-four.result;
    1 = c.short_lc-four.ensures.carried;
    2 = c.refilled-then-ne.ensures.cachs true c.self.inside.message c.self.invariant.1 place;
  };
  2 = c.refilled.ensures.octets;
  3 = c.refilled-then-ne.ensures.octets;
}
