use Rattle.dmr_station.proofs.fragments.Fragments.of.Goals as goal

pub invariant_of-result : goal.invariant_of-result
invariant_of-result c = record {
  0 = λ place. record { 0 = c.short_lc-four.result; 1 = c.short_lc-four.ensures.carried; 2 = c.cachs.ensures.cachs place };
  1 = λ place. record { 0 = c.short_lc-four.result; 1 = c.short_lc-four.ensures.carried; 2 = c.cachs-2.ensures.cachs place };
  2 = c.cachs.ensures.octets;
  3 = c.cachs-2.ensures.octets;
}
