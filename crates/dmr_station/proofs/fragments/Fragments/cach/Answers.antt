use Rattle.std.proofs.Common.{[], ◌%◌, slice_index_or, subst, sym, arith}
use Rattle.dmr_station.specs.Sent.{IsCachOf}
use Rattle.dmr_station.proofs.fragments.Fragments.cach.Goals as goal

pub returns-then-busy : goal.returns-then-busy
returns-then-busy c = record {
  octets = c.self.invariant.3 (c.args.place % 4) [] (omega (arith, c.self.told.1));
  cach = subst (λ m. IsCachOf c.args.busy m c.args.place (slice_index_or c.self.inside.busy (c.args.place % 4) [])) c.self.view_is
      (subst (λ busy. IsCachOf busy c.self.inside.message c.args.place (slice_index_or c.self.inside.busy (c.args.place % 4) []))
      (sym c.if-busy.true) (c.self.invariant.1 c.args.place));
}

pub returns-else-busy : goal.returns-else-busy
returns-else-busy c = record {
  octets = c.self.invariant.2 (c.args.place % 4) [] (omega (arith, c.self.told.0));
  cach = subst (λ m. IsCachOf c.args.busy m c.args.place (slice_index_or c.self.inside.free (c.args.place % 4) [])) c.self.view_is
      (subst (λ busy. IsCachOf busy c.self.inside.message c.args.place (slice_index_or c.self.inside.free (c.args.place % 4) []))
      (sym c.if-busy.false) (c.self.invariant.0 c.args.place));
}
