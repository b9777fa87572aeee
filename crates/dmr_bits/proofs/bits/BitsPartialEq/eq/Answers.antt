use Rattle.std.proofs.Common.{◌≡◌, ℕ, List, ap, ◌∙◌, sym}
use Rattle.std.proofs.Common.{nat_eq}
use lib.Pointwise.{pointwise}
use Rattle.dmr_bits.specs.Words.{packed}
use Rattle.dmr_bits.specs.Packing.{packed_back}
use Rattle.dmr_bits.proofs.bits.BitsPartialEq.eq.Goals as goal

pub returns : goal.returns
returns g c =
    let first : packed g.row.N c.args.self.now ≡ c.t1-1.inside.words = ap (packed g.row.N) (sym c.t1-1.view_is)
    ∙ packed_back g.row.N c.t1-1.inside.words c.t1-1.invariant in
    let second : packed g.row.N c.args.other.now ≡ c.t2-1.inside.words = ap (packed g.row.N) (sym c.t2-1.view_is)
    ∙ packed_back g.row.N c.t2-1.inside.words c.t2-1.invariant in
    c.eq.ensures ∙ ap (λ (l : List ℕ). pointwise nat_eq l c.t2-1.inside.words) (sym first)
    ∙ ap (λ (l : List ℕ). pointwise nat_eq (packed g.row.N c.args.self.now) l) (sym second)
