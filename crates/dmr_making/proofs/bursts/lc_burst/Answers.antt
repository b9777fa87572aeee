use Rattle.std.proofs.Common.{ℕ, subst}
use Rattle.dmr_burst.specs.declared.burst.Burst.TheVariants as burst
use Rattle.dmr_making.proofs.SameBursts.{of_lc}
use Rattle.dmr_making.specs.Made.{IsMobileBurst}
use Rattle.dmr_making.proofs.bursts.lc_burst.Goals as goal

pub returns : goal.returns
returns c = record {
  burst = λ information p.
      subst (λ (k : ℕ). IsMobileBurst (burst.Data c.args.colour k information) c.word_burst.result) c.kind_of_use.ensures.value
      (c.word_burst.ensures.burst information
      (of_lc c.args.lc_use c.args.lc.now c.lc_info.result information c.lc_info.ensures.lc p));
}
