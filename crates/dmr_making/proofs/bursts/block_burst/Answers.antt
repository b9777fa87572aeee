use Rattle.std.proofs.Common.{ℕ, subst}
use Rattle.dmr_burst.specs.declared.burst.Burst.TheVariants as burst
use Rattle.dmr_data.proofs.BlockForms.{one_block_form}
use Rattle.dmr_making.proofs.SameBursts.{same_data}
use Rattle.dmr_making.specs.Made.{IsMobileBurst}
use Rattle.dmr_making.proofs.bursts.block_burst.Goals as goal

pub returns : goal.returns
returns c = record {
  burst = λ information w.
      subst (λ (k : ℕ). IsMobileBurst (burst.Data c.args.colour k information) c.data_burst.result) c.kind_at_rate.ensures.value
      (same_data c.args.colour c.kind_at_rate.result c.data_burst.result c.block_info.result information
      (one_block_form c.args.rate c.args.block.now c.block_info.result information c.block_info.ensures.block w)
      c.data_burst.ensures.burst);
}
