use Rattle.dmr_making.proofs.SameBursts.{of_csbk}
use Rattle.dmr_making.proofs.bursts.csbk_burst.Goals as goal

pub returns : goal.returns
returns c = record {
  burst = λ information p. c.word_burst.ensures.burst information
      (of_csbk c.args.csbk.now c.csbk_info.result information c.csbk_info.ensures.block p);
}
