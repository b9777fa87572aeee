use Rattle.dmr_making.proofs.SameBursts.{of_header}
use Rattle.dmr_making.proofs.bursts.header_burst.Goals as goal

pub returns : goal.returns
returns c = record {
  burst = λ information p. c.word_burst.ensures.burst information
      (of_header c.args.header.now c.header_info.result information c.header_info.ensures.form p);
}
