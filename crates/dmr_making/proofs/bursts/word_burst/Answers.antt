use Rattle.dmr_bptc.proofs.Written.{one_written}
use Rattle.dmr_making.proofs.SameBursts.{same_data}
use Rattle.dmr_making.proofs.bursts.word_burst.Goals as goal

pub returns : goal.returns
returns c = record {
  burst = λ information w.
      same_data c.args.colour c.args.kind c.data_burst.result c.bptc_encode.result information
      (one_written c.args.message.now c.bptc_encode.result information c.bptc_encode.ensures.written w) c.data_burst.ensures.burst;
}
