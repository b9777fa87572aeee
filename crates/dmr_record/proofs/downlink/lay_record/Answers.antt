use Rattle.std.proofs.Common.{rules}
use Rattle.dmr_record.proofs.Pieces.{laid_behind}
use Rattle.dmr_record.proofs.downlink.lay_record.Goals as goal

pub returns : goal.returns
returns c = record {
  octets = rw (c.copy_from_slice.ensures.after, c.copy_from_slice-2.ensures.after) (laid_behind c.args.place.now c.args.sent.now.0
      c.args.sent.now.1 1 c.requires.room (search rules));
}
