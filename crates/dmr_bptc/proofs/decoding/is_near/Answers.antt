use Rattle.std.proofs.Common.{◌∙◌}
use Rattle.dmr_bptc.proofs.Restoring.{decoded_as_near}
use Rattle.dmr_bptc.proofs.decoding.is_near.Goals as goal

pub returns : goal.returns
returns c = record {
  decoded = λ is message written. decoded_as_near message c.with_reserved_cells.result c.args.bits.now
      (c.with_reserved_cells.ensures.word written.word) (c.with_reserved_cells.ensures.information ∙ written.holds)
      (c.differs_once_a_column.ensures.near is);
}
