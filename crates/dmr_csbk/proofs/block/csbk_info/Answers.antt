use Rattle.std.proofs.Common.{rules}
use Rattle.dmr_csbk.proofs.Blocks.{sealed_block}
use Rattle.dmr_csbk.proofs.block.csbk_info.Goals as goal

pub returns : goal.returns
returns c = record {
  block = sealed_block c.args.csbk.now c.finish.result c.octets-fields.result c.seal.result c.field_list.result
      c.field_list.ensures.fit c.field_list.ensures.value c.octets-fields.ensures.spelled c.seal.ensures.octets
      c.seal.ensures.sealed
      (search rules) (search rules) c.push_octets.ensures.octets;
}
