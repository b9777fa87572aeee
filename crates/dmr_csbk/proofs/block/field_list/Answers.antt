use Rattle.std.proofs.Common.{rules}
use Rattle.dmr_csbk.proofs.block.field_list.Goals as goal

pub returns-clause-fit : goal.returns-clause-fit
returns-clause-fit c = record {
  code = c.requires.fits;
  fid = search rules;
  octets = c.write_fields-push_octets.ensures.octets;
  count = search rules;
}
