use Rattle.std.proofs.Common.{rules}
use Rattle.dmr_script.proofs.transmissions.call_with.Goals as goal

pub returns : goal.returns
returns c = record {
  fits = record {
    link_control = c.requires.link_control;
    key = record { count = search rules; small = c.requires.key };
    carried = c.requires.carried;
    shape = c.requires.shape;
  };
}
