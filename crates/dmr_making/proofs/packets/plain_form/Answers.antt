use Rattle.std.proofs.Common.{rules, arith, subst, List, ℕ, get_or, ◌<◌}
use Rattle.dmr_making.proofs.packets.plain_form.Goals as goal

pub returns-clause-fits : goal.returns-clause-fits
returns-clause-fits c = record {
  identification = search rules;
  source_port = search rules;
  destination_port = search rules;
  payload = λ k.
      let fits = c.type_inv.payload k in
      let octet : get_or c.args.payload.now k 0 < 256 = omega (arith, fits) in
      subst (λ (l : List ℕ). get_or l k 0 < 256) c.requires.payload octet;
  room = c.requires.room;
}
