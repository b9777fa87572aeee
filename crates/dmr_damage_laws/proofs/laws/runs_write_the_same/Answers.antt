use Rattle.dmr_damage_laws.proofs.Copies.{runs_write_the_same}
use Rattle.dmr_damage_laws.proofs.laws.runs_write_the_same.Goals as goal

pub returns : goal.returns
returns c = record { law = runs_write_the_same c.one_result.ensures.meant }
