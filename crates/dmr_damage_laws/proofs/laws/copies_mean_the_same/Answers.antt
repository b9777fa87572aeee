use Rattle.dmr_damage_laws.proofs.Copies.{copies_mean_the_same}
use Rattle.dmr_damage_laws.proofs.laws.copies_mean_the_same.Goals as goal

pub returns : goal.returns
returns c = record { law = copies_mean_the_same }
