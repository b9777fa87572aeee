use Rattle.dmr_damage_laws.proofs.Slots.{damaged_slots_mean_the_same}
use Rattle.dmr_damage_laws.proofs.laws.damaged_slots_mean_the_same.Goals as goal

pub returns : goal.returns
returns c = record { law = damaged_slots_mean_the_same }
