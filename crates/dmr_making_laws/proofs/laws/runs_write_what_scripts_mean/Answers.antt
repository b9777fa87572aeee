use Rattle.dmr_making_laws.proofs.Scripts.{runs_write_what_scripts_mean}
use Rattle.dmr_making_laws.proofs.laws.runs_write_what_scripts_mean.Goals as goal

pub returns : goal.returns
returns c = record { law = runs_write_what_scripts_mean }
