use Rattle.dmr_watch.proofs.Slots.{told_behind, told_inside}
use Rattle.dmr_watch.proofs.laws.faults_are_told_at_their_slots.Goals as goal

pub returns : goal.returns
returns c = record {
  behind = told_behind;
  inside = told_inside;
}
