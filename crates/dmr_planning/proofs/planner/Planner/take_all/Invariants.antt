-- The statements so far are planned.
use Rattle.dmr_planning.specs.Planning.{ArePlanned, AreSlotsWithin, planned_by}
use Rattle.dmr_planning.proofs.planner.Planner.take_all.Given as goal

abbrev pub invariant-loop-at : goal.invariant-loop-at
invariant-loop-at l = record {
  within : AreSlotsWithin (planned_by l.self);
  planned : ArePlanned l.statements l.own l.is_outgoing_taken l.at (planned_by l.self);
}
