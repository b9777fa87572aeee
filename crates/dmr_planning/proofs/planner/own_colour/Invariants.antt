-- The own colour code of the statements so far.
use Rattle.std.proofs.Common.{◌≡◌, ◌<◌, take}
use Rattle.dmr_planning.specs.Planning.{own_colour}
use Rattle.dmr_planning.proofs.planner.own_colour.Given as goal

abbrev pub invariant-loop-numbered : goal.invariant-loop-numbered
invariant-loop-numbered l = record {
  value : l.own ≡ own_colour (take l.numbered-index l.statements);
  fit : l.own < 16;
}
