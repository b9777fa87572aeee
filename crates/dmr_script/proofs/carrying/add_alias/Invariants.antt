use Rattle.std.proofs.Common.{◌≡◌, ◌+◌, ◌*◌, ◌-◌, ◌/◌, ◌≤◌, All, length}
use Rattle.dmr_script.specs.Fits.{FitsCarried}
use Rattle.dmr_script.proofs.carrying.add_alias.Given as goal

-- what is left of the letters takes a block for each seven
abbrev pub invariant-loop-block : goal.invariant-loop-block
invariant-loop-block l = record {
  fit : All FitsCarried l.carried.items;
  few : length l.rest ≤ 7 * (4 - l.block);
  parts : length l.carried.items + (length l.rest + 6) / 7
      ≡ length l.initial.carried.items + (length l.initial.rest + 6) / 7;
}
