use Rattle.std.proofs.Common.{◌≡◌, ◌-◌, ◌≤◌}
use Rattle.dmr_making.specs.Packets.{flags_from}
use Rattle.dmr_making.proofs.packets.flags_of.Given as goal

-- the flags of the blocks from this one on
abbrev pub invariant-loop-serial : goal.invariant-loop-serial
invariant-loop-serial l = record {
  within : l.serial ≤ l.blocks;
  value : l.flags ≡ flags_from l.serials l.serial (l.blocks - l.serial);
}

abbrev pub decreases-loop-serial : goal.decreases-loop-serial
decreases-loop-serial l = l.serial
