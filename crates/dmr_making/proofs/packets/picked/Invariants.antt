use Rattle.std.proofs.Common.{◌≡◌, length, take}
use Rattle.dmr_making.specs.Packets.{ArePicked}
use Rattle.dmr_making.proofs.packets.picked.Given as goal

-- the blocks of the numbers so far
abbrev pub invariant-loop-serial : goal.invariant-loop-serial
invariant-loop-serial l = record {
  picked : ArePicked l.blocks (take l.serial-index l.serials) l.some;
  count : length l.some ≡ l.serial-index;
}
