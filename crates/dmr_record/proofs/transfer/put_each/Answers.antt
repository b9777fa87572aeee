use Rattle.std.proofs.Common.{rules}
use Rattle.dmr_record.proofs.Pieces.{Appends-onwards}
use Rattle.dmr_record.proofs.transfer.put_each.Goals as goal

pub loop-done-preserved : goal.loop-done-preserved
loop-done-preserved g c = record {
  within = search rules;
  well = search rules;
  octets = Appends-onwards _ _ _ _ _ _ c.loop-done.invariant.octets c.in-Ok.ensures.octets;
}
