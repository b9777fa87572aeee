-- With each transmission fewer follow.
use Rattle.std.proofs.Common.{length}
use Rattle.dmr_log_page.proofs.picture.SlotRow.write_labels.Given as goal

abbrev pub decreases-loop-transmission : goal.decreases-loop-transmission
decreases-loop-transmission g l = length l.others
