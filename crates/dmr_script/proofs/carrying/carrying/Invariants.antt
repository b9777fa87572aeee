use Rattle.std.proofs.Common.{All, length}
use Rattle.dmr_script.specs.Fits.{FitsCarried}
use Rattle.dmr_script.proofs.carrying.carrying.Given as goal

abbrev pub invariant-loop-carried : goal.invariant-loop-carried
invariant-loop-carried l = All FitsCarried l.carried.items

abbrev pub decreases-loop-carried : goal.decreases-loop-carried
decreases-loop-carried l = length l.cursor.rest.now
