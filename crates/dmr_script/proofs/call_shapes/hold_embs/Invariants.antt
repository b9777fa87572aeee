-- Behind those so far EMBs stand.
use Rattle.std.proofs.Common.{◌≡◌, length}
use Rattle.dmr_script.specs.Foreign.{has_embs}
use Rattle.dmr_script.specs.declared.shape.Place.TheVariants.{A}
use Rattle.dmr_script.proofs.call_shapes.hold_embs.Given as goal

abbrev pub invariant-loop-is_there : goal.invariant-loop-is_there
invariant-loop-is_there l = has_embs l.place l.rest ≡ has_embs A l.places

abbrev pub decreases-loop-is_there : goal.decreases-loop-is_there
decreases-loop-is_there l = length l.rest
