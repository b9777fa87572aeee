-- What stands behind the tags of the rest stands behind all of them.
use Rattle.std.proofs.Common.{◌≡◌, length}
use Rattle.dmr_capture.specs.Links.{behind_tags}
use Rattle.dmr_capture.proofs.link.behind_tags.Given as goal

abbrev pub invariant-loop-rest : goal.invariant-loop-rest
invariant-loop-rest l = record { behind : behind_tags l.rest ≡ behind_tags l.octets }

abbrev pub decreases-loop-rest : goal.decreases-loop-rest
decreases-loop-rest l = length l.rest
