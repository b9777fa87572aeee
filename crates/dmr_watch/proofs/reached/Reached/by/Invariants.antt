-- Where the octets that are left lead to is the same each time round.
use Rattle.std.proofs.Common.{◌≡◌, drop}
use Rattle.dmr_watch.specs.Reached.{reached_by}
use Rattle.dmr_watch.proofs.reached.Reached.by.Given as goal

abbrev pub invariant-loop-octet : goal.invariant-loop-octet
invariant-loop-octet l =
    reached_by l.format l.reached (drop l.octet-index l.octets) ≡ reached_by l.format l.fn.self l.octets
