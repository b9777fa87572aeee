-- Whatever is heard of the octets that are left is heard of all of them.
use Rattle.std.proofs.Common.{drop}
use Rattle.dmr_watch.specs.Ears.{Listens}
use Rattle.dmr_watch.specs.declared.ear.Ear.{Ear}
use Rattle.dmr_watch.proofs.ear.Ear.hear.Given as goal

abbrev pub invariant-loop-octet : goal.invariant-loop-octet
invariant-loop-octet l =
    (after : Ear) → Listens l.self (drop l.octet-index l.octets) after → Listens l.fn.self l.octets after
