-- The octets that differ in the places so far were counted.
use Rattle.std.proofs.Common.{◌≡◌, ◌≤◌, ◌==◌, not, length, take}
use Rattle.std.specs.List.{count_by, zip}
use Rattle.dmr_compare.proofs.list_record.differing_octets.Given as goal

abbrev pub invariant-loop-one : goal.invariant-loop-one
invariant-loop-one l = record {
  counted : l.count ≡ count_by (λ octets. not (octets.0 == octets.1)) (take (length l.yielded) (zip l.first l.second));
  few : l.count ≤ length l.yielded;
}
