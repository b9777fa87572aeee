-- The places so far.
use Rattle.std.proofs.Common.{◌≡◌, ◌+◌, ◌++◌, length}
use Rattle.dmr_script.specs.Shapes.{place_past, place_letters}
use Rattle.dmr_script.proofs.call_shapes.places_of.Given as goal

abbrev pub invariant-loop-letter : goal.invariant-loop-letter
invariant-loop-letter l = record {
  letters : place_letters l.fn.first l.places.items ++ l.rest ≡ l.letters;
  wanted : l.wanted ≡ place_past l.fn.first l.places.items;
  count : length l.places.items + length l.rest ≡ length l.letters;
}

abbrev pub decreases-loop-letter : goal.decreases-loop-letter
decreases-loop-letter l = length l.rest
