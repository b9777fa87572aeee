use Rattle.std.proofs.Common.{◌≡◌, ◌%◌, length, All}
use Rattle.dmr_arq.proofs.cells.set_places.Given as goal

abbrev pub invariant-loop : goal.invariant-loop
invariant-loop l = record {
  count : length l.cells.items ≡ l.counter;
  pairs : All (λ octets. length octets % 2 ≡ 0) l.cells.items;
}
