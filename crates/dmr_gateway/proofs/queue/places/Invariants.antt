use Rattle.std.proofs.Common.{◌≡◌, length}
use Rattle.dmr_gateway.proofs.queue.places.Given as goal

-- So many are there.
abbrev pub invariant-loop : goal.invariant-loop
invariant-loop l = record {
  count : length l.free.items ≡ l.counter;
  room : l.free.capacity ≡ l.limit;
}
