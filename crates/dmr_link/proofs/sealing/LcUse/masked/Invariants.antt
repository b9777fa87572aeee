use Rattle.std.proofs.Common.{◌≡◌, ℕ, ◌≤◌, ◌<◌, length, get_or}
use Rattle.dmr_link.specs.Sealed.{masked}
use Rattle.dmr_link.proofs.sealing.LcUse.masked.Given as goal

abbrev pub invariant-loop-place : goal.invariant-loop-place
invariant-loop-place l = record {
  long : length l.masked ≡ 12;
  before : (k : ℕ) → k < l.place → get_or l.masked k 0 ≡ get_or (masked l.self l.octets) k 0;
  behind : (k : ℕ) → l.place ≤ k → get_or l.masked k 0 ≡ get_or l.octets k 0;
}
