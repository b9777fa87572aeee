-- Blanks alone so far.
use Rattle.std.proofs.Common.{◌≡◌, ◌-◌, ◌<◌, ◌≤◌, ℕ, length, true}
use Rattle.std.specs.List.{slice_index}
use Rattle.dmr_words.specs.Words.{is_blank}
use Rattle.dmr_words.proofs.words.blanks_in_front.Given as goal

abbrev pub invariant-loop-count : goal.invariant-loop-count
invariant-loop-count l = record {
  within : l.count ≤ length l.octets;
  blanks : (k : ℕ) → k < l.count → is_blank (slice_index l.octets k) ≡ true;
}

abbrev pub decreases-loop-count : goal.decreases-loop-count
decreases-loop-count l = length l.octets - l.count
