-- The bits so far are copied.
use Rattle.std.proofs.Common.{◌≡◌, ◌+◌, ◌-◌, ◌^◌, ◌<◌, ◌≤◌, ◌++◌, take, drop, length}
use Rattle.std.specs.List.{All}
use Rattle.dmr_bits.specs.Words.{bits_of_words}
use Rattle.dmr_bits.proofs.words.copy.Given as goal

abbrev pub invariant-loop-done : goal.invariant-loop-done
invariant-loop-done l = record {
  few : l.done ≤ l.width;
  long : length l.words ≡ 5;
  small : All (λ word. word < 2 ^ 64) l.words;
  copied : bits_of_words l.words ≡ take l.at (bits_of_words l.fn.words)
      ++ (take l.done (drop l.from (bits_of_words l.other)) ++ drop (l.at + l.done) (bits_of_words l.fn.words));
}

abbrev pub decreases-loop-done : goal.decreases-loop-done
decreases-loop-done l = l.width - l.done
