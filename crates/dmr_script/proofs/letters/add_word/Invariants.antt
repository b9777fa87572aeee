-- The group so many times.
use Rattle.std.proofs.Common.{◌≡◌, ◌≤◌, ◌++◌, length}
use Rattle.dmr_script.specs.Letters.{letters_text, times_over}
use Rattle.dmr_script.proofs.letters.add_word.Given as goal

abbrev pub invariant-loop-past : goal.invariant-loop-past
invariant-loop-past l = record {
  text : letters_text l.letters.items ≡ letters_text l.fn.letters.items ++ times_over l._past l.group.letters.now;
  room : length l.letters.items ≤ 1048576;
}
