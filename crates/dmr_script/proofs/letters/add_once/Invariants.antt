-- The letters of the octets so far.
use Rattle.std.proofs.Common.{◌≡◌, ◌+◌, ◌++◌, length, take}
use Rattle.dmr_script.specs.Letters.{letters_text}
use Rattle.dmr_script.proofs.letters.add_once.Given as goal

abbrev pub invariant-loop-octet : goal.invariant-loop-octet
invariant-loop-octet l = record {
  text : letters_text l.letters.items ≡ letters_text l.fn.letters.items ++ take l.octet-index l.group;
  count : length l.letters.items ≡ length l.fn.letters.items + l.octet-index;
}
