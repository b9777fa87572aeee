use Rattle.std.proofs.Common.{◌≡◌, ◌+◌, ◌*◌, ◌++◌, length, take}
use Rattle.dmr_embedded.specs.EmbeddedWord.{bits_of_fields}
use Rattle.dmr_damage.proofs.superframe.fields_spelled.Given as goal

abbrev pub invariant-loop-i : goal.invariant-loop-i
invariant-loop-i l = record {
  count : length l.fields ≡ 4;
  left : length l.reader + 32 * l.i ≡ 128;
  read : l.bits ≡ bits_of_fields (take l.i l.fields) ++ l.reader;
}
