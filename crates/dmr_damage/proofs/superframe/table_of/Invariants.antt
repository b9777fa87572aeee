use Rattle.std.proofs.Common.{◌≡◌, ◌*◌, length, take}
use Rattle.dmr_embedded.specs.EmbeddedWord.{bits_of_fields}
use Rattle.dmr_damage.proofs.superframe.table_of.Given as goal

abbrev pub invariant-loop-field : goal.invariant-loop-field
invariant-loop-field l = record {
  written : l.writer ≡ bits_of_fields (take l.field-index l.fields);
  long : length l.writer ≡ 32 * l.field-index;
}
