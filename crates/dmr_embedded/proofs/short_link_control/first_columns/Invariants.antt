use Rattle.std.proofs.Common.{◌≡◌, ℕ, ◌+◌, ◌*◌, ◌^◌, ◌<◌, [], false, get_or}
use Rattle.dmr_bits.specs.Bits.{bits_of}
use Rattle.dmr_embedded.proofs.short_link_control.first_columns.Given as goal

abbrev pub invariant-loop-column : goal.invariant-loop-column
invariant-loop-column l = record {
  fits : l.number < 2 ^ (4 * l.column);
  cells : (r c : ℕ) → r < 4 → c < l.column
      → get_or (bits_of (4 * l.column) l.number) (4 * c + r) false ≡ get_or (get_or l.rows r []) c false;
}
