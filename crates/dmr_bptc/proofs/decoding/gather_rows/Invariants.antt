use Rattle.std.proofs.Common.{◌≡◌, ℕ, ◌+◌, ◌-◌, ◌*◌, ◌/◌, ◌%◌, ◌^◌, ◌<◌, get_or, false}
use Rattle.dmr_bits.specs.Bits.{bits_of}
use Rattle.dmr_bptc.specs.ProductWord.{cell}
use Rattle.dmr_bptc.proofs.decoding.gather_rows.Given as goal

abbrev pub invariant-loop-row : goal.invariant-loop-row
invariant-loop-row l = record {
  fits : l.number < 2 ^ (11 * (l.row - l.from));
  cells : (k : ℕ) → k < 11 * (l.row - l.from)
      → get_or (bits_of (11 * (l.row - l.from)) l.number) k false ≡ cell l.bits (l.from + k / 11) (k % 11);
}
