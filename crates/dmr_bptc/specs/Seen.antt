-- The columns in which bits are set, line by line.
use Rattle.std.specs.Prelude.{◌≡◌, ℕ, ◌+◌, ◌-◌, ◌*◌, ◌%◌, ◌<◌, Bool, true, false, List, slice_index_or}
use Rattle.dmr_bits.specs.Bits.{bits_of}

-- Behind the first place stand lines of fifteen places, one of each column. Where lines are turned by eight places more
-- each time, a column has one place in all of them: this is the place among all bits, by the line and that place.
abbrev pub line_place : ℕ → ℕ → ℕ
line_place line i = 1 + 15 * line + (i + 15 - 8 * line % 15) % 15

-- The columns that have a set bit in the first so many lines are in one number, and those that have two are in another. Nothing is
-- said of the other columns.
pub record AreSeen (bits : List Bool) (lines once twice : ℕ) : Type 0 where
  pub seen : (i k : ℕ) → i < 15 → k < lines → slice_index_or bits (line_place k i) false ≡ true
      → slice_index_or (bits_of 15 once) i false ≡ true
  pub again : (i k m : ℕ) → i < 15 → k < m → m < lines → slice_index_or bits (line_place k i) false ≡ true
      → slice_index_or bits (line_place m i) false ≡ true → slice_index_or (bits_of 15 twice) i false ≡ true
