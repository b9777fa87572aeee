-- The lines of sent places, and the columns of cells, as they grow.
use Rattle.std.proofs.Common.{◌≡◌, ℕ, ◌+◌, ◌-◌, ◌*◌, ◌/◌, ◌%◌, ◌^◌, ◌<◌, ◌≤◌, Bool, false, cond, List, get_or, refl, sym, ap, ◌∙◌}
use Rattle.std.proofs.Common.{arith}
use Rattle.dmr_bits.specs.Bits.{bits_of}
use Rattle.dmr_bptc.specs.Spread.{four}
use Rattle.dmr_bptc.specs.ProductWord.{cell}
use Rattle.dmr_bptc.proofs.Numbered.{joined_more}
use Rattle.dmr_bptc.proofs.Spelled.{spelled, spelled_more, spelled_at, spelled_below, four_at}

-- the first places of the line that takes cell i of each column
abbrev pub line : List Bool → ℕ → ℕ → ℕ
line cells i m = spelled (λ b. get_or cells (13 * b + i) false) m

-- four lines, the highest cell first
abbrev pub lines : List Bool → ℕ → ℕ → ℕ
lines cells i m = four 15 (line cells (i + 3) m) (line cells (i + 2) m) (line cells (i + 1) m) (line cells i m)

-- the first cells of a column, from the last line up
abbrev pub column : List Bool → ℕ → ℕ → ℕ
column bits b m = spelled (λ i. get_or bits (181 - 15 * i + b) false) m

-- four columns
abbrev pub columns : List Bool → ℕ → ℕ → ℕ
columns bits b m = four 13 (column bits b m) (column bits (b + 1) m) (column bits (b + 2) m) (column bits (b + 3) m)

-- four columns are doubled and the next bit of each is added, which gives the columns with one cell more
pub columns_more : (bits : List Bool) (b m n p q r s : ℕ) → n ≡ columns bits b m
    → p ≡ cond (get_or bits (181 - 15 * m + b) false) 1 0 → q ≡ cond (get_or bits (181 - 15 * m + (b + 1)) false) 1 0
    → r ≡ cond (get_or bits (181 - 15 * m + (b + 2)) false) 1 0 → s ≡ cond (get_or bits (181 - 15 * m + (b + 3)) false) 1 0
    → 2 * n + four 13 p q r s ≡ columns bits b (m + 1)
columns_more bits b m n p q r s is first second third fourth =
    let f : ℕ → ℕ → Bool = λ j i. get_or bits (181 - 15 * i + j) false in
    omega (arith, spelled_more (f b) m, spelled_more (f (b + 1)) m, spelled_more (f (b + 2)) m, spelled_more (f (b + 3)) m)

pub columns_fit : (bits : List Bool) (b m : ℕ) → m ≤ 13 → columns bits b m < 2 ^ 52
columns_fit bits b m h =
    let f : ℕ → ℕ → Bool = λ j i. get_or bits (181 - 15 * i + j) false in
    omega (
      arith,
      spelled_below (f b) m 13 h,
      spelled_below (f (b + 1)) m 13 h,
      spelled_below (f (b + 2)) m 13 h,
      spelled_below (f (b + 3)) m 13 h,
    )

-- the first three columns
abbrev pub three : List Bool → ℕ → ℕ
three bits m = (column bits 0 m * 2 ^ 13 + column bits 1 m) * 2 ^ 13 + column bits 2 m

pub three_more : (bits : List Bool) (m n p q r : ℕ) → n ≡ three bits m → p ≡ cond (get_or bits (181 - 15 * m + 0) false) 1 0
    → q ≡ cond (get_or bits (181 - 15 * m + 1) false) 1 0 → r ≡ cond (get_or bits (181 - 15 * m + 2) false) 1 0
    → 2 * n + four 13 0 p q r ≡ three bits (m + 1)
three_more bits m n p q r is first second third =
    let f : ℕ → ℕ → Bool = λ j i. get_or bits (181 - 15 * i + j) false in
    omega (arith, spelled_more (f 0) m, spelled_more (f 1) m, spelled_more (f 2) m)

pub three_fit : (bits : List Bool) (m : ℕ) → m ≤ 13 → three bits m < 2 ^ 39
three_fit bits m h =
    let f : ℕ → ℕ → Bool = λ j i. get_or bits (181 - 15 * i + j) false in
    omega (arith, spelled_below (f 0) m 13 h, spelled_below (f 1) m 13 h, spelled_below (f 2) m 13 h)

-- the cells of a column, by their number row by row
pub column_at : (bits : List Bool) (b m i : ℕ) → b < 15 → m ≡ 13 → i < 13
    → get_or (bits_of 13 (column bits b m)) i false ≡ cell bits ((13 * b + i) / 15) ((13 * b + i) % 15)
column_at bits b m i low end h =
    let k : ℕ = 13 * b + i in
    let whole : 1 + 15 * (k / 15) + k % 15 ≡ 1 + k = omega arith in
    let at : 181 - 15 * i + b ≡ 181 * (1 + (13 * b + i)) % 196 = omega arith in
    spelled_at (λ i. get_or bits (181 - 15 * i + b) false) m 13 i end h
    ∙ ap (λ p. get_or bits p false) (at ∙ ap (λ n. 181 * n % 196) (sym whole))

-- four whole columns have the bits of 52 cells whose numbers, row by row, follow each other
pub columns_at : (bits : List Bool) (b m : ℕ) → b + 3 < 15 → m ≡ 13 → (k : ℕ) → k < 52
    → get_or (bits_of 52 (columns bits b m)) k false ≡ cell bits ((13 * b + k) / 15) ((13 * b + k) % 15)
columns_at bits b m low end =
    let F : ℕ → Bool = λ k. cell bits (k / 15) (k % 15) in
    let f : ℕ → ℕ → Bool = λ j i. get_or bits (181 - 15 * i + j) false in
    let few : m ≤ 13 = omega arith in
    four_at (λ k. F (13 * b + k)) 13 (column bits b m) (column bits (b + 1) m) (column bits (b + 2) m) (column bits (b + 3) m)
    (spelled_below (f (b + 1)) m 13 few) (spelled_below (f (b + 2)) m 13 few) (spelled_below (f (b + 3)) m 13 few)
    (λ i h. column_at bits b m i (omega arith) end h)
    (λ i h. let p : 13 * (b + 1) + i ≡ 13 * b + (13 + i) = omega arith in
    column_at bits (b + 1) m i (omega arith) end h ∙ ap F p)
    (λ i h. let p : 13 * (b + 2) + i ≡ 13 * b + (26 + i) = omega arith in
    column_at bits (b + 2) m i (omega arith) end h ∙ ap F p)
    (λ i h. let p : 13 * (b + 3) + i ≡ 13 * b + (39 + i) = omega arith in
    column_at bits (b + 3) m i (omega arith) end h ∙ ap F p)

-- the first three columns have the bits of the first 39 cells, row by row
pub three_at : (bits : List Bool) (m : ℕ) → m ≡ 13 → (k : ℕ) → k < 39
    → get_or (bits_of 39 (three bits m)) k false ≡ cell bits (k / 15) (k % 15)
three_at bits m end =
    let F : ℕ → Bool = λ k. cell bits (k / 15) (k % 15) in
    let f : ℕ → ℕ → Bool = λ j i. get_or bits (181 - 15 * i + j) false in
    let few : m ≤ 13 = omega arith in
    joined_more F 26 13 (column bits 0 m * 2 ^ 13 + column bits 1 m) (column bits 2 m) (spelled_below (f 2) m 13 few)
    (joined_more F 13 13 (column bits 0 m) (column bits 1 m) (spelled_below (f 1) m 13 few)
    (λ i h. let p : 13 * 0 + i ≡ i = omega arith in column_at bits 0 m i (omega arith) end h ∙ ap F p)
    (λ i h. column_at bits 1 m i (omega arith) end h))
    (λ i h. column_at bits 2 m i (omega arith) end h)

-- the columns of so many lines, from the last line up
pub record AreColumns (bits : List Bool) (m a b c d : ℕ) : Type 0 where
  pub first : a ≡ three bits m
  pub second : b ≡ columns bits 3 m
  pub third : c ≡ columns bits 7 m
  pub fourth : d ≡ columns bits 11 m
  pub first_fits : a < 2 ^ 39
  pub second_fits : b < 2 ^ 52
  pub third_fits : c < 2 ^ 52
  pub fourth_fits : d < 2 ^ 52

-- the columns of no lines are zero
pub no_columns : (bits : List Bool) → AreColumns bits 0 0 0 0 0
no_columns bits = record {
  first = refl;
  second = refl;
  third = refl;
  fourth = refl;
  first_fits = omega arith;
  second_fits = omega arith;
  third_fits = omega arith;
  fourth_fits = omega arith;
}

-- one line more
pub line_more : (bits : List Bool) (m next line a b c d a' b' c' d' : ℕ) → next ≡ m + 1 → next ≤ 13 → line < 2 ^ 15
    → ((i : ℕ) → i < 15 → line / 2 ^ (14 - i) % 2 ≡ cond (get_or bits (181 - 15 * m + i) false) 1 0) → AreColumns bits m a b c d
    → a' ≡ 2 * a + four 13 0 (line / 16384) (line / 8192 % 2) (line / 4096 % 2)
    → b' ≡ 2 * b + four 13 (line / 2048 % 2) (line / 1024 % 2) (line / 512 % 2) (line / 256 % 2)
    → c' ≡ 2 * c + four 13 (line / 128 % 2) (line / 64 % 2) (line / 32 % 2) (line / 16 % 2)
    → d' ≡ 2 * d + four 13 (line / 8 % 2) (line / 4 % 2) (line / 2 % 2) (line % 2) → AreColumns bits next a' b' c' d'
line_more bits m next line a b c d a' b' c' d' step few small bit are p q r s =
    let first : a' ≡ three bits next = p ∙ three_more bits m a (line / 16384) (line / 8192 % 2) (line / 4096 % 2) are.first
    (omega (arith, small, bit 0 (omega arith))) (bit 1 (omega arith)) (bit 2 (omega arith)) ∙ ap (three bits) (sym step) in
    let second : b' ≡ columns bits 3 next =
    q ∙ columns_more bits 3 m b (line / 2048 % 2) (line / 1024 % 2) (line / 512 % 2) (line / 256 % 2) are.second
    (bit 3 (omega arith)) (bit 4 (omega arith)) (bit 5 (omega arith)) (bit 6 (omega arith)) ∙ ap (columns bits 3) (sym step) in
    let third : c' ≡ columns bits 7 next =
    r ∙ columns_more bits 7 m c (line / 128 % 2) (line / 64 % 2) (line / 32 % 2) (line / 16 % 2) are.third
    (bit 7 (omega arith)) (bit 8 (omega arith)) (bit 9 (omega arith)) (bit 10 (omega arith)) ∙ ap (columns bits 7) (sym step) in
    let fourth : d' ≡ columns bits 11 next =
    s ∙ columns_more bits 11 m d (line / 8 % 2) (line / 4 % 2) (line / 2 % 2) (line % 2) are.fourth
    (bit 11 (omega arith)) (bit 12 (omega arith)) (bit 13 (omega arith)) (omega (arith, bit 14 (omega arith)))
    ∙ ap (columns bits 11) (sym step) in
    record {
      first = first;
      second = second;
      third = third;
      fourth = fourth;
      first_fits = omega (arith, first, three_fit bits next few);
      second_fits = omega (arith, second, columns_fit bits 3 next few);
      third_fits = omega (arith, third, columns_fit bits 7 next few);
      fourth_fits = omega (arith, fourth, columns_fit bits 11 next few);
    }
