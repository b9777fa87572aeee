-- There is what any bits are decoded to, and a written form of any information.
use Rattle.std.proofs.Common.{◌≡◌, ℕ, ◌+◌, ◌-◌, ◌*◌, ◌/◌, ◌%◌, ◌≤◌, ◌<◌, Bool, false, List, length, map, get_or, refl, sym}
use Rattle.std.proofs.Common.{◌∙◌, ap, subst, arith, inl, inr, Option, Some, None}
use Rattle.std.specs.List.{range_with_len}
use Rattle.std.proofs.lemmas.List.{get_or-take}
use Rattle.std.proofs.lemmas.List.FromFn.{length-map-range_with_len, get_or-map-range_with_len}
use Rattle.dmr_bits.specs.Bits.{weight}
use Rattle.dmr_codes.proofs.Completing.{word_somehow}
use Rattle.dmr_codes.proofs.Searching.{Decided, near_or_beyond, word_or_not, all_or_one}
use Rattle.dmr_codes.specs.Code.{IsWord}
use Rattle.dmr_codes.specs.LeastColumns.{least_three}
use Rattle.dmr_codes.specs.Seven.{IsHamming13, IsHamming15, hamming13_columns, hamming15_columns, hamming13_shaped}
use Rattle.dmr_codes.specs.Seven.{hamming15_shaped}
use Rattle.dmr_bptc.specs.Decoding.{IsCorrected, IsDecoded}
use Rattle.dmr_bptc.specs.ProductWord.{place, cell, row, column, IsProductWord, information, information_cell, IsWritten}
use Rattle.dmr_bptc.proofs.Cells.{length-row, length-column, row_from, column_from, unplace, place_below, information_from}
use Rattle.dmr_bptc.proofs.Filling.{all_rows, information_cell_at, reserved_cell}
use Rattle.dmr_bptc.proofs.Turning.{corrected_to}

-- ---- one row or column
-- What a row or a column may be corrected to.
record IsLine (columns : List ℕ) (old new : List Bool) : Type 0 where
  long : length new ≡ length columns
  corrected : IsCorrected (IsWord columns 4) old new

line_somehow : (columns : List ℕ) (old : List Bool) → ((w : List Bool) → IsWord columns 4 w → 0 < weight w → 3 ≤ weight w)
    → length old ≡ length columns → (new : List Bool) × IsLine columns old new
line_somehow columns old least long =
    elim (near_or_beyond columns 4 old) [
      | inl found ↦
          (let (new, near) = found in
          (new, record { long = near.is.long; corrected = corrected_to columns old new least long near.is near.near }))
      | inr beyond ↦ (
        old,
        record {
          long = long;
          corrected =
              record { word = λ w is near. (let far = beyond w is in absurd (omega arith)); same = λ none. refl };
        },
      )
    ]

-- ---- a table of given cells
-- The bit of a place, from the cells.
abbrev bit_at : (ℕ → ℕ → Bool) → ℕ → Bool
bit_at cells i = cells ((13 * i % 196 - 1) / 15) ((13 * i % 196 - 1) % 15)

-- The bits of a table with these cells.
abbrev table_of : (ℕ → ℕ → Bool) → List Bool
table_of cells = map (bit_at cells) (range_with_len 0 196)

cell_of_table : (cells : ℕ → ℕ → Bool) (r c : ℕ) → r < 13 → c < 15 → cell (table_of cells) r c ≡ cells r c
cell_of_table cells r c h l =
    let number : 13 * place r c % 196 ≡ 1 + 15 * r + c = unplace (1 + 15 * r + c) (omega arith) in
    let line : (1 + 15 * r + c - 1) / 15 ≡ r = omega arith in
    let across : (1 + 15 * r + c - 1) % 15 ≡ c = omega arith in
    get_or-map-range_with_len (bit_at cells) 0 196 (place r c) (place r c) false (place_below r c) (omega arith)
    ∙ ap (λ n. cells ((n - 1) / 15) ((n - 1) % 15)) number
    ∙ ap (λ n. cells n ((1 + 15 * r + c - 1) % 15)) line
    ∙ ap (cells r) across

-- ---- all columns, and then all rows
columns_somehow : (bits : List Bool)
    → (table : List Bool) × ((c : ℕ) → c < 15 → IsCorrected IsHamming13 (column bits c) (column table c))
columns_somehow bits =
    let found : (c : ℕ) → (new : List Bool) × IsLine hamming13_columns (column bits c) new =
    λ c. line_somehow hamming13_columns (column bits c) (least_three 13 9 hamming13_columns hamming13_shaped refl refl)
    (length-column bits c) in
    let cells : ℕ → ℕ → Bool = λ r c. get_or (found c).0 r false in (
      table_of cells,
      λ c h. subst (IsCorrected IsHamming13 (column bits c))
          (column_from (table_of cells) (found c).0 c (found c).1.long (λ r l. sym (cell_of_table cells r c l h)))
          (found c).1.corrected,
    )

rows_somehow : (bits : List Bool)
    → (table : List Bool) × ((r : ℕ) → r < 13 → IsCorrected IsHamming15 (row bits r) (row table r))
rows_somehow bits =
    let found : (r : ℕ) → (new : List Bool) × IsLine hamming15_columns (row bits r) new =
    λ r. line_somehow hamming15_columns (row bits r) (least_three 15 11 hamming15_columns hamming15_shaped refl refl)
    (length-row bits r) in
    let cells : ℕ → ℕ → Bool = λ r c. get_or (found r).0 c false in (
      table_of cells,
      λ r h. subst (IsCorrected IsHamming15 (row bits r))
          (row_from (table_of cells) (found r).0 r (found r).1.long (λ c l. sym (cell_of_table cells r c h l)))
          (found r).1.corrected,
    )

-- ---- what they hold
product_or_not : (bits : List Bool) → Decided (IsProductWord bits)
product_or_not bits =
    elim (all_or_one 13 (λ r. IsHamming15 (row bits r)) (λ r. IsHamming15 (row bits r) → ⊥)
    (λ r. word_or_not hamming15_columns 4 (row bits r))) [
      | inl rows ↦
          elim (all_or_one 15 (λ c. IsHamming13 (column bits c)) (λ c. IsHamming13 (column bits c) → ⊥)
          (λ c. word_or_not hamming13_columns 4 (column bits c))) [
            | inl columns ↦ inl (record { rows = rows; columns = columns })
            | inr one ↦ (let (c, h, none) = one in inr (λ is. none (is.columns c h)))
          ]
      | inr one ↦ (let (r, h, none) = one in inr (λ is. none (is.rows r h)))
    ]

-- any bits are decoded, to a message or to none
pub decoded_somehow : (bits : List Bool) → (result : Option (List Bool)) × IsDecoded bits result
decoded_somehow bits =
    let (middle, columns) = columns_somehow bits in
    let (last, rows) = rows_somehow middle in
    elim (product_or_not last) [
      | inl product ↦ (
        Some (information last),
        record { middle = middle; last = last; columns = columns; rows = rows; outcome = (product, refl) },
      )
      | inr none ↦ (None, record { middle = middle; last = last; columns = columns; rows = rows; outcome = none })
    ]

-- what is decoded is 96 bits
pub length-information : (bits : List Bool) → length (information bits) ≡ 96
unfolding information
length-information bits = length-map-range_with_len (λ k. cell bits ((k + 3) / 11) ((k + 3) % 11)) 0 96

-- a decoded message has 96 bits
pub length-decoded : (bits message : List Bool) → IsDecoded bits (Some message) → length message ≡ 96
length-decoded bits message decoded = ap length decoded.outcome.1 ∙ length-information decoded.last

-- ---- what is written
-- The upper rows: eleven cells of the information, and the four checks of the code behind them.
record IsUpperRow (message : List Bool) (r : ℕ) (word : List Bool) : Type 0 where
  is : IsHamming15 word
  cells : (c : ℕ) → c < 11 → get_or word c false ≡ information_cell message r c

row_of_information : (message : List Bool) (r : ℕ) → (word : List Bool) × IsUpperRow message r word
row_of_information message r =
    let front : List Bool = map (λ c. information_cell message r c) (range_with_len 0 11) in
    let (word, is, begins) =
    word_somehow 15 11 hamming15_columns front hamming15_shaped (length-map-range_with_len (λ c. information_cell message r c) 0 11)
    in (
      word,
      record {
        is = is;
        cells = λ c h. sym (get_or-take 11 word c false h) ∙ ap (λ l. get_or l c false) begins
            ∙ get_or-map-range_with_len (λ c. information_cell message r c) 0 11 c c false h (omega arith);
      },
    )

-- The columns: nine cells of the upper rows, and the four checks of the code below them.
record IsWholeColumn (rows : ℕ → List Bool) (c : ℕ) (word : List Bool) : Type 0 where
  is : IsHamming13 word
  cells : (r : ℕ) → r < 9 → get_or word r false ≡ get_or (rows r) c false

column_of_rows : (rows : ℕ → List Bool) (c : ℕ) → (word : List Bool) × IsWholeColumn rows c word
column_of_rows rows c =
    let front : List Bool = map (λ r. get_or (rows r) c false) (range_with_len 0 9) in
    let (word, is, begins) =
    word_somehow 13 9 hamming13_columns front hamming13_shaped (length-map-range_with_len (λ r. get_or (rows r) c false) 0 9) in (
      word,
      record {
        is = is;
        cells = λ r h. sym (get_or-take 9 word r false h) ∙ ap (λ l. get_or l r false) begins
            ∙ get_or-map-range_with_len (λ r. get_or (rows r) c false) 0 9 r r false h (omega arith);
      },
    )

-- Any 96 bits have a written form.
pub written_somehow : (message : List Bool) → length message ≡ 96 → (bits : List Bool) × IsWritten message bits
written_somehow message long =
    let rows : ℕ → List Bool = λ r. (row_of_information message r).0 in
    let upper : (r : ℕ) → IsUpperRow message r (rows r) = λ r. (row_of_information message r).1 in
    let columns : ℕ → List Bool = λ c. (column_of_rows rows c).0 in
    let whole : (c : ℕ) → IsWholeColumn rows c (columns c) = λ c. (column_of_rows rows c).1 in
    let cells : ℕ → ℕ → Bool = λ r c. get_or (columns c) r false in
    let bits : List Bool = table_of cells in
    let cell_is : (r c : ℕ) → r < 13 → c < 15 → cell bits r c ≡ get_or (columns c) r false = cell_of_table cells in
    let upper_cell : (r c : ℕ) → r < 9 → c < 15 → cell bits r c ≡ get_or (rows r) c false =
    λ r c h l. cell_is r c (omega arith) l ∙ (whole c).cells r h in
    let held : (r c : ℕ) → r < 9 → c < 11 → cell bits r c ≡ information_cell message r c =
    λ r c h l. upper_cell r c h (omega arith) ∙ (upper r).cells c l in
    let all_columns : (c : ℕ) → c < 15 → IsHamming13 (column bits c) =
    λ c h. subst IsHamming13 (column_from bits (columns c) c (whole c).is.long (λ r l. sym (cell_is r c l h))) (whole c).is in
    let first_rows : (r : ℕ) → r < 9 → IsHamming15 (row bits r) =
    λ r h. subst IsHamming15 (row_from bits (rows r) r (upper r).is.long (λ c l. sym (upper_cell r c h l))) (upper r).is in (
      bits,
      record {
        long = length-map-range_with_len (bit_at cells) 0 196;
        word = record { rows = all_rows bits all_columns first_rows; columns = all_columns };
        holds = sym (information_from bits message long (λ k h.
            sym (held ((k + 3) / 11) ((k + 3) % 11) (omega arith) (omega arith) ∙ information_cell_at message k)));
        reserved = record {
          cells = λ c h. held 0 c (omega arith) (omega arith) ∙ reserved_cell message c h;
          first = get_or-map-range_with_len (bit_at cells) 0 196 0 0 false (omega arith) (omega arith)
              ∙ (whole 0).cells 0 (omega arith) ∙ (upper 0).cells 0 (omega arith) ∙ reserved_cell message 0 (omega arith);
        };
      },
    )
