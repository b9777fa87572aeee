-- Any octets of a link control are embedded in some fields, and any short link control has its fragments.
use Rattle.std.proofs.Common.{◌≡◌, ℕ, zero, suc, ◌+◌, ◌*◌, ◌/◌, ◌%◌, ◌^◌, ◌<◌, ◌≤◌, Bool, true, false, cond, List, [], ◌∷◌}
use Rattle.std.proofs.Common.{◌++◌, All, length, take, map, get_or, refl, sym, ◌∙◌, ap, subst, arith, length-append, lit≤, lit<}
use Rattle.std.specs.Prelude.{nat_lt}
use Rattle.std.specs.List.{range_with_len}
use Rattle.std.proofs.lemmas.Bool.{lt-ltb}
use Rattle.std.proofs.lemmas.List.{take_at, drop_at, get_or-take, get_or_append_left, get_or-append_right, append-nil}
use Rattle.std.proofs.lemmas.List.Concat.{flat_map-cons}
use Rattle.std.proofs.lemmas.List.FromFn.{length-map-range_with_len, get_or-map-range_with_len}
use Rattle.dmr_bits.specs.Bits.{bits_of, bits_of_octets, number_of, octets_of, part, xor, xor_bits}
use Rattle.dmr_bits.specs.Polynomials.{binary_field, IsMultiple}
use Rattle.dmr_bits.proofs.Lists.{length-bits_of, number_of-bits_of, number_of-lt, bits_of_spelled}
use Rattle.dmr_bits.proofs.OctetFronts.{length-bits_of_octets}
use Rattle.dmr_bits.proofs.Octets.{octets_of-bits_of_octets}
use Rattle.dmr_bits.proofs.Parts.{length-part}
use Rattle.dmr_checks.specs.Generators.{crc8_generator}
use Rattle.dmr_checks.proofs.Existing.{crc8_somehow}
use Rattle.dmr_codes.proofs.Completing.{word_somehow}
use Rattle.dmr_codes.specs.Seven.{IsHamming16, IsHamming17, hamming16_columns, hamming16_shaped, hamming17_columns}
use Rattle.dmr_codes.specs.Seven.{hamming17_shaped}
use Rattle.dmr_embedded.specs.EmbeddedWord.{bits_of_fields, cell, column, IsEven, is_odd, lc_bits, lc_octets, checksum_bits}
use Rattle.dmr_embedded.specs.EmbeddedWord.{checksum_of, IsEmbeddedWord, IsEmbedded, message_cell}
use Rattle.dmr_embedded.specs.ShortLc.{bits_of_fragments, short_cell, short_row, short_column, message as short_message, IsShortLc}
use Rattle.dmr_embedded.proofs.Cells.{row_from, length-column, get_or-column}
use Rattle.dmr_embedded.proofs.Even.{made_even}
use Rattle.dmr_embedded.proofs.Filling.{lc_of_message, checksum_of_message}
use Rattle.dmr_embedded.proofs.Fragments.{part_join, whole_part, joined, four_lengths}
use Rattle.dmr_embedded.proofs.ShortTable.{row_from as short_row_from, even_column, sum_at, three_rows, message_is}

-- ---- a short link control
-- the rows of its table: three words, and their sum
pub short_rows : List Bool → List Bool → List Bool → ℕ → List Bool
short_rows x y z zero = x
short_rows x y z (suc zero) = y
short_rows x y z (suc (suc zero)) = z
short_rows x y z (suc (suc (suc r))) = xor_bits (xor_bits x y) z

pub short_bit : (ℕ → List Bool) → ℕ → Bool
short_bit rows k = get_or (rows (k % 4)) (k / 4) false

pub short_table : (ℕ → List Bool) → List Bool
short_table rows = map (short_bit rows) (range_with_len 0 68)

short_cell_is : (rows : ℕ → List Bool) (r c : ℕ) → r < 4 → c < 17 → short_cell (short_table rows) r c ≡ get_or (rows r) c false
unfolding short_table short_bit
short_cell_is rows r c h l =
    let which : (4 * c + r) % 4 ≡ r = omega arith in
    let place : (4 * c + r) / 4 ≡ c = omega arith in
    get_or-map-range_with_len (short_bit rows) 0 68 (4 * c + r) (4 * c + r) false (omega arith) (omega arith)
    ∙ ap (λ n. get_or (rows n) ((4 * c + r) / 4) false) which
    ∙ ap (λ n. get_or (rows r) n false) place

length-short_table : (rows : ℕ → List Bool) → length (short_table rows) ≡ 68
unfolding short_table
length-short_table rows = length-map-range_with_len (short_bit rows) 0 68

-- The fragments of a table of these rows.
module _ (m x y z : List Bool) (long : length m ≡ 36) (u : IsHamming17 x) (v : IsHamming17 y) (w : IsHamming17 z)
    (first : take 12 x ≡ part m 0 12) (second : take 12 y ≡ part m 12 24) (third : take 12 z ≡ part m 24 36) where
  pub rows : ℕ → List Bool
  rows = short_rows x y z

  pub bits : List Bool
  bits = short_table rows

  pub fragments : List (List Bool)
  fragments = part bits 0 17 ∷ part bits 17 34 ∷ part bits 34 51 ∷ part bits 51 68 ∷ []

  pub record IsCarried : Type 0 where
    pub count : length fragments ≡ 4
    pub lengths : All (λ fragment. length fragment ≡ 17) fragments
    pub each : (r : ℕ) → r < 3 → IsHamming17 (short_row (bits_of_fragments fragments) r)
    pub even : (c : ℕ) → c < 17 → IsEven (short_column (bits_of_fragments fragments) c)
    pub holds : short_message (bits_of_fragments fragments) ≡ m

  is_carried : IsCarried
  unfolding rows bits fragments short_rows
  is_carried =
      let whole : length bits ≡ 68 = length-short_table rows in
      let back : bits_of_fragments fragments ≡ bits =
      joined bits (part bits 0 17) (part bits 17 34) (part bits 34 51) (part bits 51 68) whole refl refl refl refl in
      let cells : (r c : ℕ) → r < 4 → c < 17 → short_cell bits r c ≡ get_or (rows r) c false = short_cell_is rows in
      let top : x ≡ short_row bits 0 = short_row_from bits x 0 u.long (λ c h. sym (cells 0 c (lit< tt) h)) in
      let middle : y ≡ short_row bits 1 = short_row_from bits y 1 v.long (λ c h. sym (cells 1 c (lit< tt) h)) in
      let low : z ≡ short_row bits 2 = short_row_from bits z 2 w.long (λ c h. sym (cells 2 c (lit< tt) h)) in
      let sums : (c : ℕ) → c < 17
      → short_cell bits 3 c ≡ xor (xor (short_cell bits 0 c) (short_cell bits 1 c)) (short_cell bits 2 c) =
      λ c h. cells 3 c (lit< tt) h ∙ sum_at x y z 17 c u.long v.long w.long h
      ∙ ap (λ b. xor (xor b (get_or y c false)) (get_or z c false)) (sym (cells 0 c (lit< tt) h))
      ∙ ap (λ b. xor (xor (short_cell bits 0 c) b) (get_or z c false)) (sym (cells 1 c (lit< tt) h))
      ∙ ap (λ b. xor (xor (short_cell bits 0 c) (short_cell bits 1 c)) b) (sym (cells 2 c (lit< tt) h)) in
      record {
        count = refl;
        lengths = four_lengths (part bits 0 17) (part bits 17 34) (part bits 34 51) (part bits 51 68) 17
            (length-part bits 0 17 (lit≤ tt) (omega (arith, whole)))
            (length-part bits 17 34 (lit≤ tt) (omega (arith, whole)))
            (length-part bits 34 51 (lit≤ tt) (omega (arith, whole)))
            (length-part bits 51 68 (lit≤ tt) (omega (arith, whole)));
        each = λ r h. subst (λ (l : List Bool). IsHamming17 (short_row l r)) (sym back)
            (three_rows bits x y z top middle low u v w r h);
        even = λ c h. subst (λ (l : List Bool). IsEven (short_column l c)) (sym back) (even_column bits c (sums c h));
        holds = ap short_message back ∙ message_is bits x y z m top middle low long first second third;
      }

-- there are four fragments that carry a short link control, for any opcode and body
pub short_lc_somehow : (slco body : ℕ) → (fragments : List (List Bool)) × IsShortLc slco body fragments
short_lc_somehow slco body =
    let content : List Bool = bits_of 4 slco ++ bits_of 24 body in
    let wide : length content ≡ 28 =
    length-append (bits_of 4 slco) (bits_of 24 body) ∙ omega (arith, length-bits_of 4 slco, length-bits_of 24 body) in
    let (check, eight, completes) = crc8_somehow content in
    let m : List Bool = content ++ check in
    let long : length m ≡ 36 = length-append content check ∙ omega (arith, wide, eight) in
    let (x, u, first) = word_somehow 17 12 hamming17_columns (part m 0 12) hamming17_shaped
    (length-part m 0 12 (lit≤ tt) (omega (arith, long))) in
    let (y, v, second) = word_somehow 17 12 hamming17_columns (part m 12 24) hamming17_shaped
    (length-part m 12 24 (lit≤ tt) (omega (arith, long))) in
    let (z, w, third) = word_somehow 17 12 hamming17_columns (part m 24 36) hamming17_shaped
    (length-part m 24 36 (lit≤ tt) (omega (arith, long))) in
    let is = is_carried m x y z long u v w first second third in (
      fragments m x y z long u v w first second third,
      record {
        count = is.count;
        lengths = is.lengths;
        rows = is.each;
        columns = is.even;
        holds = ap (take 28) is.holds ∙ take_at content check 28 wide;
        sealed = subst (IsMultiple binary_field crc8_generator) (sym is.holds) completes;
      },
    )

-- ---- an embedded link control
-- The upper rows: eleven cells of the message, and the checks behind them.
record IsRow (message : List Bool) (r : ℕ) (word : List Bool) : Type 0 where
  is : IsHamming16 word
  cells : (c : ℕ) → c < 11 → get_or word c false ≡ message_cell message r c

row_somehow : (message : List Bool) (r : ℕ) → (word : List Bool) × IsRow message r word
row_somehow message r =
    let front : List Bool = map (λ c. message_cell message r c) (range_with_len 0 11) in
    let eleven : length front ≡ 11 = length-map-range_with_len (λ c. message_cell message r c) 0 11 in
    let (word, is, begins) = word_somehow 16 11 hamming16_columns front hamming16_shaped eleven in (
      word,
      record {
        is = is;
        cells = λ c h. sym (get_or-take 11 word c false h) ∙ ap (λ l. get_or l c false) begins
            ∙ get_or-map-range_with_len (λ c. message_cell message r c) 0 11 c c false h (omega arith);
      },
    )

-- a column of these rows, with nothing in the last
seven_cells : (ℕ → List Bool) → ℕ → List Bool
seven_cells rows c = map (λ r. get_or (rows r) c false) (range_with_len 0 7)

eight_cells : (ℕ → List Bool) → ℕ → List Bool
eight_cells rows c = seven_cells rows c ++ false ∷ []

table_bit : (ℕ → List Bool) → ℕ → ℕ → Bool
table_bit rows r c = cond (nat_lt r 7) (get_or (rows r) c false) (is_odd (eight_cells rows c))

table_of : (ℕ → List Bool) → List Bool
table_of rows = map (λ k. table_bit rows (k % 8) (k / 8)) (range_with_len 0 128)

cell_is : (rows : ℕ → List Bool) (r c : ℕ) → r < 8 → c < 16 → cell (table_of rows) r c ≡ table_bit rows r c
unfolding table_of
cell_is rows r c h l =
    let which : (8 * c + r) % 8 ≡ r = omega arith in
    let place : (8 * c + r) / 8 ≡ c = omega arith in
    get_or-map-range_with_len (λ k. table_bit rows (k % 8) (k / 8)) 0 128 (8 * c + r) (8 * c + r) false (omega arith) (omega arith)
    ∙ ap (λ n. table_bit rows n ((8 * c + r) / 8)) which
    ∙ ap (λ n. table_bit rows r n) place

upper_is : (rows : ℕ → List Bool) (r c : ℕ) → r < 7 → c < 16 → cell (table_of rows) r c ≡ get_or (rows r) c false
unfolding table_bit
upper_is rows r c h l =
    cell_is rows r c (omega arith) l ∙ ap (λ b. cond b (get_or (rows r) c false) (is_odd (eight_cells rows c))) (lt-ltb r 7 h)

sum_with_none : (b : Bool) → b ≡ xor false b
sum_with_none true = refl
sum_with_none false = refl

even_columns : (rows : ℕ → List Bool) (c : ℕ) → c < 16 → IsEven (column (table_of rows) c)
unfolding eight_cells seven_cells table_bit
even_columns rows c h =
    let bits : List Bool = table_of rows in
    let seven : length (seven_cells rows c) ≡ 7 = length-map-range_with_len (λ r. get_or (rows r) c false) 0 7 in
    let eight : length (eight_cells rows c) ≡ 8 = length-append (seven_cells rows c) (false ∷ []) ∙ omega (arith, seven) in
    made_even (eight_cells rows c) (column bits c) 7 eight (length-column bits c)
    (λ r l. get_or_append_left (seven_cells rows c) (false ∷ []) false r (omega (arith, seven))
    ∙ get_or-map-range_with_len (λ r. get_or (rows r) c false) 0 7 r r false l (omega arith)
    ∙ sym (get_or-column bits r c (omega arith) ∙ upper_is rows r c l h))
    (get_or-column bits 7 c (lit< tt) ∙ cell_is rows 7 c (lit< tt) h
    ∙ sum_with_none (is_odd (eight_cells rows c))
    ∙ ap (λ b. xor b (is_odd (eight_cells rows c)))
    (sym (get_or-append_right (seven_cells rows c) (false ∷ []) 7 7 false seven (lit≤ tt))))

-- Bits in four fields.
fields_of : List Bool → List ℕ
fields_of bits =
    number_of (part bits 0 32) ∷ number_of (part bits 32 64) ∷ number_of (part bits 64 96) ∷ number_of (part bits 96 128) ∷ []

fields_spell : (bits : List Bool) → length bits ≡ 128 → bits_of_fields (fields_of bits) ≡ bits
unfolding fields_of
fields_spell bits long =
    let flat : List ℕ → List Bool = bits_of_fields in
    let a : ℕ = number_of (part bits 0 32) in
    let b : ℕ = number_of (part bits 32 64) in
    let c : ℕ = number_of (part bits 64 96) in
    let d : ℕ = number_of (part bits 96 128) in
    let one : bits_of 32 a ≡ part bits 0 32 =
    bits_of_spelled 32 (part bits 0 32) (length-part bits 0 32 (lit≤ tt) (omega (arith, long))) in
    let two : bits_of 32 b ≡ part bits 32 64 =
    bits_of_spelled 32 (part bits 32 64) (length-part bits 32 64 (lit≤ tt) (omega (arith, long))) in
    let three : bits_of 32 c ≡ part bits 64 96 =
    bits_of_spelled 32 (part bits 64 96) (length-part bits 64 96 (lit≤ tt) (omega (arith, long))) in
    let four : bits_of 32 d ≡ part bits 96 128 =
    bits_of_spelled 32 (part bits 96 128) (length-part bits 96 128 (lit≤ tt) (omega (arith, long))) in
    let last : flat (d ∷ []) ≡ part bits 96 128 = flat_map-cons (bits_of 32) d [] ∙ append-nil (bits_of 32 d) ∙ four in
    let third : flat (c ∷ d ∷ []) ≡ part bits 64 128 =
    flat_map-cons (bits_of 32) c (d ∷ []) ∙ ap (λ l. l ++ flat (d ∷ [])) three ∙ ap (λ l. part bits 64 96 ++ l) last
    ∙ part_join bits 64 96 128 (omega arith) (omega arith) in
    let second : flat (b ∷ c ∷ d ∷ []) ≡ part bits 32 128 =
    flat_map-cons (bits_of 32) b (c ∷ d ∷ []) ∙ ap (λ l. l ++ flat (c ∷ d ∷ [])) two ∙ ap (λ l. part bits 32 64 ++ l) third
    ∙ part_join bits 32 64 128 (omega arith) (omega arith) in
    flat_map-cons (bits_of 32) a (b ∷ c ∷ d ∷ []) ∙ ap (λ l. l ++ flat (b ∷ c ∷ d ∷ [])) one ∙ ap (λ l. part bits 0 32 ++ l) second
    ∙ part_join bits 0 32 128 (omega arith) (omega arith) ∙ whole_part bits 128 long

narrow_part : (bits : List Bool) (from to : ℕ) → from + 32 ≡ to → to ≤ length bits → number_of (part bits from to) < 2 ^ 32
narrow_part bits from to e h =
    subst (λ (n : ℕ). number_of (part bits from to) < 2 ^ n)
    (let z : length (part bits from to) ≡ 32 = length-part bits from to (omega arith) h ∙ omega arith in z)
    (number_of-lt (part bits from to))

narrow_fields : (bits : List Bool) → length bits ≡ 128 → All (λ field. field < 2 ^ 32) (fields_of bits)
unfolding fields_of
narrow_fields bits long zero default inside = narrow_part bits 0 32 refl (omega (arith, long))
narrow_fields bits long (suc zero) default inside = narrow_part bits 32 64 refl (omega (arith, long))
narrow_fields bits long (suc (suc zero)) default inside = narrow_part bits 64 96 refl (omega (arith, long))
narrow_fields bits long (suc (suc (suc zero))) default inside = narrow_part bits 96 128 refl (omega (arith, long))
narrow_fields bits long (suc (suc (suc (suc i)))) default inside = absurd (omega arith)

-- there are four fields of 32 bits that carry any nine octets
pub embedded_somehow : (octets : List ℕ) → length octets ≡ 9 → All (λ octet. octet < 256) octets
    → (fields : List ℕ) × (length fields ≡ 4) × All (λ field. field < 2 ^ 32) fields × IsEmbedded octets fields
unfolding fields_of table_of
embedded_somehow octets nine small =
    let front : List Bool = bits_of_octets octets in
    let sum : ℕ = checksum_of octets in
    let message : List Bool = front ++ bits_of 5 sum in
    let wide : length front ≡ 72 = length-bits_of_octets octets ∙ omega (arith, nine) in
    let long : length message ≡ 77 = length-append front (bits_of 5 sum) ∙ omega (arith, wide, length-bits_of 5 sum) in
    let rows : ℕ → List Bool = λ r. (row_somehow message r).0 in
    let each : (r : ℕ) → IsRow message r (rows r) = λ r. (row_somehow message r).1 in
    let bits : List Bool = table_of rows in
    let whole : length bits ≡ 128 = length-map-range_with_len (λ k. table_bit rows (k % 8) (k / 8)) 0 128 in
    let cells : (r c : ℕ) → r < 7 → c < 11 → cell bits r c ≡ message_cell message r c =
    λ r c h l. upper_is rows r c h (omega arith) ∙ (each r).cells c l in
    let held : lc_bits bits ≡ front = sym (lc_of_message bits message long cells) ∙ take_at front (bits_of 5 sum) 72 wide in
    let checked : checksum_bits bits ≡ bits_of 5 sum =
    sym (checksum_of_message bits message long cells) ∙ drop_at front (bits_of 5 sum) 72 wide in
    let back : lc_octets bits ≡ octets =
    ap (octets_of 9) held ∙ ap (λ n. octets_of n (bits_of_octets octets)) (sym nine) ∙ octets_of-bits_of_octets octets small in
    let fits : sum < 2 ^ 5 = omega arith in
    let word : IsEmbeddedWord bits = record {
      rows = λ r h. subst IsHamming16 (row_from bits (rows r) r (each r).is.long (λ c l. sym (upper_is rows r c h l))) (each r).is;
      columns = even_columns rows;
      checksum = ap number_of checked ∙ number_of-bits_of 5 sum fits ∙ ap checksum_of (sym back);
    } in
    let spelled : bits_of_fields (fields_of bits) ≡ bits = fields_spell bits whole in (
      fields_of bits,
      refl,
      narrow_fields bits whole,
      record { word = subst IsEmbeddedWord (sym spelled) word; holds = ap lc_octets spelled ∙ back },
    )
