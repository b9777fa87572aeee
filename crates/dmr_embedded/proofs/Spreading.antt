-- The cells of a row, eight places apart in the fields.
use Rattle.std.proofs.Common.{◌≡◌, ◌≢◌, ℕ, zero, suc, ◌+◌, ◌-◌, ◌*◌, ◌/◌, ◌%◌, ◌^◌, ◌<◌, ◌≤◌, ◌==◌, Bool, true, false, List, []}
use Rattle.std.proofs.Common.{◌∷◌, length, refl, sym, ◌∙◌, ap, arith, subst, cond, eqb, eqb-true, get_or, take, drop, map}
use Rattle.std.proofs.Common.{replicate, bit_xor}
use Rattle.std.specs.List.{range_with_len}
use Rattle.std.proofs.lemmas.Bool.{agree_below_at, eq-eqb, ne_eqb}
use Rattle.std.proofs.lemmas.List.{length-take-le, length-drop, get_or-take, get_or-drop, get_or_append_left, get_or-append_right}
use Rattle.std.proofs.lemmas.List.{get_or-replicate}
use Rattle.std.proofs.lemmas.List.Concat.{flat_map-cons}
use Rattle.std.proofs.lemmas.List.FromFn.{length-map-range_with_len, get_or-map-range_with_len}
use Rattle.dmr_bits.specs.Bits.{bits_of, number_of, xor, distance}
use Rattle.dmr_bits.proofs.Lists.{length-bits_of, bits_of_spelled, distance_zero, get_or-xor_bits, xor_false}
use Rattle.dmr_bits.proofs.Numbers.{bits_of_xor}
use Rattle.dmr_embedded.specs.EmbeddedWord.{bits_of_fields, cell, row}
use Rattle.dmr_embedded.specs.declared.spread.TheConstants.{SPREAD}
use Rattle.dmr_embedded.proofs.Cells.{row_from}

-- the bits of a field that holds four cells of one row alone
abbrev spread_bits : ℕ → ℕ → List Bool
spread_bits n i = map (λ p. cond (p % 8 == i) (get_or (bits_of 4 n) (p / 8) false) false) (range_with_len 0 32)

-- in how many places the table of the code differs from that
abbrev differing : ℕ → ℕ → ℕ
differing n i = distance (bits_of 32 (get_or SPREAD n 0 / 2 ^ i)) (spread_bits n i)

none_differs : (n i : ℕ) → n < 16 → i < 8 → differing n i ≡ 0
none_differs n i h k =
    let line : (8 * n + i) / 8 ≡ n = omega arith in
    let across : (8 * n + i) % 8 ≡ i = omega arith in
    let all : differing ((8 * n + i) / 8) ((8 * n + i) % 8) ≡ 0 =
    eqb-true (differing ((8 * n + i) / 8) ((8 * n + i) % 8)) 0
    (agree_below_at (λ j. eqb (differing (j / 8) (j % 8)) 0) (λ j. true) 128 (8 * n + i) refl (omega arith)) in
    subst (λ (j : ℕ). differing n j ≡ 0) across (subst (λ (m : ℕ). differing m ((8 * n + i) % 8) ≡ 0) line all)

spread_is : (n i k r : ℕ) → n < 16 → i < 8 → k < 4 → r < 8
    → get_or (bits_of 32 (get_or SPREAD n 0 / 2 ^ i)) (8 * k + r) false ≡ cond (r == i) (get_or (bits_of 4 n) k false) false
spread_is n i k r h l a b =
    let F : ℕ → Bool = λ p. cond (p % 8 == i) (get_or (bits_of 4 n) (p / 8) false) false in
    let s : ℕ = get_or SPREAD n 0 / 2 ^ i in
    let same : bits_of 32 s ≡ spread_bits n i =
    distance_zero (bits_of 32 s) (spread_bits n i) (length-bits_of 32 s ∙ sym (length-map-range_with_len F 0 32))
    (none_differs n i h l) in
    let line : (8 * k + r) / 8 ≡ k = omega arith in
    let across : (8 * k + r) % 8 ≡ r = omega arith in
    ap (λ l. get_or l (8 * k + r) false) same
    ∙ get_or-map-range_with_len F 0 32 (8 * k + r) (8 * k + r) false (omega arith) (omega arith)
    ∙ ap (λ j. cond (j == i) (get_or (bits_of 4 n) ((8 * k + r) / 8) false) false) across
    ∙ ap (λ j. cond (r == i) (get_or (bits_of 4 n) j false) false) line

sum_bit : (field s p : ℕ) → p < 32
    → get_or (bits_of 32 (bit_xor field s)) p false ≡ xor (get_or (bits_of 32 field) p false) (get_or (bits_of 32 s) p false)
sum_bit field s p h =
    ap (λ l. get_or l p false) (bits_of_xor 32 field s)
    ∙ get_or-xor_bits (bits_of 32 field) (bits_of 32 s) p (omega (arith, h, length-bits_of 32 field))
    (omega (arith, h, length-bits_of 32 s))

-- the cells of a row are added to those that stand there
pub cells_added : (field n i k : ℕ) → n < 16 → i < 8 → k < 4
    → get_or (bits_of 32 (bit_xor field (get_or SPREAD n 0 / 2 ^ i))) (8 * k + i) false
    ≡ xor (get_or (bits_of 32 field) (8 * k + i) false) (get_or (bits_of 4 n) k false)
cells_added field n i k h l a =
    sum_bit field (get_or SPREAD n 0 / 2 ^ i) (8 * k + i) (omega arith)
    ∙ ap (xor (get_or (bits_of 32 field) (8 * k + i) false)) (spread_is n i k i h l a l
    ∙ ap (λ b. cond b (get_or (bits_of 4 n) k false) false) (eq-eqb i i refl))

-- the cells of the other rows are kept
pub cells_kept : (field n i k r : ℕ) → n < 16 → i < 8 → k < 4 → r < 8 → r ≢ i
    → get_or (bits_of 32 (bit_xor field (get_or SPREAD n 0 / 2 ^ i))) (8 * k + r) false
    ≡ get_or (bits_of 32 field) (8 * k + r) false
cells_kept field n i k r h l a b apart =
    sum_bit field (get_or SPREAD n 0 / 2 ^ i) (8 * k + r) (omega arith)
    ∙ ap (xor (get_or (bits_of 32 field) (8 * k + r) false)) (spread_is n i k r h l a b
    ∙ ap (λ b. cond b (get_or (bits_of 4 n) k false) false) (ne_eqb r i apart))
    ∙ xor_false (get_or (bits_of 32 field) (8 * k + r) false)

field_at : (fields : List ℕ) (g p : ℕ) → g < length fields → p < 32
    → get_or (bits_of_fields fields) (32 * g + p) false ≡ get_or (bits_of 32 (get_or fields g 0)) p false
field_at [] g p h l = absurd (omega arith)
field_at (x ∷ xs) zero p h l =
    let at : 32 * 0 + p ≡ p = omega arith in
    ap (λ l. get_or l (32 * 0 + p) false) (flat_map-cons (bits_of 32) x xs)
    ∙ get_or_append_left (bits_of 32 x) (bits_of_fields xs) false (32 * 0 + p) (omega (arith, l, length-bits_of 32 x))
    ∙ ap (λ i. get_or (bits_of 32 x) i false) at
field_at (x ∷ xs) (suc g) p h l =
    let at : 32 * suc g + p - 32 ≡ 32 * g + p = omega arith in
    ap (λ l. get_or l (32 * suc g + p) false) (flat_map-cons (bits_of 32) x xs)
    ∙ get_or-append_right (bits_of 32 x) (bits_of_fields xs) 32 (32 * suc g + p) false (length-bits_of 32 x) (omega arith)
    ∙ ap (λ i. get_or (bits_of_fields xs) i false) at
    ∙ field_at xs g p (omega arith) l

-- a cell stands in the field of its column
cell_in_field : (fields : List ℕ) (r g k : ℕ) → length fields ≡ 4 → r < 8 → g < 4 → k < 4
    → cell (bits_of_fields fields) r (4 * g + k) ≡ get_or (bits_of 32 (get_or fields g 0)) (8 * k + r) false
cell_in_field fields r g k e h l a =
    let at : 8 * (4 * g + k) + r ≡ 32 * g + (8 * k + r) = omega arith in
    ap (λ i. get_or (bits_of_fields fields) i false) at ∙ field_at fields g (8 * k + r) (omega arith) (omega arith)

-- what holds of each of four
pub each_of_four : (P : ℕ → Type 0) → P 0 → P 1 → P 2 → P 3 → (g : ℕ) → g < 4 → P g
each_of_four P a b c d zero h = a
each_of_four P a b c d (suc zero) h = b
each_of_four P a b c d (suc (suc zero)) h = c
each_of_four P a b c d (suc (suc (suc zero))) h = d
each_of_four P a b c d (suc (suc (suc (suc g)))) h = absurd (omega arith)

-- a bit of four bits of a word
pub word_bit : (word : List Bool) (at n k : ℕ) → at + 4 ≤ length word → n ≡ number_of (take 4 (drop at word)) → k < 4
    → get_or (bits_of 4 n) k false ≡ get_or word (at + k) false
word_bit word at n k room is h =
    let part : List Bool = take 4 (drop at word) in
    let long : length part ≡ 4 = length-take-le 4 (drop at word) (rw length-drop (omega arith)) in
    ap (λ m. get_or (bits_of 4 m) k false) is ∙ ap (λ l. get_or l k false) (bits_of_spelled 4 part long)
    ∙ get_or-take 4 (drop at word) k false h ∙ get_or-drop at word k false

-- a row that was clear holds the word that is added to it
pub row_written : (before after : List ℕ) (word : List Bool) (i : ℕ) → length before ≡ 4 → length after ≡ 4 → length word ≡ 16
    → i < 8 → ((c : ℕ) → c < 16 → cell (bits_of_fields before) i c ≡ false)
    → ((g : ℕ) → g < 4 → (k : ℕ) → k < 4 → get_or (bits_of 32 (get_or after g 0)) (8 * k + i) false
    ≡ xor (get_or (bits_of 32 (get_or before g 0)) (8 * k + i) false) (get_or word (4 * g + k) false))
    → row (bits_of_fields after) i ≡ word
row_written before after word i e f long h clear added =
    sym (row_from (bits_of_fields after) word i long (λ c l.
    let g : ℕ = c / 4 in
    let k : ℕ = c % 4 in
    let at : 4 * (c / 4) + c % 4 ≡ c = omega arith in
    let here : cell (bits_of_fields after) i (4 * g + k) ≡ get_or word (4 * g + k) false =
    cell_in_field after i g k f h (omega arith) (omega arith) ∙ added g (omega arith) k (omega arith)
    ∙ ap (λ b. xor b (get_or word (4 * g + k) false)) (sym (cell_in_field before i g k e h (omega arith) (omega arith))
    ∙ clear (4 * g + k) (omega arith)) in
    sym (subst (λ (j : ℕ). cell (bits_of_fields after) i j ≡ get_or word j false) at here)))

-- the other rows hold what they held
pub rows_kept : (before after : List ℕ) (i : ℕ) → length before ≡ 4 → length after ≡ 4
    → ((g : ℕ) → g < 4 → (k r : ℕ) → k < 4 → r < 8 → r ≢ i
    → get_or (bits_of 32 (get_or after g 0)) (8 * k + r) false ≡ get_or (bits_of 32 (get_or before g 0)) (8 * k + r) false)
    → (r c : ℕ) → r < 8 → c < 16 → r ≢ i → cell (bits_of_fields after) r c ≡ cell (bits_of_fields before) r c
rows_kept before after i e f kept r c h l apart =
    let g : ℕ = c / 4 in
    let k : ℕ = c % 4 in
    let at : 4 * (c / 4) + c % 4 ≡ c = omega arith in
    let here : cell (bits_of_fields after) r (4 * g + k) ≡ cell (bits_of_fields before) r (4 * g + k) =
    cell_in_field after r g k f h (omega arith) (omega arith) ∙ kept g (omega arith) k r (omega arith) h apart
    ∙ sym (cell_in_field before r g k e h (omega arith) (omega arith)) in
    subst (λ (j : ℕ). cell (bits_of_fields after) r j ≡ cell (bits_of_fields before) r j) at here

zeros : bits_of_fields (replicate 4 0) ≡ replicate 128 false
zeros = refl

-- fields of zero hold no cell that is set
pub cells_clear : (r c : ℕ) → r < 8 → c < 16 → cell (bits_of_fields (replicate 4 0)) r c ≡ false
cells_clear r c h l = ap (λ x. get_or x (8 * c + r) false) zeros ∙ get_or-replicate 128 (8 * c + r) false false (omega arith)
