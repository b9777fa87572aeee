-- What turning a bit leaves near.
use Rattle.std.proofs.Common.{◌≡◌, ◌≢◌, ℕ, zero, suc, ◌+◌, ◌*◌, ◌%◌, ◌<◌, ◌≤◌, Bool, true, false, cond, List, [], ◌∷◌, length}
use Rattle.std.proofs.Common.{get_or, set, sym, ◌∙◌, ap, arith, inl, inr, ◌⊎◌}
use Rattle.std.proofs.lemmas.List.{length-set, get_or-set_other}
use Rattle.std.proofs.lemmas.Bool.{cases_eq}
use Rattle.std.proofs.lemmas.Grind.{get_or-set_at}
use Rattle.dmr_bits.specs.Bits.{xor, distance}
use Rattle.dmr_bits.proofs.Lists.{distance-cons}
use Rattle.dmr_codes.proofs.Flips.{distance_same}
use Rattle.dmr_bptc.proofs.Cells.{unplace, place_below}
use Rattle.dmr_bptc.proofs.Cells as product
use Rattle.dmr_bptc.specs.ProductWord as product_word
use Rattle.dmr_embedded.proofs.Cells as embedded
use Rattle.dmr_embedded.specs.EmbeddedWord as embedded_word

bit_few : (x : Bool) → cond x 1 0 ≤ 1
bit_few true = omega arith
bit_few false = omega arith

-- a bit that is written takes bits one place further at most
pub near_set : (w b : List Bool) (i : ℕ) (x : Bool) → distance w (set b i x) ≤ distance w b + 1
near_set [] b i x = omega arith
near_set (y ∷ w) [] i x = omega arith
near_set (y ∷ w) (z ∷ b) zero x =
    omega (arith, distance-cons y x w b, distance-cons y z w b, bit_few (xor y x))
near_set (y ∷ w) (z ∷ b) (suc i) x =
    omega (arith, distance-cons y z w (set b i x), distance-cons y z w b, near_set w b i x)

-- one place further than the bits themselves
pub near_itself : (b : List Bool) (i : ℕ) (x : Bool) → distance b (set b i x) ≤ 1
near_itself b i x = omega (arith, near_set b b i x, distance_same b)

-- ---- the table of the product code
-- a cell is at a place of its own, and none is at the first
pub place_apart : (r c s d : ℕ) → r < 13 → c < 15 → s < 13 → d < 15 → c ≢ d
    → product_word.place r c ≢ product_word.place s d
place_apart r c s d hr hc hs hd apart e =
    let one : 13 * product_word.place r c % 196 ≡ 1 + 15 * r + c = unplace (1 + 15 * r + c) (omega arith) in
    let other : 13 * product_word.place s d % 196 ≡ 1 + 15 * s + d = unplace (1 + 15 * s + d) (omega arith) in
    let same : 1 + 15 * r + c ≡ 1 + 15 * s + d = sym one ∙ ap (λ p. 13 * p % 196) e ∙ other in
    apart (omega arith)

pub row_apart : (r s c : ℕ) → r < 13 → s < 13 → c < 15 → r ≢ s → product_word.place r c ≢ product_word.place s c
row_apart r s c hr hs hc apart e =
    let one : 13 * product_word.place r c % 196 ≡ 1 + 15 * r + c = unplace (1 + 15 * r + c) (omega arith) in
    let other : 13 * product_word.place s c % 196 ≡ 1 + 15 * s + c = unplace (1 + 15 * s + c) (omega arith) in
    let same : 1 + 15 * r + c ≡ 1 + 15 * s + c = sym one ∙ ap (λ p. 13 * p % 196) e ∙ other in
    apart (omega arith)

pub place_not_first : (r c : ℕ) → r < 13 → c < 15 → product_word.place r c ≢ 0
place_not_first r c hr hc e =
    let one : 13 * product_word.place r c % 196 ≡ 1 + 15 * r + c = unplace (1 + 15 * r + c) (omega arith) in
    let none : 13 * product_word.place r c % 196 ≡ 0 = ap (λ p. 13 * p % 196) e in
    absurd (omega arith)

-- a write to a cell leaves the other columns
pub column_kept : (old : List Bool) (r c d : ℕ) (x : Bool) → r < 13 → c < 15 → d < 15 → d ≢ c
    → product_word.column (set old (product_word.place r c) x) d ≡ product_word.column old d
column_kept old r c d x hr hc hd apart =
    product.column_same (set old (product_word.place r c) x) old d
    (λ s hs. get_or-set_other old (product_word.place r c) (product_word.place s d) x false (place_apart s d r c hs hd hr hc apart))

-- a write to no cell leaves all columns
pub column_reserved : (old : List Bool) (d : ℕ) (x : Bool) → d < 15
    → product_word.column (set old 0 x) d ≡ product_word.column old d
column_reserved old d x hd =
    product.column_same (set old 0 x) old d
    (λ s hs. get_or-set_other old 0 (product_word.place s d) x false (place_not_first s d hs hd))

-- a write to a cell writes that bit of its column
pub column_set : (old : List Bool) (r c : ℕ) (x : Bool) → length old ≡ 196 → r < 13 → c < 15
    → set (product_word.column old c) r x ≡ product_word.column (set old (product_word.place r c) x) c
column_set old r c x long hr hc =
    product.column_from (set old (product_word.place r c) x) (set (product_word.column old c) r x) c
    (length-set (product_word.column old c) r x ∙ product.length-column old c) each
  where
    new : List Bool
    new = set old (product_word.place r c) x

    found : (s : ℕ) → s < 13 → (s ≡ r) ⊎ (s ≢ r) → get_or (set (product_word.column old c) r x) s false ≡ product_word.cell new s c
    found s hs (inl e) =
        get_or-set_at (product_word.column old c) r s x false e (omega (arith, product.length-column old c))
        ∙ sym (get_or-set_at old (product_word.place r c) (product_word.place s c) x false (ap (λ k. product_word.place k c) e)
        (omega (arith, place_below r c)))
    found s hs (inr apart) =
        get_or-set_other (product_word.column old c) r s x false apart ∙ product.get_or-column old s c hs
        ∙ sym (get_or-set_other old (product_word.place r c) (product_word.place s c) x false (row_apart s r c hs hr hc apart))

    each : (s : ℕ) → s < 13 → get_or (set (product_word.column old c) r x) s false ≡ product_word.cell new s c
    each s hs = found s hs (cases_eq s r)

-- a write to a cell turns one bit of its column at most
pub column_near : (old : List Bool) (r c : ℕ) (x : Bool) → length old ≡ 196 → r < 13 → c < 15
    → distance (product_word.column old c) (product_word.column (set old (product_word.place r c) x) c) ≤ 1
column_near old r c x long hr hc =
    rw (← column_set old r c x long hr hc) (near_itself (product_word.column old c) r x)

-- ---- the table of an embedded word
-- a write to a cell leaves the other rows
pub row_kept : (old : List Bool) (r c s : ℕ) (x : Bool) → r < 8 → c < 16 → s < 8 → s ≢ r
    → embedded_word.row (set old (8 * c + r) x) s ≡ embedded_word.row old s
row_kept old r c s x hr hc hs apart =
    embedded.row_same (set old (8 * c + r) x) old s
    (λ d hd. embedded.cell_set_other old s d r c x hs hr (λ both. apart both.0))

-- a write to a cell writes that bit of its row
pub row_set : (old : List Bool) (r c : ℕ) (x : Bool) → length old ≡ 128 → r < 8 → c < 16
    → set (embedded_word.row old r) c x ≡ embedded_word.row (set old (8 * c + r) x) r
row_set old r c x long hr hc =
    embedded.row_from (set old (8 * c + r) x) (set (embedded_word.row old r) c x) r
    (length-set (embedded_word.row old r) c x ∙ embedded.length-row old r) each
  where
    found : (d : ℕ) → d < 16 → (d ≡ c) ⊎ (d ≢ c)
        → get_or (set (embedded_word.row old r) c x) d false ≡ embedded_word.cell (set old (8 * c + r) x) r d
    found d hd (inl e) =
        get_or-set_at (embedded_word.row old r) c d x false e (omega (arith, embedded.length-row old r))
        ∙ sym (get_or-set_at old (8 * c + r) (8 * d + r) x false (omega arith) (omega arith))
    found d hd (inr apart) =
        get_or-set_other (embedded_word.row old r) c d x false apart ∙ embedded.get_or-row old r d hd
        ∙ sym (embedded.cell_set_other old r d r c x hr hr (λ both. apart both.1))

    each : (d : ℕ) → d < 16 → get_or (set (embedded_word.row old r) c x) d false ≡ embedded_word.cell (set old (8 * c + r) x) r d
    each d hd = found d hd (cases_eq d c)

-- a write to a cell turns one bit of its row at most
pub row_near : (old : List Bool) (r c : ℕ) (x : Bool) → length old ≡ 128 → r < 8 → c < 16
    → distance (embedded_word.row old r) (embedded_word.row (set old (8 * c + r) x) r) ≤ 1
row_near old r c x long hr hc = rw (← row_set old r c x long hr hc) (near_itself (embedded_word.row old r) c x)
