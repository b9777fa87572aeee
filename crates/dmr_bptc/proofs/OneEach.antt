-- Lines of places, each with one of each column, and words that differ at most once in each column.
use Rattle.std.proofs.Common.{◌≡◌, ℕ, ◌+◌, ◌-◌, ◌*◌, ◌/◌, ◌%◌, ◌^◌, ◌<◌, ◌≤◌, ◌≢◌, ◌⊎◌, Bool, true, false, List}
use Rattle.std.proofs.Common.{length, drop, get_or, refl, sym, ap, subst, ◌∙◌, arith, inl, inr, eqb, eqb-true}
use Rattle.std.specs.Prelude.{bit_and, bit_or}
use Rattle.std.proofs.Math.Nat.{mod-eq_of_lt, add-mod_right}
use Rattle.std.proofs.lemmas.Bool.{agree_below_at, cases_eq, cases_lt, eq-eqb}
use Rattle.std.proofs.lemmas.Nat.Bits.{bit_at_and, bit_at_or}
use Rattle.std.proofs.lemmas.List.{get_or-take, get_or-drop, get_or_append_left, get_or-append_right}
use Rattle.dmr_bits.specs.Bits.{bits_of, xor, xor_bits, distance}
use Rattle.dmr_bits.proofs.Lists.{length-bits_of, get_or-bits_of, get_or-xor_bits}
use Rattle.dmr_bits.proofs.Widths.{bits_of-join, bits_of-middle}
use Rattle.dmr_codes.proofs.Searching.{all_or_one}
use Rattle.dmr_bptc.specs.ProductWord.{place, cell, column}
use Rattle.dmr_bptc.specs.Seen.{AreSeen, line_place}
use Rattle.dmr_bptc.proofs.Cells.{length-column, get_or-column, unplace, place_below}
use Rattle.dmr_bptc.proofs.Near.{agree_but_one}

-- a bit of a number beside itself
bit_of_double : (w n i : ℕ) → n < 2 ^ w → i < w + w
    → get_or (bits_of (w + w) (n * 2 ^ w + n)) i false ≡ get_or (bits_of w n) (i % w) false
bit_of_double w n i small h =
    let long : length (bits_of w n) ≡ w = length-bits_of w n in
    ap (λ l. get_or l i false) (bits_of-join w w (w + w) n n refl small)
    ∙ elim (cases_lt i w) [
      | inl low ↦
          (let same : i ≡ i % w = sym (mod-eq_of_lt low) in
          get_or_append_left (bits_of w n) (bits_of w n) false i (omega arith) ∙ ap (λ j. get_or (bits_of w n) j false) same)
      | inr high ↦
          (let back : i - w + w ≡ i = omega arith in
          let below : i - w < w = omega arith in
          let same : i - w ≡ i % w = sym (ap (λ k. k % w) (sym back) ∙ add-mod_right (i - w) w ∙ mod-eq_of_lt below) in
          get_or-append_right (bits_of w n) (bits_of w n) w i false long high ∙ ap (λ j. get_or (bits_of w n) j false) same)
    ]

-- the bits of a number that is turned
pub turned_bits : (w n by i : ℕ) → n < 2 ^ w → by < w → i < w
    → get_or (bits_of w ((n * 2 ^ w + n) / 2 ^ by)) i false ≡ get_or (bits_of w n) ((w - by + i) % w) false
turned_bits w n by i small b h =
    let D : ℕ = n * 2 ^ w + n in
    ap (λ l. get_or l i false) (sym (bits_of-middle (w - by) w by (w + w) D (omega arith)))
    ∙ get_or-take w (drop (w - by) (bits_of (w + w) D)) i false h
    ∙ get_or-drop (w - by) (bits_of (w + w) D) i false
    ∙ bit_of_double w n (w - by + i) small (omega arith)

-- ---- sets of columns
-- whether a number has a bit, as a remainder
bit_is : (w n i : ℕ) → i < w → get_or (bits_of w n) i false ≡ true → n / 2 ^ (w - 1 - i) % 2 ≡ 1
bit_is w n i h e = eqb-true (n / 2 ^ (w - 1 - i) % 2) 1 (sym (get_or-bits_of w n i h) ∙ e)

bit_from : (w n i : ℕ) → i < w → n / 2 ^ (w - 1 - i) % 2 ≡ 1 → get_or (bits_of w n) i false ≡ true
bit_from w n i h e = get_or-bits_of w n i h ∙ eq-eqb (n / 2 ^ (w - 1 - i) % 2) 1 e

-- zero has no bit
no_bit : (w i : ℕ) → i < w → get_or (bits_of w 0) i false ≡ true → ⊥
no_bit w i h b = omega (arith, bit_is w 0 i h b)

or_left : (w a b i : ℕ) → i < w → get_or (bits_of w a) i false ≡ true → get_or (bits_of w (bit_or a b)) i false ≡ true
or_left w a b i h e = bit_from w (bit_or a b) i h (omega (arith, bit_is w a i h e, bit_at_or a b (w - 1 - i)))

or_right : (w a b i : ℕ) → i < w → get_or (bits_of w b) i false ≡ true → get_or (bits_of w (bit_or a b)) i false ≡ true
or_right w a b i h e = bit_from w (bit_or a b) i h (omega (arith, bit_is w b i h e, bit_at_or a b (w - 1 - i)))

and_both : (w a b i : ℕ) → i < w → get_or (bits_of w a) i false ≡ true → get_or (bits_of w b) i false ≡ true
    → get_or (bits_of w (bit_and a b)) i false ≡ true
and_both w a b i h e f =
    bit_from w (bit_and a b) i h (omega (arith, bit_is w a i h e, bit_is w b i h f, bit_at_and a b (w - 1 - i)))

-- ---- lines
-- a line more
pub seen_more : (bits : List Bool) (line once twice here next new_once new_twice : ℕ) → AreSeen bits line once twice
    → ((i : ℕ) → i < 15 → get_or (bits_of 15 here) i false ≡ get_or bits (line_place line i) false)
    → next ≡ line + 1 → new_once ≡ bit_or once here → new_twice ≡ bit_or twice (bit_and once here)
    → AreSeen bits next new_once new_twice
seen_more bits line once twice here next new_once new_twice before is e f g = rw (e, f, g) (record {
  seen = λ i k h l p. elim (cases_eq k line) [
    | inl same ↦ or_right 15 once here i h (now i k h same p)
    | inr apart ↦ or_left 15 once here i h (before.seen i k h (omega arith) p)
  ];
  again = λ i k m h l b p q. elim (cases_eq m line) [
    | inl same ↦ or_right 15 twice (bit_and once here) i h
        (and_both 15 once here i h (before.seen i k h (omega arith) p) (now i m h same q))
    | inr apart ↦ or_left 15 twice (bit_and once here) i h (before.again i k m h l (omega arith) p q)
  ];
})
  where
    now : (i k : ℕ) → i < 15 → k ≡ line → get_or bits (line_place k i) false ≡ true → get_or (bits_of 15 here) i false ≡ true
    now i k h same e = is i h ∙ subst (λ (n : ℕ). get_or bits (line_place n i) false ≡ true) same e

-- the line of a cell, and the bit of its column
in_line : (r c : ℕ) → r < 13 → c < 15 → place r c ≡ line_place ((place r c - 1) / 15) (7 * (c + 3) % 15)
in_line r c h l =
    let next : 1 + (15 * r + c) ≡ 1 + 15 * r + c = omega arith in
    let turn : 7 * (15 * r + c + 3) % 15 ≡ 7 * (c + 3) % 15 = omega arith in
    ap (λ m. 181 * m % 196) (sym next)
    ∙ all (15 * r + c) (omega arith)
    ∙ ap (λ m. line_place ((181 * m % 196 - 1) / 15) (7 * (15 * r + c + 3) % 15)) next
    ∙ ap (line_place ((place r c - 1) / 15)) turn
  where
    all : (n : ℕ) → n < 195 → 181 * (1 + n) % 196 ≡ line_place ((181 * (1 + n) % 196 - 1) / 15) (7 * (n + 3) % 15)
    all n h = eqb-true (181 * (1 + n) % 196) (line_place ((181 * (1 + n) % 196 - 1) / 15) (7 * (n + 3) % 15))
        (agree_below_at (λ n. eqb (181 * (1 + n) % 196) (line_place ((181 * (1 + n) % 196 - 1) / 15) (7 * (n + 3) % 15)))
        (λ n. true) 195 n refl h)

-- ---- columns
same_or_not : (a b : Bool) → (a ≡ b) ⊎ (xor a b ≡ true)
same_or_not true true = inl refl
same_or_not true false = inr refl
same_or_not false true = inr refl
same_or_not false false = inl refl

-- two cells of a column are not both set
two_cells : (wrong : List Bool) (once r s c : ℕ) → r < 13 → s < 13 → c < 15 → s ≢ r → AreSeen wrong 13 once 0
    → cell wrong r c ≡ true → cell wrong s c ≡ true → ⊥
two_cells wrong once r s c h k l apart each e f =
    let i : ℕ = 7 * (c + 3) % 15 in
    let inside : i < 15 = omega arith in
    let here : ℕ = (place r c - 1) / 15 in
    let there : ℕ = (place s c - 1) / 15 in
    let below : here < 13 = (let p : place r c < 196 = place_below r c in omega arith) in
    let below_there : there < 13 = (let p : place s c < 196 = place_below s c in omega arith) in
    let at_here : get_or wrong (line_place here i) false ≡ true = ap (λ p. get_or wrong p false) (sym (in_line r c h l)) ∙ e in
    let at_there : get_or wrong (line_place there i) false ≡ true = ap (λ p. get_or wrong p false) (sym (in_line s c k l)) ∙ f in
    elim (cases_lt here there) [
      | inl before ↦ no_bit 15 i inside (each.again i here there inside before below_there at_here at_there)
      | inr behind ↦
          elim (cases_eq here there) [
            | inl same ↦
                (let one : place r c ≡ place s c = in_line r c h l ∙ ap (λ n. line_place n i) same ∙ sym (in_line s c k l) in
                let number : 1 + 15 * r + c ≡ 1 + 15 * s + c = sym (unplace (1 + 15 * r + c) (omega arith))
                ∙ ap (λ p. 13 * p % 196) one ∙ unplace (1 + 15 * s + c) (omega arith) in
                apart (omega arith))
            | inr other ↦ no_bit 15 i inside (each.again i there here inside (omega arith) below at_there at_here)
          ]
    ]

-- words differ at most once in each column where no column is seen twice in what they differ in
pub near_columns : (word bits : List Bool) (once : ℕ) → length word ≡ 196 → length bits ≡ 196
    → AreSeen (xor_bits word bits) 13 once 0 → (c : ℕ) → c < 15 → distance (column word c) (column bits c) ≤ 1
near_columns word bits once e f each c h =
    let wrong : List Bool = xor_bits word bits in
    let long : length (column word c) ≡ length (column bits c) = length-column word c ∙ sym (length-column bits c) in
    let sum : (r : ℕ) → cell wrong r c ≡ xor (cell word r c) (cell bits r c) =
    λ r. get_or-xor_bits word bits (place r c) (omega (arith, place_below r c)) (omega (arith, place_below r c)) in
    elim (all_or_one 13 (λ r. cell word r c ≡ cell bits r c) (λ r. xor (cell word r c) (cell bits r c) ≡ true)
    (λ r. same_or_not (cell word r c) (cell bits r c))) [
      | inl all ↦ agree_but_one (column word c) (column bits c) 0 long (λ r l apart.
          let b : r < 13 = omega (arith, length-column bits c) in
          get_or-column word r c b ∙ all r b ∙ sym (get_or-column bits r c b))
      | inr one ↦ (let (r, l, differ) = one in
          agree_but_one (column word c) (column bits c) r long (λ s m apart.
          let b : s < 13 = omega (arith, length-column bits c) in
          get_or-column word s c b
          ∙ elim (same_or_not (cell word s c) (cell bits s c)) [
            | inl same ↦ same
            | inr other ↦ absurd (two_cells wrong once r s c l b h apart each (sum r ∙ differ) (sum s ∙ other))
          ]
          ∙ sym (get_or-column bits s c b)))
    ]
