-- Numbers that grow by a bit in each of their parts.
use Rattle.std.proofs.Common.{◌≡◌, ℕ, ◌+◌, ◌-◌, ◌*◌, ◌/◌, ◌%◌, ◌^◌, ◌==◌, ◌<◌, ◌≤◌, Bool, false, cond, zero, suc, List, length}
use Rattle.std.proofs.Common.{take, drop, get_or, refl, sym, ap, ◌∙◌, arith}
use Rattle.std.proofs.lemmas.List.{length-take-le, length-drop, get_or-take, get_or-drop}
use Rattle.std.proofs.Math.Pow.{pow_mono}
use Rattle.dmr_bits.specs.Bits.{bits_of, number_of}
use Rattle.dmr_bits.proofs.Lists.{bits_of_spelled, get_or-bits_of, pow_suc}
use Rattle.dmr_bits.proofs.Widths.{bits_of-mod, bits_of-middle}
use Rattle.dmr_bptc.specs.Spread.{four}
use Rattle.dmr_bptc.proofs.Numbered.{byte_is, byte_small, cells_more, joined_more}

-- the number that the first bits of a function spell
abbrev pub spelled : (ℕ → Bool) → ℕ → ℕ
spelled f zero = 0
spelled f (suc m) = 2 * spelled f m + cond (f m) 1 0

-- one bit more doubles the number and adds the bit
pub spelled_more : (f : ℕ → Bool) (m : ℕ) → spelled f (m + 1) ≡ 2 * spelled f m + cond (f m) 1 0
spelled_more f m = let next : m + 1 ≡ suc m = omega arith in ap (spelled f) next

pub spelled_small : (f : ℕ → Bool) (m : ℕ) → spelled f m < 2 ^ m
spelled_small f zero = omega arith
spelled_small f (suc m) = omega (arith, spelled_small f m, pow_suc m, byte_small (f m))

spelled_bits : (f : ℕ → Bool) (m i : ℕ) → i < m → get_or (bits_of m (spelled f m)) i false ≡ f i
spelled_bits f zero i h = absurd (omega arith)
spelled_bits f (suc m) i h =
    let next : suc m ≡ m + 1 = omega arith in
    ap (λ k. get_or (bits_of k (2 * spelled f m + cond (f m) 1 0)) i false) next
    ∙ cells_more f m (spelled f m) (cond (f m) 1 0) (f m) (spelled_small f m) (sym (byte_is (f m))) refl (spelled_bits f m) i
    (omega arith)

-- all of its bits
pub spelled_at : (f : ℕ → Bool) (m width i : ℕ) → m ≡ width → i < width → get_or (bits_of width (spelled f m)) i false ≡ f i
spelled_at f m width i e h =
    ap (λ k. get_or (bits_of k (spelled f m)) i false) (sym e) ∙ spelled_bits f m i (omega arith)

-- it fits more bits too
pub spelled_below : (f : ℕ → Bool) (m width : ℕ) → m ≤ width → spelled f m < 2 ^ width
spelled_below f m width h = omega (arith, spelled_small f m, pow_mono {i = m} {j = width} h)

-- the bits of four numbers side by side
pub four_at : (f : ℕ → Bool) (w a b c d : ℕ) → b < 2 ^ w → c < 2 ^ w → d < 2 ^ w
    → ((i : ℕ) → i < w → get_or (bits_of w a) i false ≡ f i)
    → ((i : ℕ) → i < w → get_or (bits_of w b) i false ≡ f (w + i))
    → ((i : ℕ) → i < w → get_or (bits_of w c) i false ≡ f (w + w + i))
    → ((i : ℕ) → i < w → get_or (bits_of w d) i false ≡ f (w + w + w + i)) → (i : ℕ) → i < w + w + w + w
    → get_or (bits_of (w + w + w + w) (four w a b c d)) i false ≡ f i
four_at f w a b c d small_b small_c small_d at_a at_b at_c at_d =
    joined_more f (w + w + w) w ((a * 2 ^ w + b) * 2 ^ w + c) d small_d
    (joined_more f (w + w) w (a * 2 ^ w + b) c small_c (joined_more f w w a b small_b at_a at_b) at_c) at_d

bit_value : (q : ℕ) → q < 2 → cond (q == 1) 1 0 ≡ q
bit_value zero h = refl
bit_value (suc zero) h = refl
bit_value (suc (suc q)) h = absurd (omega arith)

-- the bits of a field that is read
pub field_at : (bits : List Bool) (at width n i : ℕ) → at + width ≤ length bits → n ≡ number_of (take width (drop at bits))
    → i < width → get_or (bits_of width n) i false ≡ get_or bits (at + i) false
field_at bits at width n i room is h =
    let part : List Bool = take width (drop at bits) in
    let long : length part ≡ width = length-take-le width (drop at bits) (rw length-drop (omega arith)) in
    ap (λ m. get_or (bits_of width m) i false) is ∙ ap (λ l. get_or l i false) (bits_of_spelled width part long)
    ∙ get_or-take width (drop at bits) i false h ∙ get_or-drop at bits i false

-- each bit of the number that a field spells is the field's bit at that place
pub field_bit : (bits : List Bool) (at width n i : ℕ) → at + width ≤ length bits → n ≡ number_of (take width (drop at bits))
    → i < width → n / 2 ^ (width - 1 - i) % 2 ≡ cond (get_or bits (at + i) false) 1 0
field_bit bits at width n i room is h =
    let q : ℕ = n / 2 ^ (width - 1 - i) % 2 in
    sym (bit_value q (omega arith)) ∙ ap {B = ℕ} (λ b. cond b 1 0) (sym (get_or-bits_of width n i h)
    ∙ field_at bits at width n i room is h)

-- the bits of a field within another
pub inner_at : (bits : List Bool) (at total n from width below i : ℕ) → at + total ≤ length bits
    → n ≡ number_of (take total (drop at bits)) → total ≡ from + (width + below) → i < width
    → get_or (bits_of width (n / 2 ^ below % 2 ^ width)) i false ≡ get_or bits (at + (from + i)) false
inner_at bits at total n from width below i room is e h =
    ap (λ l. get_or l i false) (bits_of-mod width (n / 2 ^ below) ∙ sym (bits_of-middle from width below total n e))
    ∙ get_or-take width (drop from (bits_of total n)) i false h ∙ get_or-drop from (bits_of total n) i false
    ∙ field_at bits at total n (from + i) room is (omega arith)

-- and one of them as a number
pub inner_bit : (bits : List Bool) (at total n from width below i : ℕ) → at + total ≤ length bits
    → n ≡ number_of (take total (drop at bits)) → total ≡ from + (width + below) → i < width
    → n / 2 ^ below % 2 ^ width / 2 ^ (width - 1 - i) % 2 ≡ cond (get_or bits (at + (from + i)) false) 1 0
inner_bit bits at total n from width below i room is e h =
    let m : ℕ = n / 2 ^ below in
    let q : ℕ = m % 2 ^ width / 2 ^ (width - 1 - i) % 2 in
    sym (bit_value q (omega arith))
    ∙ ap {B = ℕ} (λ b. cond b 1 0) (sym (get_or-bits_of width (m % 2 ^ width) i h)
    ∙ inner_at bits at total n from width below i room is e h)
