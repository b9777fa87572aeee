-- Cells that are read into a number, one after the other.
use Rattle.std.proofs.Common.{◌≡◌, ℕ, ◌+◌, ◌-◌, ◌*◌, ◌^◌, ◌<◌, ◌≤◌, Bool, true, false, cond, List, [], ◌∷◌, ◌++◌, length}
use Rattle.std.proofs.Common.{take, drop, get_or, refl, sym, ap, ◌∙◌, arith, inl, inr}
use Rattle.std.proofs.lemmas.Bool.{cases_eq, cases_lt}
use Rattle.std.proofs.lemmas.List.{get_or_append_left, get_or-append_right, get_or_at, length-append, length-take-le}
use Rattle.std.proofs.lemmas.List.{get_or-take}
use Rattle.std.proofs.lemmas.Nat.{mul-add-lt, pow-add}
use Rattle.std.proofs.Math.Nat.{mul_comm}
use mir.Val.{bool_byte}
use Rattle.dmr_bits.specs.Bits.{bits_of}
use Rattle.dmr_bits.proofs.Lists.{length-bits_of, bits_of_push}
use Rattle.dmr_bits.proofs.Widths.{bits_of-join}

-- a bit as a byte is one where it is set, and else zero
pub byte_is : (b : Bool) → bool_byte b ≡ cond b 1 0
byte_is true = refl
byte_is false = refl

-- a bit as a number is below two
pub byte_small : (b : Bool) → cond b 1 0 < 2
byte_small true = omega arith
byte_small false = omega arith

-- and is read behind the others
pub cells_more : (f : ℕ → Bool) (k n byte : ℕ) (bit : Bool) → n < 2 ^ k → byte ≡ bool_byte bit → bit ≡ f k
    → ((i : ℕ) → i < k → get_or (bits_of k n) i false ≡ f i) → (i : ℕ) → i < k + 1
    → get_or (bits_of (k + 1) (2 * n + byte)) i false ≡ f i
cells_more f k n byte bit h e is before i below =
    let long : length (bits_of k n) ≡ k = length-bits_of k n in
    let pushed : bits_of (k + 1) (2 * n + byte) ≡ bits_of k n ++ bit ∷ [] = ap (λ m. bits_of (k + 1) (2 * n + m)) (e ∙ byte_is bit)
    ∙ bits_of_push k n bit h in
    ap (λ l. get_or l i false) pushed
    ∙ elim (cases_eq i k) [
      | inl same ↦ ap (λ j. get_or (bits_of k n ++ bit ∷ []) j false) same ∙ get_or_at (bits_of k n) bit [] false k long ∙ is
          ∙ ap f (sym same)
      | inr apart ↦ get_or_append_left (bits_of k n) (bit ∷ []) false i (omega arith) ∙ before i (omega arith)
    ]

-- the first field is written
pub field_first : (f : ℕ → Bool) (bits : List Bool) (width n : ℕ) → ((k : ℕ) → k < width → get_or (bits_of width n) k false ≡ f k)
    → (k : ℕ) → k < width → get_or (take 0 bits ++ bits_of width n ++ drop (0 + width) bits) k false ≡ f k
field_first f bits width n new k h =
    let long : length (bits_of width n) ≡ width = length-bits_of width n in
    get_or_append_left (bits_of width n) (drop (0 + width) bits) false k (omega arith) ∙ new k h

-- a field more is written
pub field_more : (f : ℕ → Bool) (bits : List Bool) (at width n : ℕ) → at + width ≤ length bits
    → ((k : ℕ) → k < at → get_or bits k false ≡ f k) → ((k : ℕ) → k < width → get_or (bits_of width n) k false ≡ f (at + k))
    → (k : ℕ) → k < at + width → get_or (take at bits ++ bits_of width n ++ drop (at + width) bits) k false ≡ f k
field_more f bits at width n room before new k h =
    let F : List Bool = take at bits in
    let P : List Bool = bits_of width n in
    let long : length F ≡ at = length-take-le at bits (omega arith) in
    let wide : length (F ++ P) ≡ at + width = length-append F P ∙ (rw (long, length-bits_of width n) refl) in
    get_or_append_left (F ++ P) (drop (at + width) bits) false k (omega arith)
    ∙ elim (cases_lt k at) [
      | inl low ↦ get_or_append_left F P false k (omega arith) ∙ get_or-take at bits k false low ∙ before k low
      | inr high ↦
          let back : at + (k - at) ≡ k = omega arith in
          get_or-append_right F P at k false long high ∙ new (k - at) (omega arith) ∙ ap f back
    ]

-- several cells more fit
pub joined_fits : (k w n m : ℕ) → n < 2 ^ k → m < 2 ^ w → n * 2 ^ w + m < 2 ^ (k + w)
joined_fits k w n m p q = omega (arith, mul-add-lt n (2 ^ w) m (2 ^ k) p q, pow-add 2 k w, mul_comm (2 ^ w) (2 ^ k))

-- and are read behind the others
pub joined_more : (f : ℕ → Bool) (k w n m : ℕ) → m < 2 ^ w → ((i : ℕ) → i < k → get_or (bits_of k n) i false ≡ f i)
    → ((i : ℕ) → i < w → get_or (bits_of w m) i false ≡ f (k + i)) → (i : ℕ) → i < k + w
    → get_or (bits_of (k + w) (n * 2 ^ w + m)) i false ≡ f i
joined_more f k w n m small before new i h =
    let long : length (bits_of k n) ≡ k = length-bits_of k n in
    ap (λ l. get_or l i false) (bits_of-join k w (k + w) n m refl small)
    ∙ elim (cases_lt i k) [
      | inl low ↦ get_or_append_left (bits_of k n) (bits_of w m) false i (omega arith) ∙ before i low
      | inr high ↦
          let back : k + (i - k) ≡ i = omega arith in
          get_or-append_right (bits_of k n) (bits_of w m) k i false long high ∙ new (i - k) (omega arith) ∙ ap f back
    ]
