-- Columns of four bits, one behind the other in a number.
use Rattle.std.proofs.Common.{◌≡◌, ℕ, suc, ◌+◌, ◌-◌, ◌*◌, ◌^◌, ◌<◌, ◌≤◌, Bool, false, List, ◌++◌, length, get_or, sym, ◌∙◌, ap}
use Rattle.std.proofs.Common.{arith, inl, inr}
use Rattle.std.proofs.Math.Nat.{pow-le-pow_right}
use Rattle.std.proofs.lemmas.Bool.{cases_lt}
use Rattle.std.proofs.lemmas.List.{get_or_append_left, get_or-append_right}
use Rattle.dmr_bits.specs.Bits.{bits_of}
use Rattle.dmr_bits.proofs.Lists.{length-bits_of, pow_suc}
use Rattle.dmr_bits.proofs.Widths.{bits_of-join}

-- sixteen times as much
pow_four : (k : ℕ) → 2 ^ (4 * (k + 1)) ≡ 16 * 2 ^ (4 * k)
pow_four k =
    let e : 4 * (k + 1) ≡ suc (suc (suc (suc (4 * k)))) = omega arith in
    ap (λ n. 2 ^ n) e
    ∙ omega (
      arith,
      pow_suc (4 * k),
      pow_suc (suc (4 * k)),
      pow_suc (suc (suc (4 * k))),
      pow_suc (suc (suc (suc (4 * k)))),
    )

-- a number of columns with one more behind it has four bits more
pub more_fits : (k n v : ℕ) → n < 2 ^ (4 * k) → v < 16 → 16 * n + v < 2 ^ (4 * (k + 1))
more_fits k n v h l = omega (arith, pow_four k, h, l)

-- up to fifteen columns leave room for one more in 64 bits
pub has_room : (k n : ℕ) → n < 2 ^ (4 * k) → k < 16 → n < 2 ^ 60
has_room k n h l =
    let wide : 2 ^ (4 * k) ≤ 2 ^ 60 = pow-le-pow_right (omega arith) {i = 4 * k} {j = 60} (omega arith) in
    omega (arith, h, wide)

-- the cells of columns with one more behind them
pub more_cells : (f : ℕ → ℕ → Bool) (k n v : ℕ) → v < 16
    → ((r c : ℕ) → r < 4 → c < k → get_or (bits_of (4 * k) n) (4 * c + r) false ≡ f r c)
    → ((r : ℕ) → r < 4 → get_or (bits_of 4 v) r false ≡ f r k)
    → (r c : ℕ) → r < 4 → c < k + 1 → get_or (bits_of (4 * (k + 1)) (16 * n + v)) (4 * c + r) false ≡ f r c
more_cells f k n v small before new r c h l =
    let whole : 4 * (k + 1) ≡ 4 * k + 4 = omega arith in
    let same : 16 * n + v ≡ n * 2 ^ 4 + v = omega arith in
    let join : bits_of (4 * (k + 1)) (16 * n + v) ≡ bits_of (4 * k) n ++ bits_of 4 v =
    ap (bits_of (4 * (k + 1))) same ∙ bits_of-join (4 * k) 4 (4 * (k + 1)) n v whole small in
    let long : length (bits_of (4 * k) n) ≡ 4 * k = length-bits_of (4 * k) n in
    ap (λ x. get_or x (4 * c + r) false) join
    ∙ elim (cases_lt c k) [
      | inl low ↦ get_or_append_left (bits_of (4 * k) n) (bits_of 4 v) false (4 * c + r) (omega arith) ∙ before r c h low
      | inr high ↦
          let here : c ≡ k = omega arith in
          let place : 4 * c + r - 4 * k ≡ r = omega arith in
          get_or-append_right (bits_of (4 * k) n) (bits_of 4 v) (4 * k) (4 * c + r) false long (omega arith)
          ∙ ap (λ i. get_or (bits_of 4 v) i false) place ∙ new r h ∙ ap (f r) (sym here)
    ]

-- the cells of sixteen columns in 64 bits, and of one behind them
pub all_cells : (f : ℕ → ℕ → Bool) (first last : List Bool) → length first ≡ 64
    → ((r c : ℕ) → r < 4 → c < 16 → get_or first (4 * c + r) false ≡ f r c)
    → ((r : ℕ) → r < 4 → get_or last r false ≡ f r 16)
    → (r c : ℕ) → r < 4 → c < 17 → get_or (first ++ last) (4 * c + r) false ≡ f r c
all_cells f first last long before new r c h l =
    elim (cases_lt c 16) [
      | inl low ↦ get_or_append_left first last false (4 * c + r) (omega arith) ∙ before r c h low
      | inr high ↦
          let here : c ≡ 16 = omega arith in
          let place : 4 * c + r - 64 ≡ r = omega arith in
          get_or-append_right first last 64 (4 * c + r) false long (omega arith)
          ∙ ap (λ i. get_or last i false) place ∙ new r h ∙ ap (f r) (sym here)
    ]
