use Rattle.std.proofs.Common.{◌≡◌, ◌↔◌, ℕ, ◌+◌, ◌-◌, ◌/◌, ◌%◌, ◌^◌, ◌==◌, ◌<◌, Bool, true, false, List, zero, suc, get_or}
use Rattle.std.proofs.Common.{refl, sym, ap, ◌∙◌, arith, inl, inr, eqb, eqb-true}
use Rattle.std.specs.Prelude.{bit_and, bit_xor}
use Rattle.std.proofs.lemmas.Bool.{agree_below_at, cases_eq, eq-eqb}
use Rattle.std.proofs.lemmas.Nat.{and_le_l}
use Rattle.std.proofs.lemmas.Nat.Bits.{bit_at_and, bit_at_xor, same_from_bits_below}
use Rattle.dmr_bits.proofs.Lists.{get_or-bits_of}
use Rattle.dmr_bptc.specs.Sums.{fails, failing_in}
use Rattle.dmr_bptc.proofs.table.checks.columns_with.Goals.{then-checks-check-eq1, else-checks-check-eq1}
use Rattle.dmr_bptc.proofs.table.checks.columns_with.Goals as goal

all_columns : (c : ℕ) → c < 15 → 32767 / 2 ^ (14 - c) % 2 ≡ 1
all_columns c h =
    eqb-true (32767 / 2 ^ (14 - c) % 2) 1 (agree_below_at (λ i. eqb (32767 / 2 ^ (14 - i) % 2) 1) (λ i. true) 15 c refl h)

-- the columns that fit one check more
check_more : (failing : List ℕ) (checks check columns fitting : ℕ)
    → ((c : ℕ) → c < 15 → (columns / 2 ^ (14 - c) % 2 ≡ 1) ↔ ((j : ℕ) → j < check → fails failing j c ≡ checks / 2 ^ j % 2))
    → ((c : ℕ) → c < 15 → (fitting / 2 ^ (14 - c) % 2 ≡ 1) ↔ (fails failing check c ≡ checks / 2 ^ check % 2)) → (c : ℕ) → c < 15
    → (bit_and columns fitting / 2 ^ (14 - c) % 2 ≡ 1) ↔ ((j : ℕ) → j < check + 1 → fails failing j c ≡ checks / 2 ^ j % 2)
check_more failing checks check columns fitting left fits c h =
    let both = bit_at_and columns fitting (14 - c) in (
      λ e j l. elim (cases_eq j check) [
        | inl same ↦ rw same ((fits c h).0 (omega arith))
        | inr apart ↦ (left c h).0 (omega arith) j (omega arith)
      ],
      λ all. (let before = (left c h).1 (λ j l. all j (omega arith)) in
          let last = (fits c h).1 (all check (omega arith)) in
          omega arith),
    )

pub loop-check-init : goal.loop-check-init
loop-check-init c = record { left = λ k h. (λ e j l. absurd (omega arith), λ all. all_columns k h); fits = omega arith }

pub loop-check-preserved : goal.loop-check-preserved
loop-check-preserved c =
    let failing : List ℕ = c.args.failing.now in
    let i : ℕ = c.loop-check.check in
    let sum : ℕ = get_or failing i 0 in
    elim c.if-checks-check-eq1.branch [
      | then-checks-check-eq1 w ↦ rw w.columns-is (record {
        left = check_more failing c.args.checks i c.loop-check.columns sum c.loop-check.invariant.left
            (λ k h. (λ e. omega (arith, e, w.if-checks-check-eq1.true), λ e. omega (arith, e, w.if-checks-check-eq1.true)));
        fits = and_small c.loop-check.columns sum c.loop-check.invariant.fits;
      })
      | else-checks-check-eq1 w ↦ rw w.columns-is (record {
        left = check_more failing c.args.checks i c.loop-check.columns (bit_xor 32767 sum) c.loop-check.invariant.left
            (λ k h. (
              λ e. omega (arith, e, w.if-checks-check-eq1.false, bit_at_xor 32767 sum (14 - k), all_columns k h),
              λ e. omega (arith, e, w.if-checks-check-eq1.false, bit_at_xor 32767 sum (14 - k), all_columns k h),
            ));
        fits = and_small c.loop-check.columns (bit_xor 32767 sum) c.loop-check.invariant.fits;
      })
    ]
  where
    and_small : (a b : ℕ) → a < 2 ^ 15 → bit_and a b < 2 ^ 15
    and_small a b h = omega (arith, and_le_l a b)

same_test : (a b s k : ℕ) → (a ≡ b → s ≡ k) → (s ≡ k → a ≡ b) → (a == b) ≡ (s == k)
same_test a b s k there back = go (a == b) (s == k) refl refl
  where
    go : (p q : Bool) → (a == b) ≡ p → (s == k) ≡ q → p ≡ q
    go true true e f = refl
    go false false e f = refl
    go true false e f = sym (eq-eqb s k (there (eqb-true a b e))) ∙ f
    go false true e f = sym e ∙ eq-eqb a b (back (eqb-true s k f))

fails_bit : (failing : List ℕ) (c j : ℕ) → j < 4 → failing_in failing c / 2 ^ j % 2 ≡ fails failing j c
fails_bit failing c zero h = omega arith
fails_bit failing c (suc zero) h = omega arith
fails_bit failing c (suc (suc zero)) h = omega arith
fails_bit failing c (suc (suc (suc zero))) h = omega arith
fails_bit failing c (suc (suc (suc (suc j)))) h = absurd (omega arith)

pub returns-clause-value : goal.returns-clause-value
returns-clause-value c k h =
    let failing : List ℕ = c.args.failing.now in
    let columns : ℕ = c.loop-check.columns in
    get_or-bits_of 15 columns k h
    ∙ same_test (columns / 2 ^ (14 - k) % 2) 1 (failing_in failing k) c.args.checks
    (λ e. same_from_bits_below 4 (failing_in failing k) c.args.checks (omega arith) c.requires.checks
    (λ j l. fails_bit failing k j l ∙ (c.loop-check.invariant.left k h).0 e j (omega arith)))
    (λ e. (c.loop-check.invariant.left k h).1
    (λ j l. let inside : j < 4 = omega arith in
    sym (fails_bit failing k j inside) ∙ ap (λ n. n / 2 ^ j % 2) e))
