use Rattle.std.proofs.Common.{◌≡◌, ℕ, ◌+◌, ◌-◌, ◌*◌, ◌/◌, ◌%◌, ◌^◌, ◌<◌, ◌≤◌, Bool, get_or, false, ap, ◌∙◌, sym, subst, arith}
use Rattle.std.proofs.Math.Pow.{pow_mono}
use Rattle.dmr_bits.specs.Bits.{bits_of}
use Rattle.dmr_bptc.specs.ProductWord.{cell}
use Rattle.dmr_bptc.proofs.Numbered.{joined_fits, joined_more}
use Rattle.dmr_bptc.proofs.decoding.gather_rows.Goals as goal

pub overflow_mul-number : goal.overflow_mul-number
overflow_mul-number c =
    let few : 11 * (c.loop-row.row - c.args.from) ≤ 44 = omega arith in
    omega (arith, c.loop-row.invariant.fits, pow_mono few)

pub overflow_add-number : goal.overflow_add-number
overflow_add-number c =
    let few : 11 * (c.loop-row.row - c.args.from) ≤ 44 = omega arith in
    omega (arith, c.first_cells.ensures.fits, c.loop-row.invariant.fits, pow_mono few)

pub loop-row-preserved : goal.loop-row-preserved
loop-row-preserved c =
    let from : ℕ = c.args.from in
    let w : ℕ = 11 * (c.loop-row.row - from) in
    let n : ℕ = c.loop-row.number in
    let m : ℕ = c.first_cells.result in
    let f : ℕ → Bool = λ k. cell c.args.bits.now (from + k / 11) (k % 11) in
    let next : w + 11 ≡ 11 * (c.loop-row.row + 1 - from) = omega arith in
    record {
      fits = subst (λ (k : ℕ). n * 2048 + m < 2 ^ k) next
          (joined_fits w 11 n m c.loop-row.invariant.fits c.first_cells.ensures.fits);
      cells = λ k h. ap (λ j. get_or (bits_of j (n * 2048 + m)) k false) (sym next)
          ∙ joined_more f w 11 n m c.first_cells.ensures.fits c.loop-row.invariant.cells
          (λ i l. let line : c.loop-row.row ≡ from + (w + i) / 11 = omega arith in
          let across : i ≡ (w + i) % 11 = omega arith in
          c.first_cells.ensures.cells i l ∙ ap (λ r. cell c.args.bits.now r i) line
          ∙ ap (cell c.args.bits.now (from + (w + i) / 11)) across)
          k (omega arith);
    }
