use Rattle.std.proofs.Common.{ℕ, ◌-◌, ◌<◌, arith, refl}
use Rattle.std.proofs.lemmas.Nat.{xor_lt}
use Rattle.dmr_codes.specs.Seven.{hamming13_columns}
use Rattle.dmr_bptc.proofs.ColumnSums.{sum_added, sum_kept}
use Rattle.dmr_bptc.proofs.table.checks.sum_of.Goals.{then-row-check-eq1, else-row-check-eq1}
use Rattle.dmr_bptc.proofs.table.checks.sum_of.Goals as goal

pub loop-above-preserved : goal.loop-above-preserved
loop-above-preserved c =
    let a : ℕ = c.loop-above.above in
    let below : a < 13 = omega arith in
    elim c.if-row-check-eq1.branch [
      | then-row-check-eq1 w ↦ rw w.sum-is (record {
        value = sum_added c.args.check a c.loop-above.sum hamming13_columns c.args.rows.now below refl c.told-rows
            c.loop-above.invariant.value w.if-row-check-eq1.true;
        fits = xor_lt 15 c.loop-above.sum _ c.loop-above.invariant.fits (c.requires.small (12 - a) 0 (omega (arith, c.told-rows)));
      })
      | else-row-check-eq1 w ↦ rw w.sum-is (record {
        value = sum_kept c.args.check a c.loop-above.sum hamming13_columns c.args.rows.now below refl c.told-rows
            c.loop-above.invariant.value w.if-row-check-eq1.false;
        fits = c.loop-above.invariant.fits;
      })
    ]
