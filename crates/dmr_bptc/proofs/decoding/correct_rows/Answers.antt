use Rattle.std.proofs.Common.{ℕ, ◌≢◌, Bool, List, ap, ◌∙◌, arith}
use Rattle.std.proofs.lemmas.Bool.{and_parts}
use Rattle.dmr_bptc.specs.ProductWord.{cell}
use Rattle.dmr_bptc.proofs.Filling.{rows_more}
use Rattle.dmr_bptc.proofs.Correcting.{corrected_rows_more}
use Rattle.dmr_bptc.proofs.decoding.correct_rows.Goals as goal

pub loop-row-preserved : goal.loop-row-preserved
loop-row-preserved c =
    let before : List Bool = c.args.bits.now in
    let now : List Bool = c.loop-row.bits in
    let after : List Bool = c.correct_row-was_word.new.table in
    let i : ℕ = c.loop-row.row in
    record {
      words = rows_more now after i (omega arith) c.loop-row.invariant.words c.correct_row-was_word.ensures.word
          c.correct_row-was_word.ensures.kept;
      same = λ all r d h l. (let both = and_parts c.loop-row.all c.correct_row-was_word.result all in
          ap (λ bits. cell bits r d) (c.correct_row-was_word.ensures.same both.1) ∙ c.loop-row.invariant.same both.0 r d h l);
      corrected = corrected_rows_more before now after i (omega arith) c.loop-row.invariant.corrected c.loop-row.invariant.kept
          c.correct_row-was_word.ensures.corrected c.correct_row-was_word.ensures.kept;
      kept = λ r k h l m. let apart : r ≢ i = omega arith in c.correct_row-was_word.ensures.kept r k h l apart
          ∙ c.loop-row.invariant.kept r k h l (omega arith);
    }
