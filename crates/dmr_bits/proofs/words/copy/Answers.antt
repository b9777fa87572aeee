use Rattle.std.proofs.Common.{◌≡◌, ℕ, ◌+◌, ◌-◌, ◌*◌, ◌≤◌, List, Bool, ◌++◌, take, drop, length, sym, ap, ◌∙◌, arith}
use Rattle.std.proofs.lemmas.List.{length-take-le, length-drop, drop-drop}
use Rattle.dmr_bits.specs.Bits.{bits_of}
use Rattle.dmr_bits.specs.Words.{bits_of_words}
use Rattle.dmr_bits.proofs.Lists.{take_parts}
use Rattle.dmr_bits.proofs.WordLists.{length-bits_of_words, put_twice}
use Rattle.dmr_bits.proofs.words.copy.Goals as goal

pub loop-done-preserved : goal.loop-done-preserved
loop-done-preserved c =
    let at : ℕ = c.args.at in
    let done : ℕ = c.loop-done.done in
    let step : ℕ = c.min-step.result in
    let B : List Bool = bits_of_words c.args.words.now in
    let F : List Bool = bits_of_words c.args.other.now in
    let D : List Bool = drop c.args.from F in
    let H : List Bool = take done D in
    let V : List Bool = bits_of step c.read-value.result in
    let L : List Bool = bits_of_words c.loop-done.words in
    let longF : length F ≡ 320 = length-bits_of_words c.args.other.now ∙ ap (λ n. 64 * n) c.told-other in
    let longB : length B ≡ 320 = length-bits_of_words c.args.words.now ∙ ap (λ n. 64 * n) c.told-words in
    let few : step ≤ c.args.width - done = omega arith in
    let longD : length D ≡ 320 - c.args.from = length-drop c.args.from F ∙ ap (λ n. n - c.args.from) longF in
    let wide : length H ≡ done = length-take-le done D (omega arith) in
    let place : at + (done + step) ≡ at + done + step = omega arith in
    record {
      few = omega arith;
      long = c.write.ensures.long;
      small = c.write.ensures.small;
      copied = c.write.ensures.value
          ∙ ap (λ l. take (at + done) l ++ (V ++ drop (at + done + step) l)) c.loop-done.invariant.copied
          ∙ put_twice B H V at done step wide (omega arith)
          ∙ ap (λ l. take at B ++ ((H ++ l) ++ drop (at + done + step) B)) (c.read-value.ensures.value
          ∙ ap (take step) (sym (drop-drop done c.args.from F)))
          ∙ ap (λ l. take at B ++ (l ++ drop (at + done + step) B)) (sym (take_parts done step D))
          ∙ ap (λ n. take at B ++ (take (done + step) D ++ drop n B)) (sym place);
    }
