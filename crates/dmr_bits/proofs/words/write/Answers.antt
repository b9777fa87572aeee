use Rattle.std.proofs.Common.{◌≡◌, ℕ, ◌+◌, ◌-◌, ◌*◌, ◌/◌, ◌%◌, ◌^◌, ◌<◌, List, Bool, ◌++◌, take, drop, set}
use Rattle.std.proofs.Common.{length-set, ap, ◌∙◌, arith}
use Rattle.std.proofs.lemmas.List.Elements.{All-from_get_or}
use Rattle.std.proofs.lemmas.Nat.{shr_below}
use Rattle.dmr_bits.specs.Bits.{bits_of}
use Rattle.dmr_bits.specs.Words.{bits_of_words}
use Rattle.dmr_bits.proofs.Lists.{length-bits_of}
use Rattle.dmr_bits.proofs.Widths.{halves_bits}
use Rattle.dmr_bits.proofs.WordLists.{put_in_word, put_in_two, small_set}
use Rattle.dmr_bits.proofs.words.write.Goals as goal

pub returns-then-place-width-le64-clause-value : goal.returns-then-place-width-le64-clause-value
returns-then-place-width-le64-clause-value c =
    put_in_word c.args.words.now c.args.at (c.args.at / 64) (c.args.at % 64) c.args.width c.write_word.result
    (bits_of c.args.width c.args.value) (omega arith) (omega arith) c.if-place-width-le64.true c.write_word.ensures.value

pub returns-then-place-width-le64-clause-small : goal.returns-then-place-width-le64-clause-small
returns-then-place-width-le64-clause-small c =
    let Small : ℕ → Type 0 = λ n. n < 18446744073709551616 in
    All-from_get_or Small _ 0
    (λ k h. small_set c.args.words.now (c.args.at / 64) c.write_word.result (omega arith) c.fits-words c.write_word.type_inv k)

pub write_word-requires-2-clause-fits : goal.write_word-requires-2-clause-fits
write_word-requires-2-clause-fits c =
    let e : 64 - c.args.at % 64 + (c.args.at % 64 + c.args.width - 64) ≡ c.args.width = omega arith in
    let p : c.args.value < 2 ^ (64 - c.args.at % 64 + (c.args.at % 64 + c.args.width - 64)) = rw e c.requires.fits in
    shr_below c.args.value (64 - c.args.at % 64) (c.args.at % 64 + c.args.width - 64) p

pub returns-clause-value : goal.returns-clause-value
returns-clause-value c =
    let r : ℕ = c.args.at % 64 in
    let a : ℕ = 64 - r in
    let b : ℕ = r + c.args.width - 64 in
    let e : a + b ≡ c.args.width = omega arith in
    let f : c.args.at + a + b ≡ c.args.at + c.args.width = omega arith in
    let p : c.args.value < 2 ^ (a + b) = rw e c.requires.fits in
    let B : List Bool = bits_of_words c.args.words.now in
    let H : List Bool = bits_of a (c.args.value / 2 ^ b) in
    let L : List Bool = bits_of b (c.args.value - c.args.value / 2 ^ b * 2 ^ b % 18446744073709551616) in
    put_in_two c.args.words.now c.args.at (c.args.at / 64) r a b c.write_word-2.result c.write_word-3.result H L (omega arith)
    (omega arith) (omega arith) (omega arith) (length-bits_of a (c.args.value / 2 ^ b)) c.write_word-2.ensures.value
    c.write_word-3.ensures.value
    ∙ ap (λ l. take c.args.at B ++ (l ++ drop (c.args.at + a + b) B)) (halves_bits c.args.value a b (omega arith) p
    ∙ ap (λ n. bits_of n c.args.value) e)
    ∙ ap (λ n. take c.args.at B ++ (bits_of c.args.width c.args.value ++ drop n B)) f

pub returns-clause-small : goal.returns-clause-small
returns-clause-small c =
    let Small : ℕ → Type 0 = λ n. n < 18446744073709551616 in
    All-from_get_or Small _ 0 (λ k h.
    small_set (set c.args.words.now (c.args.at / 64) c.write_word-2.result) (c.args.at / 64 + 1) c.write_word-3.result
    (omega (arith, length-set c.args.words.now (c.args.at / 64) c.write_word-2.result))
    (small_set c.args.words.now (c.args.at / 64) c.write_word-2.result (omega arith) c.fits-words c.write_word-2.type_inv)
    c.write_word-3.type_inv k)
