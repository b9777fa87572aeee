use Rattle.std.proofs.Common.{◌≡◌, ℕ, ◌+◌, ◌-◌, ◌*◌, ◌/◌, ◌%◌, ◌^◌, ◌<◌, ◌≤◌, List, Bool, ◌++◌, take, drop}
use Rattle.std.proofs.Common.{get_or, sym, ap, ◌∙◌, arith, subst}
use Rattle.std.proofs.Math.Pow.{pow_mono}
use Rattle.dmr_bits.specs.Bits.{bits_of}
use Rattle.dmr_bits.specs.Words.{word_bits, bits_of_words}
use Rattle.dmr_bits.proofs.Widths.{joined_fits, joined_bits}
use Rattle.dmr_bits.proofs.WordLists.{read_in_word, read_in_two}
use Rattle.dmr_bits.proofs.words.read.Goals as goal

pub returns-then-place-width-le64-clause-value : goal.returns-then-place-width-le64-clause-value
returns-then-place-width-le64-clause-value c =
    c.read_word.ensures.value
    ∙ read_in_word c.args.words.now c.args.at (c.args.at / 64) (c.args.at % 64) c.args.width (omega arith) (omega arith)
    c.if-place-width-le64.true

pub returns-clause-bound : goal.returns-clause-bound
returns-clause-bound c =
    let r : ℕ = c.args.at % 64 in
    let a : ℕ = 64 - r in
    let b : ℕ = r + c.args.width - 64 in
    let e : a + b ≡ c.args.width = omega arith in
    let P : ℕ → Type 0 = λ n. c.read_word-high.result * 2 ^ b % 18446744073709551616 + c.read_word-2.result < 2 ^ n in
    subst P e (joined_fits c.read_word-high.result c.read_word-2.result a b (omega arith) c.read_word-high.ensures.bound
    c.read_word-2.ensures.bound)

pub overflow_add-result : goal.overflow_add-result
overflow_add-result c =
    let r : ℕ = c.args.at % 64 in
    let a : ℕ = 64 - r in
    let b : ℕ = r + c.args.width - 64 in
    let few : a + b ≤ 64 = omega arith in
    let P : ℕ → Type 0 = λ n. c.read_word-high.result * 2 ^ b % 18446744073709551616 + c.read_word-2.result < 2 ^ n in
    let wide : 2 ^ (a + b) ≤ 2 ^ 64 = pow_mono few in
    let fits : P (a + b) =
    joined_fits c.read_word-high.result c.read_word-2.result a b few c.read_word-high.ensures.bound c.read_word-2.ensures.bound
    in
    omega arith

pub returns-clause-value : goal.returns-clause-value
returns-clause-value c =
    let r : ℕ = c.args.at % 64 in
    let a : ℕ = 64 - r in
    let b : ℕ = r + c.args.width - 64 in
    let few : a + b ≤ 64 = omega arith in
    let e : a + b ≡ c.args.width = omega arith in
    let n : ℕ = c.read_word-high.result * 2 ^ b % 18446744073709551616 + c.read_word-2.result in
    let W : List Bool = word_bits (get_or c.args.words.now (c.args.at / 64 + 1) 0) in
    ap (λ m. bits_of m n) (sym e)
    ∙ joined_bits c.read_word-high.result c.read_word-2.result a b few c.read_word-high.ensures.bound c.read_word-2.ensures.bound
    ∙ ap (λ l. l ++ bits_of b c.read_word-2.result) c.read_word-high.ensures.value
    ∙ ap (λ l. take a (drop r (word_bits (get_or c.args.words.now (c.args.at / 64) 0))) ++ l) c.read_word-2.ensures.value
    ∙ read_in_two c.args.words.now c.args.at (c.args.at / 64) r a b (omega arith) (omega arith) (omega arith) (omega arith)
    ∙ ap (λ m. take m (drop c.args.at (bits_of_words c.args.words.now))) e
