use Rattle.std.proofs.Common.{◌≡◌, ℕ, ◌/◌, ◌%◌, ◌^◌, ◌<◌, ◌≤◌, get_or, subst, sym, ap, ◌∙◌, arith, bit_xor}
use Rattle.dmr_bits.specs.Bits.{bits_of, xor_bits}
use Rattle.dmr_bits.proofs.Lists.{bits_of_field}
use Rattle.dmr_bits.proofs.Numbers.{bits_of_xor}
use Rattle.dmr_codes.specs.Code.{IsWord}
use Rattle.dmr_codes.proofs.Loops.{whole_field, shift_is}
use Rattle.dmr_codes.proofs.WordTables.{high_small, sum_word, sum_information}
use Rattle.dmr_codes.proofs.word_tables.sum_of_words.Goals as goal

pub bounds-upper-number : goal.bounds-upper-number
bounds-upper-number g c =
    let small : c.field-number.result < 2 ^ g.row.K = c.field-number.ensures.bound in
    rw c.requires.upper_count (high_small g.row.K g.row.LOW c.field-number.result c.requires.low small)

pub returns-clause-word : goal.returns-clause-word
returns-clause-word g c = λ columns shaped high rest.
    let n : ℕ = c.field-number.result in
    let a : ℕ = get_or c.args.upper.now (n / 2 ^ g.row.LOW) 0 in
    let b : ℕ = get_or c.args.lower.now (n % 2 ^ g.row.LOW) 0 in
    let few : g.row.LOW ≤ 32 = omega (arith, c.requires.low, c.requires.places, c.requires.narrow) in
    let small : n < 2 ^ g.row.K = c.field-number.ensures.bound in
    let first : c.with_field-high_word.result ≡ bits_of g.row.N a =
    c.with_field-high_word.ensures.value ∙ rw c.zero.ensures.value (whole_field g.row.N c.from.result)
    ∙ ap (bits_of g.row.N) c.from.ensures in
    let second : c.with_field-low_word.result ≡ bits_of g.row.N b =
    c.with_field-low_word.ensures.value ∙ rw c.zero-2.ensures.value (whole_field g.row.N c.from-2.result)
    ∙ ap (bits_of g.row.N) (c.from-2.ensures ∙ ap (λ m. get_or c.args.lower.now (n % m) 0) (shift_is g.row.LOW few)) in
    let whole : c.xor.result ≡ bits_of g.row.N (bit_xor a b) =
    c.xor.ensures.value ∙ ap (λ x. xor_bits x c.with_field-low_word.result) first ∙ ap (xor_bits (bits_of g.row.N a)) second
    ∙ sym (bits_of_xor g.row.N a b) in
    subst (IsWord columns _) (sym whole)
    (sum_word g.row.N g.row.K g.row.LOW n columns c.args.upper.now c.args.lower.now shaped high rest
    (high_small g.row.K g.row.LOW n c.requires.low small))

pub returns-clause-information : goal.returns-clause-information
returns-clause-information g c = λ columns shaped high rest.
    let n : ℕ = c.field-number.result in
    let a : ℕ = get_or c.args.upper.now (n / 2 ^ g.row.LOW) 0 in
    let b : ℕ = get_or c.args.lower.now (n % 2 ^ g.row.LOW) 0 in
    let few : g.row.LOW ≤ 32 = omega (arith, c.requires.low, c.requires.places, c.requires.narrow) in
    let small : n < 2 ^ g.row.K = c.field-number.ensures.bound in
    let first : c.with_field-high_word.result ≡ bits_of g.row.N a =
    c.with_field-high_word.ensures.value ∙ rw c.zero.ensures.value (whole_field g.row.N c.from.result)
    ∙ ap (bits_of g.row.N) c.from.ensures in
    let second : c.with_field-low_word.result ≡ bits_of g.row.N b =
    c.with_field-low_word.ensures.value ∙ rw c.zero-2.ensures.value (whole_field g.row.N c.from-2.result)
    ∙ ap (bits_of g.row.N) (c.from-2.ensures ∙ ap (λ m. get_or c.args.lower.now (n % m) 0) (shift_is g.row.LOW few)) in
    let whole : c.xor.result ≡ bits_of g.row.N (bit_xor a b) =
    c.xor.ensures.value ∙ ap (λ x. xor_bits x c.with_field-low_word.result) first ∙ ap (xor_bits (bits_of g.row.N a)) second
    ∙ sym (bits_of_xor g.row.N a b) in
    rw whole
    (sum_information g.row.N g.row.K g.row.LOW n columns c.args.upper.now c.args.lower.now shaped high rest
    (high_small g.row.K g.row.LOW n c.requires.low small)
    ∙ bits_of_field g.row.K c.args.information.now n c.field-number.ensures.length
    c.field-number.ensures.value)
