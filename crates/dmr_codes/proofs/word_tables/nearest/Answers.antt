use Rattle.std.proofs.Common.{◌≡◌, ℕ, ◌-◌, ◌*◌, ◌/◌, ◌%◌, ◌^◌, ◌<◌, ◌≤◌, Some, get_or, subst, sym, ap, ◌∙◌, arith, bit_xor}
use Rattle.std.proofs.Math.Nat.{pow-le-pow_right}
use Rattle.dmr_bits.specs.Bits.{bits_of, distance}
use Rattle.dmr_codes.specs.Code.{IsWord}
use Rattle.dmr_codes.proofs.Loops.{whole_field, shift_is}
use Rattle.dmr_codes.proofs.WordTables.{word_at, information_small, right_small, looked_up}
use Rattle.dmr_codes.proofs.word_tables.nearest.Goals as goal

pub bounds-words-information : goal.bounds-words-information
bounds-words-information g c =
    rw c.requires.words_count
    (information_small g.row.N g.row.K c.field-number.result c.requires.places c.field-number.ensures.bound)

pub offset_bounds-words-right : goal.offset_bounds-words-right
offset_bounds-words-right g c =
    let n : ℕ = c.field-number.result in
    let m : ℕ = g.row.N - g.row.K in
    let few : m ≤ 32 = omega (arith, c.requires.narrow) in
    let long = c.told-wrong ∙ c.requires.wrong_count in
    let right = right_small g.row.K m (1 * 2 ^ m % 18446744073709551616) (n / 2 ^ m) (bit_xor n c.from.result) c.from-2.result
    c.args.wrong.now
    (information_small g.row.N g.row.K n c.requires.places c.field-number.ensures.bound) c.requires.wrong_fit long (shift_is m few)
    c.from-2.ensures in
    let narrow : g.row.K ≤ 32 = omega (arith, c.requires.narrow, c.requires.places) in
    let most : 2 ^ g.row.K ≤ 2 ^ 32 = pow-le-pow_right (omega arith) narrow in
    omega (arith, right, most)

pub bounds-words-right : goal.bounds-words-right
bounds-words-right g c =
    let n : ℕ = c.field-number.result in
    let m : ℕ = g.row.N - g.row.K in
    let few : m ≤ 32 = omega (arith, c.requires.narrow) in
    let long = c.told-wrong ∙ c.requires.wrong_count in
    rw c.requires.words_count
    (right_small g.row.K m (1 * 2 ^ m % 18446744073709551616) (n / 2 ^ m) (bit_xor n c.from.result) c.from-2.result
    c.args.wrong.now
    (information_small g.row.N g.row.K n c.requires.places c.field-number.ensures.bound) c.requires.wrong_fit long (shift_is m few)
    c.from-2.ensures)

pub returns-then-distance-reach-clause-within : goal.returns-then-distance-reach-clause-within
returns-then-distance-reach-clause-within g c = λ columns shaped are.
    let n : ℕ = c.field-number.result in
    let m : ℕ = g.row.N - g.row.K in
    let few : m ≤ 32 = omega (arith, c.requires.narrow) in
    let long = c.told-wrong ∙ c.requires.wrong_count in
    let right : ℕ = bit_xor (n / 2 ^ m) c.from-2.result in
    let small : right < 2 ^ g.row.K =
    right_small g.row.K m (1 * 2 ^ m % 18446744073709551616) (n / 2 ^ m) (bit_xor n c.from.result) c.from-2.result
    c.args.wrong.now
    (information_small g.row.N g.row.K n c.requires.places c.field-number.ensures.bound) c.requires.wrong_fit long (shift_is m few)
    c.from-2.ensures in
    let whole : c.with_field-word.result ≡ bits_of g.row.N (get_or c.args.words.now right 0) =
    c.with_field-word.ensures.value ∙ rw c.zero.ensures.value (whole_field g.row.N c.from-3.result)
    ∙ ap (bits_of g.row.N) c.from-3.ensures in (
      subst (IsWord columns m) (sym whole) (word_at g.row.N g.row.K columns c.args.words.now right shaped are small),
      omega (arith, c.distance.ensures.value, c.if-distance-reach.true),
    )

pub returns-then-distance-reach-clause-only : goal.returns-then-distance-reach-clause-only
returns-then-distance-reach-clause-only g c = λ columns shaped are tell w word near.
    let m : ℕ = g.row.N - g.row.K in
    let few : m ≤ 32 = omega (arith, c.requires.narrow) in
    let whole : c.with_field-word.result ≡ bits_of g.row.N c.from-3.result =
    c.with_field-word.ensures.value ∙ rw c.zero.ensures.value (whole_field g.row.N c.from-3.result) in
    ap Some
    (looked_up g.row.N g.row.K c.args.reach c.field-number.result c.from.result c.from-2.result c.from-3.result
    (1 * 2 ^ m % 18446744073709551616) columns c.args.words.now c.args.wrong.now w c.args.received.now c.with_field-word.result
    shaped are tell c.requires.words_fit (c.told-words ∙ c.requires.words_count) c.field-number.ensures.length
    c.field-number.ensures.value c.field-number.ensures.bound (shift_is m few) c.from.ensures c.from-2.ensures c.from-3.ensures
    whole word near)

pub returns-else-distance-reach-clause-only : goal.returns-else-distance-reach-clause-only
returns-else-distance-reach-clause-only g c = λ columns shaped are tell w word near.
    let m : ℕ = g.row.N - g.row.K in
    let few : m ≤ 32 = omega (arith, c.requires.narrow) in
    let whole : c.with_field-word.result ≡ bits_of g.row.N c.from-3.result =
    c.with_field-word.ensures.value ∙ rw c.zero.ensures.value (whole_field g.row.N c.from-3.result) in
    let same : c.with_field-word.result ≡ w =
    looked_up g.row.N g.row.K c.args.reach c.field-number.result c.from.result c.from-2.result c.from-3.result
    (1 * 2 ^ m % 18446744073709551616) columns c.args.words.now c.args.wrong.now w c.args.received.now c.with_field-word.result
    shaped are tell c.requires.words_fit (c.told-words ∙ c.requires.words_count) c.field-number.ensures.length
    c.field-number.ensures.value c.field-number.ensures.bound (shift_is m few) c.from.ensures c.from-2.ensures c.from-3.ensures
    whole word near in
    let close : distance c.with_field-word.result c.args.received.now ≤ c.args.reach = rw same near in
    absurd (omega (arith, close, c.distance.ensures.value, c.if-distance-reach.false))
