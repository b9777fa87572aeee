-- The bits of a number, cut and joined.
use Rattle.std.proofs.Common.{◌≡◌, ℕ, ◌+◌, ◌-◌, ◌*◌, ◌/◌, ◌%◌, ◌^◌, ◌<◌, ◌≤◌, Bool, zero, suc, List, ◌++◌, length}
use Rattle.std.proofs.Common.{take, drop, refl, sym, ap, ◌∙◌, arith, mod-lt}
use Rattle.std.proofs.lemmas.List.{take-append-drop, take_at, length-take-le, length-append, length-drop, drop-drop}
use Rattle.std.proofs.lemmas.Nat.{div-mul-add, div-add-mod', pow_pos, shr-shr, shl-shr, field_of, pow-add, mod-pow-add, shr_split}
use Rattle.std.proofs.lemmas.Nat.{shr_below, mul-add-lt, shl_whole}
use Rattle.std.proofs.Math.Nat.{mul_comm}
use Rattle.dmr_bits.specs.Bits.{number_of, bits_of}
use Rattle.dmr_bits.specs.Words.{word_bits}
use Rattle.dmr_bits.proofs.Lists.{bits_of_above, bits_of_spelled}

-- the last bits of a number are those of its end
pub bits_of-drop : (a b k n : ℕ) → k ≡ a + b → drop a (bits_of k n) ≡ bits_of b n
bits_of-drop zero b k n e = (let same : k ≡ b = omega arith in ap (λ m. bits_of m n) same)
bits_of-drop (suc a) b zero n e = absurd (omega arith)
bits_of-drop (suc a) b (suc k) n e = bits_of-drop a b k n (omega arith)

-- the first bits of a number are those of its front
pub bits_of-take : (a b k n : ℕ) → k ≡ a + b → take a (bits_of k n) ≡ bits_of a (n / 2 ^ b)
bits_of-take zero b k n e = refl
bits_of-take (suc a) b zero n e = absurd (omega arith)
bits_of-take (suc a) b (suc k) n e =
    let sum : b + a ≡ k = omega arith in
    let head : n / 2 ^ b / 2 ^ a ≡ n / 2 ^ k = shr-shr n b a ∙ ap (λ m. n / 2 ^ m) sum in
    let tail = bits_of-take a b k n (omega arith) in
    cc

-- two numbers side by side
pub bits_of-join : (a b k x y : ℕ) → k ≡ a + b → y < 2 ^ b → bits_of k (x * 2 ^ b + y) ≡ bits_of a x ++ bits_of b y
bits_of-join a b k x y e h =
    sym (take-append-drop a (bits_of k (x * 2 ^ b + y)))
    ∙ ap (λ l. l ++ drop a (bits_of k (x * 2 ^ b + y))) (bits_of-take a b k (x * 2 ^ b + y) e
    ∙ ap (bits_of a) (div-mul-add x (2 ^ b) y h))
    ∙ ap (λ l. bits_of a x ++ l) (bits_of-drop a b k (x * 2 ^ b + y) e ∙ bits_of_above b x y b (omega arith))

-- what stands above the bits does not count
pub bits_of-mod : (width n : ℕ) → bits_of width (n % 2 ^ width) ≡ bits_of width n
bits_of-mod width n =
    sym (bits_of_above width (n / 2 ^ width) (n % 2 ^ width) width (omega arith)) ∙ ap (bits_of width) (div-add-mod' n (2 ^ width))

-- the bits in the middle of a number
pub bits_of-middle : (at width below k n : ℕ) → k ≡ at + (width + below)
    → take width (drop at (bits_of k n)) ≡ bits_of width (n / 2 ^ below)
bits_of-middle at width below k n e =
    ap (take width) (bits_of-drop at (width + below) k n e) ∙ bits_of-take width below (width + below) n refl

-- what shifting up and down leaves
pub shifted : (word at width below : ℕ)
    → word * 2 ^ at % 2 ^ (width + (at + below)) / 2 ^ (at + below) ≡ word / 2 ^ below % 2 ^ width
shifted word at width below =
    field_of (word * 2 ^ at) width (at + below)
    ∙ ap (λ m. m % 2 ^ width) (sym (shr-shr (word * 2 ^ at) at below) ∙ ap (λ m. m / 2 ^ below) (shl-shr word at))

-- a field read by two shifts
pub read_shifted : (word at width : ℕ) → at + width ≤ 64
    → word * 2 ^ at % 18446744073709551616 / 2 ^ (64 - width) ≡ word / 2 ^ (64 - at - width) % 2 ^ width
read_shifted word at width h =
    let below : ℕ = 64 - at - width in
    let e : width + (at + below) ≡ 64 = omega arith in
    let f : at + below ≡ 64 - width = omega arith in
    ap (λ m. word * 2 ^ at % 2 ^ m / 2 ^ (64 - width)) (sym e)
    ∙ ap (λ m. word * 2 ^ at % 2 ^ (width + (at + below)) / 2 ^ m) (sym f)
    ∙ shifted word at width below

-- a word shifted down to the end of a field, and cut to its width, has the field's bits
pub read_middle : (word at width : ℕ) → at + width ≤ 64
    → bits_of width (word / 2 ^ (64 - at - width) % 2 ^ width) ≡ take width (drop at (word_bits word))
unfolding word_bits
read_middle word at width h =
    let below : ℕ = 64 - at - width in
    bits_of-mod width (word / 2 ^ below) ∙ sym (bits_of-middle at width below 64 word (omega arith))

-- a number above a field, the field, and what stands below it
pub word_parts : (n width below : ℕ)
    → n / 2 ^ (width + below) * 2 ^ (width + below) + (n / 2 ^ below % 2 ^ width * 2 ^ below + n % 2 ^ below) ≡ n
word_parts n width below =
    ap (λ m. n / 2 ^ (width + below) * 2 ^ (width + below) + m) (sym (mod-pow-add n width below)) ∙ shr_split n (width + below)

pub spliced : (n width below value : ℕ)
    → n - n / 2 ^ below % 2 ^ width * 2 ^ below + value * 2 ^ below
    ≡ n / 2 ^ (width + below) * 2 ^ (width + below) + (value * 2 ^ below + n % 2 ^ below)
spliced n width below value = omega (arith, word_parts n width below)

-- a field and what stands below it
low_fits : (width below value l : ℕ) → value < 2 ^ width → l < 2 ^ below → value * 2 ^ below + l < 2 ^ (width + below)
low_fits width below value l p q =
    omega (arith, mul-add-lt value (2 ^ below) l (2 ^ width) p q, pow-add 2 width below, mul_comm (2 ^ below) (2 ^ width))

-- a word whose field is replaced by a value that fits the field still fits 64 bits
pub spliced_fits : (at width below n value : ℕ) → at + (width + below) ≡ 64 → n < 2 ^ 64 → value < 2 ^ width
    → n / 2 ^ (width + below) * 2 ^ (width + below) + (value * 2 ^ below + n % 2 ^ below) < 2 ^ 64
spliced_fits at width below n value e h p =
    let wide : n < 2 ^ (at + (width + below)) = rw e h in
    let whole : 2 ^ (at + (width + below)) ≡ 18446744073709551616 = ap (λ m. 2 ^ m) e in
    let small : n % 2 ^ below < 2 ^ below = mod-lt n (pow_pos below) in
    omega (
      arith,
      low_fits at (width + below) (n / 2 ^ (width + below)) (value * 2 ^ below + n % 2 ^ below)
          (shr_below n at (width + below) wide) (low_fits width below value (n % 2 ^ below) p small),
      whole,
    )

-- a word whose field is replaced by a value has the value's bits there, and else those it had
pub spliced_bits : (at width below n value : ℕ) → at + (width + below) ≡ 64 → value < 2 ^ width
    → word_bits (n / 2 ^ (width + below) * 2 ^ (width + below) + (value * 2 ^ below + n % 2 ^ below)) ≡ take at (word_bits n)
    ++ (bits_of width value ++ drop (at + width) (word_bits n))
unfolding word_bits
spliced_bits at width below n value e p =
    let small : n % 2 ^ below < 2 ^ below = mod-lt n (pow_pos below) in
    let e64 : 64 ≡ at + (width + below) = sym e in
    let e64' : 64 ≡ (at + width) + below = omega arith in
    bits_of-join at (width + below) 64 (n / 2 ^ (width + below)) (value * 2 ^ below + n % 2 ^ below) e64
    (low_fits width below value (n % 2 ^ below) p small)
    ∙ ap (λ l. bits_of at (n / 2 ^ (width + below)) ++ l)
    (bits_of-join width below (width + below) value (n % 2 ^ below) refl small)
    ∙ ap (λ l. l ++ (bits_of width value ++ bits_of below (n % 2 ^ below))) (sym (bits_of-take at (width + below) 64 n e64))
    ∙ ap (λ l. take at (bits_of 64 n) ++ (bits_of width value ++ l)) (bits_of-mod below n
    ∙ sym (bits_of-drop (at + width) below 64 n e64'))

-- a field taken off and another put on, as they are shifted
pub written : (n at width value old : ℕ) → at + width ≤ 64 → value < 2 ^ width → old ≡ n / 2 ^ (64 - at - width) % 2 ^ width
    → n - old * 2 ^ (64 - at - width) % 18446744073709551616 + value * 2 ^ (64 - at - width) % 18446744073709551616
    ≡ n / 2 ^ (width + (64 - at - width)) * 2 ^ (width + (64 - at - width)) +
    (value * 2 ^ (64 - at - width) + n % 2 ^ (64 - at - width))
written n at width value old h p e =
    let below : ℕ = 64 - at - width in
    let wide : width + below ≤ 64 = omega arith in
    let few : n / 2 ^ below % 2 ^ width < 2 ^ width = mod-lt (n / 2 ^ below) (pow_pos width) in
    let first : n / 2 ^ below % 2 ^ width * 2 ^ below % 18446744073709551616 ≡ n / 2 ^ below % 2 ^ width * 2 ^ below =
    shl_whole (n / 2 ^ below % 2 ^ width) width below 64 few wide in
    let second : value * 2 ^ below % 18446744073709551616 ≡ value * 2 ^ below = shl_whole value width below 64 p wide in
    ap (λ m. n - m * 2 ^ below % 18446744073709551616 + value * 2 ^ below % 18446744073709551616) e
    ∙ ap (λ m. n - m + value * 2 ^ below % 18446744073709551616) first
    ∙ ap (λ m. n - n / 2 ^ below % 2 ^ width * 2 ^ below + m) second
    ∙ spliced n width below value

-- a number in two halves
pub halves : (value a b : ℕ) → a + b ≤ 64 → value < 2 ^ (a + b)
    → value / 2 ^ b * 2 ^ b + (value - value / 2 ^ b * 2 ^ b % 18446744073709551616) ≡ value
halves value a b h p =
    let few : value / 2 ^ b < 2 ^ a = shr_below value a b p in
    let whole : value / 2 ^ b * 2 ^ b % 18446744073709551616 ≡ value / 2 ^ b * 2 ^ b = shl_whole (value / 2 ^ b) a b 64 few h in
    omega (arith, shr_split value b, whole)

pub low_half : (value a b : ℕ) → a + b ≤ 64 → value < 2 ^ (a + b) → value - value / 2 ^ b * 2 ^ b % 18446744073709551616 < 2 ^ b
low_half value a b h p =
    let small : value % 2 ^ b < 2 ^ b = mod-lt value (pow_pos b) in
    omega (arith, shr_split value b, halves value a b h p)

-- the upper part of a number and what is left without it have together the number's bits
pub halves_bits : (value a b : ℕ) → a + b ≤ 64 → value < 2 ^ (a + b)
    → bits_of a (value / 2 ^ b) ++ bits_of b (value - value / 2 ^ b * 2 ^ b % 18446744073709551616) ≡ bits_of (a + b) value
halves_bits value a b h p =
    sym (bits_of-join a b (a + b) (value / 2 ^ b) (value - value / 2 ^ b * 2 ^ b % 18446744073709551616) refl
    (low_half value a b h p)) ∙ ap (bits_of (a + b)) (halves value a b h p)

-- two halves as one number
pub joined_is : (high low a b : ℕ) → a + b ≤ 64 → high < 2 ^ a → high * 2 ^ b % 18446744073709551616 + low ≡ high * 2 ^ b + low
joined_is high low a b h p = ap (λ m. m + low) (shl_whole high a b 64 p h)

-- two numbers, each within its width, joined as an upper and a lower part fit the two widths together
pub joined_fits : (high low a b : ℕ) → a + b ≤ 64 → high < 2 ^ a → low < 2 ^ b
    → high * 2 ^ b % 18446744073709551616 + low < 2 ^ (a + b)
joined_fits high low a b h p q = omega (arith, joined_is high low a b h p, low_fits a b high low p q)

-- the bits of two numbers that are joined so are those of the upper and then those of the lower
pub joined_bits : (high low a b : ℕ) → a + b ≤ 64 → high < 2 ^ a → low < 2 ^ b
    → bits_of (a + b) (high * 2 ^ b % 18446744073709551616 + low) ≡ bits_of a high ++ bits_of b low
joined_bits high low a b h p q =
    ap (bits_of (a + b)) (joined_is high low a b h p) ∙ bits_of-join a b (a + b) high low refl q

-- the lowest bits of a number, by two shifts
pub low_shifted : (n width : ℕ) → width ≤ 64 → n * 2 ^ (64 - width) % 18446744073709551616 / 2 ^ (64 - width) ≡ n % 2 ^ width
low_shifted n width h =
    let none : 64 - (64 - width) - width ≡ 0 = omega arith in
    let whole : n / 1 ≡ n = omega arith in
    read_shifted n (64 - width) width (omega arith) ∙ ap (λ m. n / 2 ^ m % 2 ^ width) none ∙ ap (λ m. m % 2 ^ width) whole

-- bits put at the end of the first ones
pub pushed_bits : (P V : List Bool) (filled width : ℕ) → length V ≡ width → filled + width ≤ length P
    → take (filled + width) (take filled P ++ V ++ drop (filled + width) P) ≡ take filled P ++ V
pushed_bits P V filled width e room =
    take_at (take filled P ++ V) (drop (filled + width) P) (filled + width)
    (let front : length (take filled P) ≡ filled = length-take-le filled P (omega arith) in
    omega (arith, length-append (take filled P) V))

-- bits taken off the front of what is left
pub read_bits : (P : List Bool) (at width value : ℕ) → at + width ≤ length P → value ≡ number_of (take width (drop at P))
    → drop at P ≡ bits_of width value ++ drop (at + width) P
read_bits P at width value room e =
    let D : List Bool = drop at P in
    let long : length (take width D) ≡ width = length-take-le width D (omega (arith, length-drop at P)) in
    sym (take-append-drop width D)
    ∙ ap (λ l. take width D ++ l) (drop-drop width at P)
    ∙ ap (λ l. l ++ drop (at + width) P) (sym (ap (bits_of width) e ∙ bits_of_spelled width (take width D) long))
