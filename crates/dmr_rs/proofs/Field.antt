-- Sums and products of octets.
use Rattle.std.proofs.Common.{◌≡◌, ◌≢◌, ℕ, ◌-◌, ◌*◌, ◌/◌, ◌%◌, ◌^◌, ◌<◌, ◌==◌, Bool, true, false}
use Rattle.std.proofs.Common.{List, [], ◌∷◌, ◌++◌, length, refl, sym, ◌∙◌, ap, arith, cond, lit<, eqb, eqb-true}
use Rattle.std.specs.Prelude.{bit_xor, fold}
use Rattle.std.specs.Int.Bits.{xor_assoc, xor_self, xor_zero_l, xor_zero_r}
use Rattle.std.proofs.Math.Nat.{mod-lt, mod-eq_of_lt}
use Rattle.std.proofs.lemmas.Nat.{xor_comm, xor_lt, xor_mod}
use Rattle.std.proofs.lemmas.Bool.{agree_below_at, ne_eqb}
use Rattle.dmr_bits.specs.Bits.{bits_of, xor, xor_bits}
use Rattle.dmr_bits.proofs.Lists.{length-bits_of, bits_of_next, bits_of_none}
use Rattle.dmr_bits.proofs.Numbers.{bits_of_xor, bits_of_mod, bits_of_double, bits_of_same}
use Rattle.dmr_bits.proofs.Dividing.{Laws}
use Rattle.dmr_rs.specs.Field.{times_x, times, octet_field}

-- for each bit, the highest first: the sum so far times x, and `b` added where the bit is one
abbrev pub sum_over : List Bool → ℕ → ℕ → ℕ
sum_over bits b sum = fold (λ (sum : ℕ) (bit : Bool). bit_xor (times_x sum) (cond bit b 0)) sum bits

-- ---- sums
pub xor_swap : (a b c d : ℕ) → bit_xor (bit_xor a b) (bit_xor c d) ≡ bit_xor (bit_xor a c) (bit_xor b d)
xor_swap a b c d =
    xor_assoc a b (bit_xor c d)
    ∙ ap (bit_xor a) (sym (xor_assoc b c d) ∙ ap (λ n. bit_xor n d) (xor_comm b c) ∙ xor_assoc c b d)
    ∙ sym (xor_assoc a c (bit_xor b d))

-- a number added twice leaves the other as it was
pub xor_twice : (a b : ℕ) → bit_xor a (bit_xor a b) ≡ b
xor_twice a b = sym (xor_assoc a a b) ∙ ap (λ n. bit_xor n b) (xor_self a) ∙ xor_zero_l b

-- two numbers whose sum is zero are equal
pub xor_none : (a b : ℕ) → bit_xor a b ≡ 0 → a ≡ b
xor_none a b e = sym (xor_zero_r a) ∙ ap (bit_xor a) (sym e) ∙ xor_twice a b

-- ---- times x
xor_bits_push : (xs ys : List Bool) → length xs ≡ length ys → xor_bits (xs ++ false ∷ []) (ys ++ false ∷ []) ≡ xor_bits xs ys ++
    false ∷ []
xor_bits_push [] [] e = refl
xor_bits_push [] (y ∷ ys) e = absurd (omega arith)
xor_bits_push (x ∷ xs) [] e = absurd (omega arith)
xor_bits_push (x ∷ xs) (y ∷ ys) e = ap (λ r. xor x y ∷ r) (xor_bits_push xs ys (omega arith))

-- the bits of twice a number, cut to an octet, are the number's seven lowest and a zero
pub low_bits : (n : ℕ) → bits_of 8 (2 * n % 2 ^ 8) ≡ bits_of 7 n ++ false ∷ []
low_bits n = bits_of_mod 8 8 (2 * n) (omega arith) ∙ bits_of_double 7 n

double_xor : (a b : ℕ) → 2 * bit_xor a b % 256 ≡ bit_xor (2 * a % 256) (2 * b % 256)
double_xor a b =
    let level : length (bits_of 7 a) ≡ length (bits_of 7 b) = length-bits_of 7 a ∙ sym (length-bits_of 7 b) in
    let left : 2 * a % 256 < 256 = omega arith in
    let right : 2 * b % 256 < 256 = omega arith in
    let sum : 2 * bit_xor a b % 256 < 256 = mod-lt (2 * bit_xor a b) (lit< tt) in
    bits_of_same 8 (2 * bit_xor a b % 256) (bit_xor (2 * a % 256) (2 * b % 256)) sum (xor_lt 8 (2 * a % 256) (2 * b % 256) left
    right)
    (low_bits (bit_xor a b) ∙ ap (λ l. l ++ false ∷ []) (bits_of_xor 7 a b)
    ∙ sym (bits_of_xor 8 (2 * a % 256) (2 * b % 256)
    ∙ ap (λ l. xor_bits l (bits_of 8 (2 * b % 256))) (low_bits a) ∙ ap (xor_bits (bits_of 7 a ++ false ∷ [])) (low_bits b)
    ∙ xor_bits_push (bits_of 7 a) (bits_of 7 b) level))

high_xor : (a b : ℕ) → (bit_xor a b / 128 % 2 == 1) ≡ xor (a / 128 % 2 == 1) (b / 128 % 2 == 1)
high_xor a b = let bits = bits_of_xor 8 a b in cc

reduced_xor : (p q : Bool) → cond (xor p q) 0x1D 0 ≡ bit_xor (cond p 0x1D 0) (cond q 0x1D 0)
reduced_xor true true = refl
reduced_xor true false = refl
reduced_xor false true = refl
reduced_xor false false = refl

pub times_x-xor : (a b : ℕ) → times_x (bit_xor a b) ≡ bit_xor (times_x a) (times_x b)
times_x-xor a b =
    ap (λ n. bit_xor n (cond (bit_xor a b / 128 % 2 == 1) 0x1D 0)) (double_xor a b)
    ∙ ap (bit_xor (bit_xor (2 * a % 256) (2 * b % 256)))
    (ap (λ p. cond p 0x1D 0) (high_xor a b) ∙ reduced_xor (a / 128 % 2 == 1) (b / 128 % 2 == 1))
    ∙ xor_swap (2 * a % 256) (2 * b % 256) (cond (a / 128 % 2 == 1) 0x1D 0) (cond (b / 128 % 2 == 1) 0x1D 0)

reduced-lt : (p : Bool) → cond p 0x1D 0 < 256
reduced-lt true = lit< tt
reduced-lt false = lit< tt

-- any number times x is an octet
pub times_x-lt : (a : ℕ) → times_x a < 256
times_x-lt a =
    let low : 2 * a % 256 < 256 = omega arith in
    xor_lt 8 (2 * a % 256) (cond (a / 128 % 2 == 1) 0x1D 0) low (reduced-lt (a / 128 % 2 == 1))

-- times x reads no more of a number than its lowest eight bits
pub times_x-mod : (a : ℕ) → times_x (a % 256) ≡ times_x a
times_x-mod a =
    let low : 2 * (a % 256) % 256 ≡ 2 * a % 256 = omega arith in
    let high : a % 256 / 128 % 2 ≡ a / 128 % 2 = omega arith in
    ap (λ n. bit_xor n (cond (a % 256 / 128 % 2 == 1) 0x1D 0)) low ∙ ap (λ n. bit_xor (2 * a % 256) (cond (n == 1) 0x1D 0)) high

-- ---- products are linear in their second factor
sum_over-xor : (bits : List Bool) (b c s t : ℕ) → sum_over bits (bit_xor b c) (bit_xor s t) ≡ bit_xor (sum_over bits b s) (sum_over
    bits c t)
sum_over-xor [] b c s t = refl
sum_over-xor (true ∷ bits) b c s t =
    ap (sum_over bits (bit_xor b c))
    (ap (λ n. bit_xor n (bit_xor b c)) (times_x-xor s t) ∙ xor_swap (times_x s) (times_x t) b c)
    ∙ sum_over-xor bits b c (bit_xor (times_x s) b) (bit_xor (times_x t) c)
sum_over-xor (false ∷ bits) b c s t =
    ap (sum_over bits (bit_xor b c))
    (ap (λ n. bit_xor n 0) (times_x-xor s t) ∙ xor_swap (times_x s) (times_x t) 0 0)
    ∙ sum_over-xor bits b c (bit_xor (times_x s) 0) (bit_xor (times_x t) 0)

-- a product by a sum is the sum of the products
pub times-xor : (a b c : ℕ) → times a (bit_xor b c) ≡ bit_xor (times a b) (times a c)
unfolding times
times-xor a b c =
    ap (λ n. sum_over (bits_of 8 a) n 0) (xor_mod b c 8) ∙ sum_over-xor (bits_of 8 a) (b % 256) (c % 256) 0 0

sum_over-lt : (bits : List Bool) (b s : ℕ) → b < 256 → s < 256 → sum_over bits b s < 256
sum_over-lt [] b s h k = k
sum_over-lt (true ∷ bits) b s h k = sum_over-lt bits b (bit_xor (times_x s) b) h (xor_lt 8 (times_x s) b (times_x-lt s) h)
sum_over-lt (false ∷ bits) b s h k = sum_over-lt bits b (bit_xor (times_x s) 0) h (xor_lt 8 (times_x s) 0 (times_x-lt s) (lit< tt))

-- a product is an octet
pub times-lt : (a b : ℕ) → times a b < 256
unfolding times
times-lt a b = let small : b % 256 < 256 = omega arith in sum_over-lt (bits_of 8 a) (b % 256) 0 small (lit< tt)

-- ---- as the loops go
pub times-octet : (a b : ℕ) → b < 256 → sum_over (bits_of 8 a) b 0 ≡ times a b
unfolding times
times-octet a b h = ap (λ n. sum_over (bits_of 8 a) n 0) (sym (mod-eq_of_lt h))

-- the sum over bits goes on from the sum times x, with the other added where the highest bit is one
pub sum_over-next : (k a b s : ℕ) → 0 < k → sum_over (bits_of (k - 1) a) b (bit_xor (times_x s) (cond (a / 2 ^ (k - 1) % 2 == 1) b
    0)) ≡ sum_over (bits_of k a) b s
sum_over-next k a b s h = ap (λ bits. sum_over bits b s) (sym (bits_of_next k a h))

-- over no bits the sum stays as it is
pub sum_over-none : (k a b s : ℕ) → k ≡ 0 → s ≡ sum_over (bits_of k a) b s
sum_over-none k a b s e = ap (λ bits. sum_over bits b s) (sym (bits_of_none k a e))

-- the inverse of multiplying by x
half : ℕ → ℕ
half n = cond (n % 2 == 0) (n / 2) (bit_xor (n / 2) 0x8E)

times_x-half : (n : ℕ) → n < 256 → times_x (half n) ≡ n
unfolding half
times_x-half n h = eqb-true (times_x (half n)) n (agree_below_at (λ i. eqb (times_x (half i)) i) (λ i. true) 256 n refl h)

-- an odd octet is x times its half, rounded down, with half of the field's polynomial added
pub times_x-odd : (n : ℕ) → n < 256 → n % 2 ≢ 0 → times_x (bit_xor (n / 2) 0x8E) ≡ n
unfolding half
times_x-odd n h e = ap (λ t. times_x (cond t (n / 2) (bit_xor (n / 2) 0x8E))) (sym (ne_eqb (n % 2) 0 e)) ∙ times_x-half n h

-- ---- maps that keep sums and products by x
pub record IsLinear (f : ℕ → ℕ) : Type 0 where
  pub sum : (a b : ℕ) → f (bit_xor a b) ≡ bit_xor (f a) (f b)
  pub shift : (a : ℕ) → f (times_x a) ≡ times_x (f a)

-- a linear map takes zero to zero
pub none_is : (f : ℕ → ℕ) → IsLinear f → f 0 ≡ 0
none_is f linear = let e : f 0 ≡ bit_xor (f 0) (f 0) = linear.sum 0 0 in e ∙ xor_self (f 0)

-- two linear maps, one after the other, are a linear map
pub composed : (f g : ℕ → ℕ) → IsLinear f → IsLinear g → IsLinear (λ n. f (g n))
composed f g F G = record {
  sum = λ a b. ap f (G.sum a b) ∙ F.sum (g a) (g b);
  shift = λ a. ap f (G.shift a) ∙ F.shift (g a);
}

-- multiplying by x is a linear map
pub x_linear : IsLinear times_x
x_linear = record { sum = times_x-xor; shift = λ a. refl }

map-sum_over : (f : ℕ → ℕ) → IsLinear f → (bits : List Bool) (b s : ℕ) → f (sum_over bits b s) ≡ sum_over bits (f b) (f s)
map-sum_over f linear [] b s = refl
map-sum_over f linear (true ∷ bits) b s =
    map-sum_over f linear bits b (bit_xor (times_x s) b)
    ∙ ap (sum_over bits (f b)) (linear.sum (times_x s) b ∙ ap (λ n. bit_xor n (f b)) (linear.shift s))
map-sum_over f linear (false ∷ bits) b s =
    map-sum_over f linear bits b (bit_xor (times_x s) 0)
    ∙ ap (sum_over bits (f b))
    (linear.sum (times_x s) 0 ∙ ap (λ n. bit_xor n (f 0)) (linear.shift s) ∙ ap (bit_xor (times_x (f s))) (none_is f linear))

-- multiplying by any number is a linear map
pub times_linear : (a : ℕ) → IsLinear (times a)
unfolding times
times_linear a = record {
  sum = times-xor a;
  shift = λ b.
      ap (λ n. sum_over (bits_of 8 a) n 0) (mod-eq_of_lt (times_x-lt b) ∙ sym (times_x-mod b))
      ∙ sym (map-sum_over times_x x_linear (bits_of 8 a) (b % 256) 0);
}

-- ---- one
times-one : (n : ℕ) → n < 256 → times n 1 ≡ n
unfolding times
times-one n h = eqb-true (times n 1) n (agree_below_at (λ i. eqb (times i 1) i) (λ i. true) 256 n refl h)

times-read : (k a : ℕ) → times (k % 256) a ≡ times k a
unfolding times
times-read k a = ap (λ bits. sum_over bits (a % 256) 0) (bits_of_mod 8 8 k (omega arith))

one_is : (k : ℕ) → times k 1 ≡ k % 256
one_is k = sym (times-read k 1) ∙ (let small : k % 256 < 256 = omega arith in times-one (k % 256) small)

-- octets keep the laws that long division needs
pub octet_laws : Laws octet_field 1 (λ octet. octet < 256)
octet_laws = record {
  twice = xor_twice;
  assoc = λ a b c. sym (xor_assoc a b c);
  none_left = xor_zero_l;
  none_right = xor_zero_r;
  self = xor_self;
  read = λ k a. ap (λ n. times n a) (one_is k) ∙ times-read k a;
  unit = times-one;
  is_none = lit< tt;
  is_sum = λ a b h k. xor_lt 8 a b h k;
  is_product = times-lt;
}
