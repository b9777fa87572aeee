-- Words are the lists of twelve octets that are zero at the roots of the generator, and lie four octets apart.
use Rattle.std.proofs.Common.{◌≡◌, ◌↔◌, ℕ, zero, suc, ◌%◌, ◌<◌, ◌≤◌, ◌==◌, true, false, List, [], ◌∷◌, ◌++◌}
use Rattle.std.proofs.Common.{length, replicate, take, drop, get_or, refl, sym, ◌∙◌, ap, arith, cond, lit<, eq-eqb, inl, inr}
use Rattle.std.specs.Prelude.{bit_xor, fold}
use Rattle.std.specs.Int.Bits.{xor_assoc, xor_self, xor_zero_l, xor_zero_r}
use Rattle.std.specs.List.{All}
use Rattle.std.proofs.lemmas.Nat.{xor_comm, xor_lt}
use Rattle.std.proofs.lemmas.Bool.{cases_eq, ne_eqb}
use Rattle.std.proofs.lemmas.List.{take-append-drop, length-drop}
use Rattle.std.proofs.lemmas.List.Elements.{All-nil, All-cons, All-head, All-tail, All-take, All-drop, All-same}
use Rattle.dmr_bits.specs.Polynomials.{add_front, product}
use Rattle.dmr_bits.specs.Register.{register_after}
use Rattle.dmr_bits.proofs.Dividing.{completes, only_completion, length-run, length-add_front, All-run, All-add_front, All-product}
use Rattle.dmr_rs.specs.Field.{times_x, times, octet_field}
use Rattle.dmr_rs.specs.Word.{generator_low, IsRsWord, value_at, power, IsZeroAtRoots, octet_distance}
use Rattle.dmr_rs.proofs.Field.{IsLinear, none_is, times_x-mod, times-xor, times-lt, xor_swap, xor_none, octet_laws}
use Rattle.dmr_rs.proofs.Powers.{shifted, shifted_linear, shifted-times, horner, horner-append}
use Rattle.dmr_rs.proofs.Powers.{horner-xor, horner-none, at_power, wrong, all_zero}

-- ---- a word by its register
pub check : List ℕ → List ℕ
check message = register_after octet_field generator_low (0 ∷ 0 ∷ 0 ∷ []) message

-- octets with their check behind them are a word
pub word_is_completed : (message : List ℕ) → All (λ octet. octet < 256) message → IsRsWord (message ++ check message)
unfolding check
word_is_completed message small = completes octet_laws generator_low message (omega arith) small

-- three octets that complete a message to a word are the message's check
pub only_check : (message parity : List ℕ) → length parity ≡ 3 → IsRsWord (message ++ parity) → parity ≡ check message
unfolding check
only_check message parity long word = only_completion octet_laws generator_low message parity (omega arith) long word

-- a check has three octets
pub length-check : (message : List ℕ) → length (check message) ≡ 3
unfolding check
length-check message = length-run octet_field generator_low (0 ∷ 0 ∷ 0 ∷ []) message

-- the check is what an empty register holds after the message
pub check_is : (message : List ℕ) → register_after octet_field generator_low (0 ∷ 0 ∷ 0 ∷ []) message ≡ check message
unfolding check
check_is message = refl

-- a list of three octets has those that are read at its three places, and no others
pub three_octets : (octets : List ℕ) (a b c p q r : ℕ) → length octets ≡ 3 → a ≡ get_or octets 0 p → b ≡ get_or octets 1 q → c ≡
    get_or octets 2 r → octets ≡ a ∷ b ∷ c ∷ []
three_octets [] a b c p q r e x y z = absurd (omega arith)
three_octets (k ∷ []) a b c p q r e x y z = absurd (omega arith)
three_octets (k ∷ l ∷ []) a b c p q r e x y z = absurd (omega arith)
three_octets (k ∷ l ∷ m ∷ []) a b c p q r e x y z = cc
three_octets (k ∷ l ∷ m ∷ n ∷ octets) a b c p q r e x y z = absurd (omega arith)

All-check : (message : List ℕ) → All (λ octet. octet < 256) (check message)
unfolding check
All-check message =
    let Small : ℕ → Type 0 = λ octet. octet < 256 in
    All-run octet_laws generator_low (0 ∷ 0 ∷ 0 ∷ []) message
    (All-cons Small 0 (0 ∷ 0 ∷ []) (lit< tt) (All-cons Small 0 (0 ∷ []) (lit< tt) (All-cons Small 0 [] (lit< tt) (All-nil Small))))

-- the coefficients of a word are octets
pub words_are_octets : (word : List ℕ) → IsRsWord word → All (λ octet. octet < 256) word
words_are_octets word is =
    All-same (λ octet. octet < 256) word (product octet_field is.0 (1 ∷ generator_low)) (sym is.1)
    (All-product octet_laws is.0 (1 ∷ generator_low))

-- ---- roots of the generator
pub record IsRoot (f : ℕ → ℕ) : Type 0 where
  pub linear : IsLinear f
  pub times_is : (k a : ℕ) → times k (f a) ≡ f (times k a)
  pub root : bit_xor (bit_xor (f (f 0x0E)) (f 0x38)) 0x40 ≡ f (f (f 1))

root_at : (m : ℕ) → bit_xor (bit_xor (shifted m (shifted m 0x0E)) (shifted m 0x38)) 0x40 ≡ shifted m (shifted m (shifted m 1)) →
    IsRoot (shifted m)
root_at m e = record { linear = shifted_linear m; times_is = shifted-times m; root = e }

-- the value of three octets
abbrev pub three : (ℕ → ℕ) → ℕ → ℕ → ℕ → ℕ
three f a b c = bit_xor (f (bit_xor (f a) b)) c

three_is : (f : ℕ → ℕ) → IsLinear f → (a b c : ℕ) → horner f 0 (a ∷ b ∷ c ∷ []) ≡ three f a b c
three_is f F a b c = ap (λ n. three f n b c) (ap (λ n. bit_xor n a) (none_is f F) ∙ xor_zero_l a)

three-xor : (f : ℕ → ℕ) → IsLinear f → (a b c p q r : ℕ) → three f (bit_xor p a) (bit_xor q b) (bit_xor r c) ≡ bit_xor (three f p q
    r) (three f a b c)
three-xor f F a b c p q r =
    ap (λ n. bit_xor n (bit_xor r c))
    (ap f (ap (λ n. bit_xor n (bit_xor q b)) (F.sum p a) ∙ xor_swap (f p) (f a) q b) ∙ F.sum (bit_xor (f p) q) (bit_xor (f a) b))
    ∙ xor_swap (f (bit_xor (f p) q)) (f (bit_xor (f a) b)) r c

-- so many times the generator's lower coefficients
generator_value : (f : ℕ → ℕ) → IsRoot f → (k : ℕ) → k < 256 → three f (times k 0x0E) (times k 0x38) (times k 0x40) ≡ f (f (f k))
generator_value f R k small =
    let F = R.linear in
    let T = R.times_is in
    let one : times k 1 ≡ k = octet_laws.unit k small in
    let first : f (bit_xor (f (times k 0x0E)) (times k 0x38)) ≡ times k (bit_xor (f (f 0x0E)) (f 0x38)) =
    ap f (ap (λ n. bit_xor n (times k 0x38)) (sym (T k 0x0E)) ∙ sym (times-xor k (f 0x0E) 0x38))
    ∙ sym (T k (bit_xor (f 0x0E) 0x38)) ∙ ap (times k) (F.sum (f 0x0E) 0x38) in
    ap (λ n. bit_xor n (times k 0x40)) first
    ∙ sym (times-xor k (bit_xor (f (f 0x0E)) (f 0x38)) 0x40)
    ∙ ap (times k) R.root
    ∙ T k (f (f 1)) ∙ ap f (T k (f 1)) ∙ ap (λ n. f (f n)) (T k 1) ∙ ap (λ n. f (f (f n))) one

-- what was there, one place on
moved_value : (f : ℕ → ℕ) → IsLinear f → (h a b : ℕ) → f (three f h a b) ≡ bit_xor (f (f (f h))) (three f a b 0)
moved_value f F h a b =
    F.sum (f (bit_xor (f h) a)) b
    ∙ ap (λ n. bit_xor n (f b)) (ap f (F.sum (f h) a) ∙ F.sum (f (f h)) (f a))
    ∙ xor_assoc (f (f (f h))) (f (f a)) (f b)
    ∙ ap (bit_xor (f (f (f h)))) (sym (F.sum (f a) b) ∙ sym (xor_zero_r (f (bit_xor (f a) b))))

step_value : (f : ℕ → ℕ) → IsRoot f → (h a b new : ℕ) → h < 256 → new < 256 →
    let k : ℕ = bit_xor h new in
    three f (bit_xor (times k 0x0E) a) (bit_xor (times k 0x38) b) (bit_xor (times k 0x40) 0) ≡ bit_xor (f (three f h a b)) (f (f (f
    new)))
step_value f R h a b new small little =
    let F = R.linear in
    let k : ℕ = bit_xor h new in
    let fff : ℕ → ℕ = λ n. f (f (f n)) in
    let rest : ℕ = three f a b 0 in
    three-xor f F a b 0 (times k 0x0E) (times k 0x38) (times k 0x40)
    ∙ ap (λ n. bit_xor n rest)
    (generator_value f R k (xor_lt 8 h new small little)
    ∙ ap (λ n. f (f n)) (F.sum h new) ∙ ap f (F.sum (f h) (f new)) ∙ F.sum (f (f h)) (f (f new)))
    ∙ xor_assoc (fff h) (fff new) rest ∙ ap (bit_xor (fff h)) (xor_comm (fff new) rest) ∙ sym (xor_assoc (fff h) rest (fff new))
    ∙ ap (λ n. bit_xor n (fff new)) (sym (moved_value f F h a b))

-- the register's value is that of the message, three places on
run_value : (f : ℕ → ℕ) → IsRoot f → (message : List ℕ) (h a b s : ℕ) → h < 256 → a < 256 → b < 256 → All (λ octet. octet < 256)
    message
    → three f h a b ≡ f (f (f s)) → horner f 0 (register_after octet_field generator_low (h ∷ a ∷ b ∷ []) message)
    ≡ f (f (f (horner f s
    message)))
run_value f R [] h a b s small little least all e = three_is f R.linear h a b ∙ e
run_value f R (new ∷ message) h a b s small little least all e =
    let Small : ℕ → Type 0 = λ octet. octet < 256 in
    let F = R.linear in
    let k : ℕ = bit_xor h new in
    let first = All-head Small new message all in
    run_value f R message (bit_xor (times k 0x0E) a) (bit_xor (times k 0x38) b) (bit_xor (times k 0x40) 0) (bit_xor (f s) new)
    (xor_lt 8 (times k 0x0E) a (times-lt k 0x0E) little) (xor_lt 8 (times k 0x38) b (times-lt k 0x38) least) (xor_lt 8 (times k
    0x40) 0 (times-lt k 0x40) (lit< tt))
    (All-tail Small new message all)
    (step_value f R h a b new small first ∙ ap (λ n. bit_xor (f n) (f (f (f new)))) e
    ∙ sym (ap (λ n. f (f n)) (F.sum (f s) new) ∙ ap f (F.sum (f (f s)) (f new)) ∙ F.sum (f (f (f s))) (f (f new))))

check_value : (f : ℕ → ℕ) → IsRoot f → (message : List ℕ) → All (λ octet. octet < 256) message → horner f 0 (check message) ≡ f (f
    (f (horner f 0 message)))
unfolding check
check_value f R message all =
    let F = R.linear in
    let none = none_is f F in
    run_value f R message 0 0 0 0 (lit< tt) (lit< tt) (lit< tt) all
    (sym (three_is f F 0 0 0) ∙ horner-none f F 3 ∙ sym (ap (λ n. f (f n)) none ∙ ap f none ∙ none))

-- behind a message, three octets
behind_value : (f : ℕ → ℕ) → IsLinear f → (s : ℕ) (parity : List ℕ) → length parity ≡ 3 → horner f s parity ≡ bit_xor (f (f (f s)))
    (horner f 0 parity)
behind_value f F s [] e = absurd (omega arith)
behind_value f F s (a ∷ []) e = absurd (omega arith)
behind_value f F s (a ∷ b ∷ []) e = absurd (omega arith)
behind_value f F s (a ∷ b ∷ c ∷ []) e =
    let put : horner f (bit_xor s 0) (add_front octet_field (0 ∷ 0 ∷ 0 ∷ []) (a ∷ b ∷ c ∷ [])) ≡ bit_xor (horner f s (0 ∷ 0 ∷ 0 ∷
    [])) (horner f 0 (a ∷ b ∷ c ∷ [])) =
    horner-xor f F s 0 (0 ∷ 0 ∷ 0 ∷ []) (a ∷ b ∷ c ∷ []) refl in
    let clear : horner f s (0 ∷ 0 ∷ 0 ∷ []) ≡ f (f (f s)) =
    xor_zero_r (f (bit_xor (f (bit_xor (f s) 0)) 0)) ∙ ap f (xor_zero_r (f (bit_xor (f s) 0))) ∙ ap (λ n. f (f n)) (xor_zero_r (f
    s)) in
    ap (λ n. horner f n (a ∷ b ∷ c ∷ [])) (sym (xor_zero_r s))
    ∙ ap (λ n. horner f (bit_xor s 0) (n ∷ b ∷ c ∷ [])) (sym (xor_zero_l a))
    ∙ ap (λ n. horner f (bit_xor s 0) (bit_xor 0 a ∷ n ∷ c ∷ [])) (sym (xor_zero_l b))
    ∙ ap (λ n. horner f (bit_xor s 0) (bit_xor 0 a ∷ bit_xor 0 b ∷ n ∷ [])) (sym (xor_zero_l c))
    ∙ put ∙ ap (λ n. bit_xor n (horner f 0 (a ∷ b ∷ c ∷ []))) clear
behind_value f F s (a ∷ b ∷ c ∷ d ∷ parity) e = absurd (omega arith)

-- a message with three octets behind it, at a root
whole_value : (f : ℕ → ℕ) → IsRoot f → (message parity : List ℕ) → All (λ octet. octet < 256) message → length parity ≡ 3
    → horner f 0 (message ++ parity) ≡ bit_xor (horner f 0 (check message)) (horner f 0 parity)
whole_value f R message parity all long =
    horner-append f 0 message parity ∙ behind_value f R.linear (horner f 0 message) parity long
    ∙ ap (λ n. bit_xor n (horner f 0 parity)) (sym (check_value f R message all))

-- ---- the values of the definition
times_first : (s : ℕ) → times (power 1) s ≡ shifted 1 s
unfolding times
times_first s = xor_zero_r (times_x (bit_xor 0 (s % 256))) ∙ ap times_x (xor_zero_l (s % 256)) ∙ times_x-mod s

times_second : (s : ℕ) → times (power 2) s ≡ shifted 2 s
unfolding times
times_second s =
    let once : ℕ = times_x (bit_xor 0 (s % 256)) in
    xor_zero_r (times_x (bit_xor once 0)) ∙ ap times_x (xor_zero_r once ∙ ap times_x (xor_zero_l (s % 256)) ∙ times_x-mod s)

times_third : (s : ℕ) → times (power 3) s ≡ shifted 3 s
unfolding times
times_third s =
    let once : ℕ = times_x (bit_xor 0 (s % 256)) in
    let twice : ℕ = times_x (bit_xor once 0) in
    xor_zero_r (times_x (bit_xor twice 0))
    ∙ ap times_x (xor_zero_r twice ∙ ap times_x (xor_zero_r once ∙ ap times_x (xor_zero_l (s % 256)) ∙ times_x-mod s))

horner_is : (x : ℕ) (f : ℕ → ℕ) → ((s : ℕ) → times x s ≡ f s) → (s : ℕ) (w : List ℕ) → fold (λ sum octet. bit_xor (times x sum)
    octet) s w ≡ horner f s w
horner_is x f same s [] = refl
horner_is x f same s (c ∷ w) = ap (λ n. horner' (bit_xor n c)) (same s) ∙ horner_is x f same (bit_xor (f s) c) w
  where
    horner' : ℕ → ℕ
    horner' n = fold (λ sum octet. bit_xor (times x sum) octet) n w

pub value_at_power : (k : ℕ) (w : List ℕ) → 0 < k → k ≤ 3 → value_at (power k) w ≡ at_power k w
unfolding value_at
value_at_power zero w p q = absurd (omega arith)
value_at_power (suc zero) w p q = horner_is (power 1) (shifted 1) times_first 0 w
value_at_power (suc (suc zero)) w p q = horner_is (power 2) (shifted 2) times_second 0 w
value_at_power (suc (suc (suc zero))) w p q = horner_is (power 3) (shifted 3) times_third 0 w
value_at_power (suc (suc (suc (suc k)))) w p q = absurd (omega arith)

-- the powers as the code has them
pub values : (w : List ℕ) → (value_at 2 w ≡ at_power 1 w) × (value_at 4 w ≡ at_power 2 w) × (value_at 8 w ≡ at_power 3 w)
unfolding times
values w = (
  value_at_power 1 w (omega arith) (omega arith),
  value_at_power 2 w (omega arith) (omega arith),
  value_at_power 3 w
      (omega arith) (omega arith),
)

roots_of_generator : (k : ℕ) → 0 < k → k ≤ 3 → IsRoot (shifted k)
roots_of_generator zero p q = absurd (omega arith)
roots_of_generator (suc zero) p q = root_at 1 refl
roots_of_generator (suc (suc zero)) p q = root_at 2 refl
roots_of_generator (suc (suc (suc zero))) p q = root_at 3 refl
roots_of_generator (suc (suc (suc (suc k)))) p q = absurd (omega arith)

-- ---- lists that are zero at the roots
sum-lt : (a b : List ℕ) → All (λ octet. octet < 256) a → All (λ octet. octet < 256) b → All (λ octet. octet < 256) (add_front
    octet_field a b)
sum-lt a b h k = All-add_front octet_laws a b h k

-- equal where their sum is zero
same_from_sum : (a b : List ℕ) → length a ≡ length b → add_front octet_field a b ≡ replicate (length a) 0 → a ≡ b
same_from_sum [] [] e z = refl
same_from_sum [] (y ∷ b) e z = absurd (omega arith)
same_from_sum (x ∷ a) [] e z = absurd (omega arith)
same_from_sum (x ∷ a) (y ∷ b) e z =
    let first : bit_xor x y ≡ 0 = cc in
    let rest : add_front octet_field a b ≡ replicate (length a) 0 = cc in
    let head = xor_none x y first in
    let tail = same_from_sum a b (omega arith) rest in cc

wrong-sum : (a b : List ℕ) → length a ≡ length b → wrong (add_front octet_field a b) ≡ octet_distance a b
wrong-sum [] [] e = refl
wrong-sum [] (y ∷ b) e = absurd (omega arith)
wrong-sum (x ∷ a) [] e = absurd (omega arith)
wrong-sum (x ∷ a) (y ∷ b) e =
    let rest = wrong-sum a b (omega arith) in
    elim (cases_eq x y) [
      | inl same ↦
          let none : bit_xor x y ≡ 0 = ap (λ n. bit_xor n y) same ∙ xor_self y in
          rw (none, eq-eqb x y same, rest) refl
      | inr other ↦
          rw (ne_eqb (bit_xor x y) 0 (λ z. other (xor_none x y z)), ne_eqb x y other, rest) refl
    ]

wrong-le : (a : List ℕ) → wrong a ≤ length a
wrong-le [] = omega arith
wrong-le (x ∷ a) =
    let rest = wrong-le a in
    let least : cond (x == 0) 0 1 ≤ 1 = elim (x == 0) as (λ b. cond b 0 1 ≤ 1) [ true ↦ omega arith | false ↦ omega arith ] in
    omega arith

-- two lists with the same values at the first d powers that differ in at most d places
same_values : (d : ℕ) (a b : List ℕ) → length a ≡ length b → length a ≤ 12 → All (λ octet. octet < 256) a → All (λ octet. octet <
    256) b → octet_distance a b ≤ d
    → ((k : ℕ) → 0 < k → k ≤ d → at_power k a ≡ at_power k b) → a ≡ b
same_values d a b e short small little few values =
    let sum : List ℕ = add_front octet_field a b in
    let long : length sum ≡ length a = length-add_front octet_field a b ∙ sym e in
    let few_wrong : wrong sum ≤ d = let w = wrong-sum a b e in omega arith in
    let roots : (k : ℕ) → 0 < k → k ≤ d → at_power k sum ≡ 0 =
    (λ k p q. horner-xor (shifted k) (shifted_linear k) 0 0 a b e ∙ ap (λ n. bit_xor n (at_power k b)) (values k p q) ∙ xor_self
    (at_power k b)) in
    same_from_sum a b e (all_zero (length a) d sum long short (sum-lt a b small little) few_wrong roots)

-- ---- the two laws
pub zero_at_powers : (word : List ℕ) → length word ≡ 12 → IsRsWord word → (k : ℕ) → 0 < k → k ≤ 3 → at_power k word ≡ 0
zero_at_powers word long is k p q =
    let R = roots_of_generator k p q in
    let whole = take-append-drop 9 word in
    let end : length (drop 9 word) ≡ 3 = length-drop 9 word ∙ omega arith in
    let parity : drop 9 word ≡ check (take 9 word) = only_check (take 9 word) (drop 9 word) end (is.0, is.1 ∙ sym whole) in
    ap (at_power k) (sym whole)
    ∙ whole_value (shifted k) R (take 9 word) (drop 9 word) (All-take (λ octet. octet < 256) 9 word (words_are_octets word is)) end
    ∙ ap (λ l. bit_xor (at_power k (check (take 9 word))) (at_power k l)) parity
    ∙ xor_self (at_power k (check (take 9 word)))

-- twelve octets whose values at the first three powers of x are zero are a word
pub word_from_powers : (word : List ℕ) → length word ≡ 12 → All (λ octet. octet < 256) word → ((k : ℕ) → 0 < k → k ≤ 3 → at_power k
    word ≡ 0) → IsRsWord word
word_from_powers word long small zeros =
    let Small : ℕ → Type 0 = λ octet. octet < 256 in
    let message : List ℕ = take 9 word in
    let whole = take-append-drop 9 word in
    let end : length (drop 9 word) ≡ 3 = length-drop 9 word ∙ omega arith in
    let three_long = length-check message in
    let front_small = All-take Small 9 word small in
    let values : (k : ℕ) → 0 < k → k ≤ 3 → at_power k (check message) ≡ at_power k (drop 9 word) =
    (λ k p q. xor_none (at_power k (check message)) (at_power k (drop 9 word))
    (sym (whole_value (shifted k) (roots_of_generator k p q) message (drop 9 word) front_small end) ∙ ap (at_power k) whole ∙ zeros
    k p q)) in
    let level : length (check message) ≡ length (drop 9 word) = three_long ∙ sym end in
    let few : octet_distance (check message) (drop 9 word) ≤ 3 =
    (let s = wrong-sum (check message) (drop 9 word) level in
    let l = wrong-le (add_front octet_field (check message) (drop 9 word)) in
    let n = length-add_front octet_field (check message) (drop 9 word) in omega arith) in
    let parity : check message ≡ drop 9 word =
    same_values 3 (check message) (drop 9 word) level (omega arith) (All-check message) (All-drop Small 9 word small) few values in
    let made = word_is_completed message front_small in
    (made.0, made.1 ∙ ap (λ l. message ++ l) parity ∙ whole)

-- twelve octets are a word exactly where they are zero at the three roots of the generator
pub roots : (octets : List ℕ) → length octets ≡ 12 → All (λ octet. octet < 256) octets → IsRsWord octets ↔ IsZeroAtRoots octets
roots octets long small = (
  λ word k p q. value_at_power k octets p q ∙ zero_at_powers octets long word k p q,
  λ zeros. word_from_powers octets long small (λ k p q. sym (value_at_power k octets p q) ∙ zeros k p q),
)

-- two words that differ in fewer than four places are equal
pub four_apart : (word other : List ℕ) → length word ≡ 12 → length other ≡ 12 → IsRsWord word → IsRsWord other → octet_distance
    word other < 4 → word ≡ other
four_apart word other long also is too near =
    same_values 3 word other (long ∙ sym also) (omega arith) (words_are_octets word is) (words_are_octets other too) (omega arith)
    (λ k p q. zero_at_powers word long is k p q ∙ sym (zero_at_powers other also too k p q))
