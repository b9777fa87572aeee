-- Words that are numbers.
use Rattle.std.proofs.Common.{◌≡◌, ◌≢◌, ℕ, zero, suc, ◌^◌, ◌<◌, true, false, not, List, length, get_or, Result, Ok, Err}
use Rattle.std.proofs.Common.{MatchResult, Option, IfSome, IfNone, ap, ◌∙◌, sym, subst, arith, ⊎_elim}
use Rattle.std.specs.Bool.{◌==◌}
use Rattle.std.specs.Fmt.{decimal}
use Rattle.std.specs.Result.{is_err, result_ok}
use Rattle.std.specs.Str.{IsUtf8}
use Rattle.std.specs.Str.Parse.{AllDigits, ParsesUnsigned, digits_value}
use Rattle.std.proofs.lemmas.Bool.{true≢false, both_ways, and_parts, and_from, or_cases, or_left, not-true, eqb-true, ne_eqb}
use Rattle.std.proofs.lemmas.Bool.{eq-eqb}
use Rattle.std.proofs.lemmas.Fmt.{parse-decimal, decimal-digits_value, first_decimal, decimal_digit, IsAscii-decimal}
use Rattle.std.proofs.lemmas.Str.{IsUtf8-from_ascii}
use Rattle.std.proofs.lemmas.Str.Parse.{IsNumeralModel, numerals_by_value, tells_digits, parse_plain}
use Rattle.dmr_words.specs.Numbers.{has_plain_front}

own : IsNumeralModel (AllDigits 10) (digits_value 10)
own = numerals_by_value (AllDigits 10) tells_digits

no_plus : (w : List ℕ) → has_plain_front w ≡ true → get_or w 0 0 ≢ 43
no_plus w h e = both_ways (get_or w 0 0 == 43) (not-true _ (and_parts _ _ h).0) (eq-eqb _ 43 e)

one_zero : (w : List ℕ) → has_plain_front w ≡ true → get_or w 0 0 ≡ 48 → length w ≡ 1
one_zero w h e = ⊎_elim
    (λ n. absurd (both_ways (get_or w 0 0 == 48) (not-true _ n) (eq-eqb _ 48 e)))
    (λ l. eqb-true (length w) 1 l) (or_cases _ _ (and_parts _ _ h).1)

-- a word that parses, in the words of the standard library, is what is written of its number
pub parsed : {E : Type 0} (w : List ℕ) (r : Result ℕ E) → has_plain_front w ≡ true → ParsesUnsigned 32 10 w r
    → MatchResult r (λ n. w ≡ decimal n) (λ e. (n : ℕ) → n < 2 ^ 32 → w ≢ decimal n)
parsed {E} w (Ok x) h p =
    let k = parse_plain own {E = E} 32 w (Ok x) p (no_plus w h) in
    sym (decimal-digits_value own w k.0.0 k.0.1 (one_zero w h) (omega (arith, k.0.2))) ∙ ap decimal (sym k.1)
parsed {E} w (Err e) h p = λ n l same. true≢false (ap is_err (parse-decimal 32 n w (Err e) l (omega (arith, l)) same p))

-- the same of the number or none
Answers : List ℕ → Option ℕ → Type 0
Answers w o = IfSome o (λ n. w ≡ decimal n) × IfNone o ((n : ℕ) → n < 2 ^ 32 → w ≢ decimal n)

at_result : {E : Type 0} (w : List ℕ) (r : Result ℕ E) → MatchResult r (λ n. w ≡ decimal n) (λ e. (n : ℕ) → n < 2 ^ 32
    → w ≢ decimal n)
    → Answers w (result_ok r)
unfolding Answers
at_result w (Ok x) m = (m, tt)
at_result w (Err e) m = (tt, m)

-- A word with a plain front spells the number that it parses as; where it parses as none, it spells no number of 32 bits.
pub answered : {E : Type 0} (w text : List ℕ) (r : Result ℕ E) (o : Option ℕ) → has_plain_front w ≡ true → text ≡ w
    → ParsesUnsigned 32 10 text r → o ≡ result_ok r → IfSome o (λ n. w ≡ decimal n)
    × IfNone o ((n : ℕ) → n < 2 ^ 32 → w ≢ decimal n)
unfolding Answers
answered {E} w text r o h same p is =
    let q = subst (λ (t : List ℕ). ParsesUnsigned 32 10 t r) same p in
    subst (Answers w) (sym is) (at_result w r (parsed w r h q))

plain : (n : ℕ) → n < 2 ^ 32 → has_plain_front (decimal n) ≡ true
plain zero l = ap has_plain_front (decimal_digit 0 (omega arith))
plain (suc n) l =
    let first = first_decimal (suc n) (omega arith) (omega (arith, l)) in
    let a : get_or (decimal (suc n)) 0 0 ≢ 43 = λ e. absurd (omega (arith, e, first)) in
    let b : get_or (decimal (suc n)) 0 0 ≢ 48 = λ e. absurd (omega (arith, e, first)) in
    and_from _ _ (ap not (ne_eqb _ 43 a)) (or_left _ _ (ap not (ne_eqb _ 48 b)))

-- what is written of a number has nothing needless in front
pub not_plain : (w : List ℕ) → has_plain_front w ≡ false → (n : ℕ) → n < 2 ^ 32 → w ≢ decimal n
not_plain w h n l e = both_ways (has_plain_front w) h (ap has_plain_front e ∙ plain n l)

-- nor anything but ASCII
pub not_text : (w : List ℕ) → (IsUtf8 w → ⊥) → (n : ℕ) → n < 2 ^ 32 → w ≢ decimal n
not_text w h n l e = h (subst IsUtf8 (sym e) (IsUtf8-from_ascii (decimal n) (IsAscii-decimal n (omega (arith, l)))))
