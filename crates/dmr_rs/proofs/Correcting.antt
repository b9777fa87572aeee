-- The search for the one wrong octet among twelve, from the last place to the first.
use Rattle.std.proofs.Common.{◌≡◌, ℕ, zero, suc, ◌+◌, ◌-◌, ◌*◌, ◌<◌, ◌≤◌, List}
use Rattle.std.proofs.Common.{[], ◌∷◌, length, sym, ◌∙◌, ap, arith, set, get_or, inl, inr}
use Rattle.std.specs.Prelude.{bit_xor}
use Rattle.std.specs.Int.Bits.{xor_assoc, xor_self}
use Rattle.std.specs.List.{All}
use Rattle.std.proofs.lemmas.Nat.{xor_comm, xor_lt}
use Rattle.std.proofs.lemmas.Bool.{cases_eq}
use Rattle.std.proofs.lemmas.List.{length-set}
use Rattle.std.proofs.lemmas.List.Elements.{All-head, All-tail, All-set, All-get_or}
use Rattle.dmr_rs.specs.Field.{times_x}
use Rattle.dmr_rs.specs.Word.{IsRsWord, octet_distance}
use Rattle.dmr_rs.proofs.Field.{xor_twice, xor_none}
use Rattle.dmr_rs.proofs.Powers.{shifted, shifted_linear, shifted-lt, shifted-add, shifted_none, horner, at_power, at_power-cons}
use Rattle.dmr_rs.proofs.Roots.{words_are_octets, zero_at_powers, word_from_powers}
use Rattle.dmr_rs.proofs.Near.{one_apart}

horner-lt : (m s : ℕ) (w : List ℕ) → s < 256 → All (λ octet. octet < 256) w → horner (shifted m) s w < 256
horner-lt m s [] h small = h
horner-lt m s (c ∷ w) h small =
    let Small : ℕ → Type 0 = λ octet. octet < 256 in
    horner-lt m (bit_xor (shifted m s) c) w (xor_lt 8 (shifted m s) c (shifted-lt m s h) (All-head Small c w small)) (All-tail
    Small c w small)

-- octets with the same power of x are equal
same_octet : (n a b : ℕ) → a < 256 → b < 256 → shifted n a ≡ shifted n b → a ≡ b
same_octet n a b h k e =
    let N = shifted_linear n in
    xor_none a b (shifted_none n (bit_xor a b) (xor_lt 8 a b h k) (N.sum a b ∙ ap (λ c. bit_xor c (shifted n b)) e ∙ xor_self
    (shifted n b)))

-- an octet added in one place is seen in the values
at_power-set : (m i e : ℕ) (es : List ℕ) → i < length es → at_power m (set es i (bit_xor (get_or es i 0) e)) ≡ bit_xor (at_power m
    es) (shifted ((length es - 1 - i) * m) e)
at_power-set m i e [] h = absurd (omega arith)
at_power-set m zero e (c ∷ es) h =
    let L = shifted_linear (length es * m) in
    let place : suc (length es) - 1 - 0 ≡ length es = omega arith in
    at_power-cons m (bit_xor c e) es
    ∙ ap (λ n. bit_xor n (at_power m es)) (L.sum c e)
    ∙ xor_assoc (shifted (length es * m) c) (shifted (length es * m) e) (at_power m es)
    ∙ ap (bit_xor (shifted (length es * m) c)) (xor_comm (shifted (length es * m) e) (at_power m es))
    ∙ sym (xor_assoc (shifted (length es * m) c) (at_power m es) (shifted (length es * m) e))
    ∙ ap (λ n. bit_xor n (shifted (length es * m) e)) (sym (at_power-cons m c es))
    ∙ ap (λ n. bit_xor (at_power m (c ∷ es)) (shifted (n * m) e)) (sym place)
at_power-set m (suc i) e (c ∷ es) h =
    let place : suc (length es) - 1 - suc i ≡ length es - 1 - i = omega arith in
    let other : List ℕ = set es i (bit_xor (get_or es i 0) e) in
    let more : ℕ = shifted ((length es - 1 - i) * m) e in
    at_power-cons m c other
    ∙ ap (λ n. bit_xor (shifted (n * m) c) (at_power m other)) (length-set es i (bit_xor (get_or es i 0) e))
    ∙ ap (bit_xor (shifted (length es * m) c)) (at_power-set m i e es (omega arith))
    ∙ sym (xor_assoc (shifted (length es * m) c) (at_power m es) more)
    ∙ ap (λ n. bit_xor n more) (sym (at_power-cons m c es))
    ∙ ap (λ n. bit_xor (at_power m (c ∷ es)) (shifted (n * m) e)) (sym place)

-- the values are those of an error in one place
abbrev pub IsErrorAt : List ℕ → ℕ → ℕ → Type 0
IsErrorAt octets i e = (k : ℕ) → 0 < k → k ≤ 3 → at_power k octets ≡ shifted ((11 - i) * k) e

-- the places from `place` on have no such error, and the three octets are the values brought to the place before
pub record IsSearched (octets : List ℕ) (place first second third : ℕ) : Type 0 where
  pub first_is : shifted ((12 - place) * 1) first ≡ at_power 1 octets
  pub second_is : shifted ((12 - place) * 2) second ≡ at_power 2 octets
  pub third_is : shifted ((12 - place) * 3) third ≡ at_power 3 octets
  pub first_fits : first < 256
  pub second_fits : second < 256
  pub third_fits : third < 256
  pub elsewhere : (i e : ℕ) → place ≤ i → i < 12 → e < 256 → IsErrorAt octets i e → ⊥

-- before the search no place has been searched, and the three octets are the values at the three powers
pub searched_none : (octets : List ℕ) (first second third : ℕ) → All (λ octet. octet < 256) octets → first ≡ at_power 1 octets →
    second ≡ at_power 2 octets → third ≡ at_power 3 octets → IsSearched octets 12 first second third
searched_none octets first second third small p q r = record {
  first_is = p;
  second_is = q;
  third_is = r;
  first_fits = (let l = horner-lt 1 0 octets (omega arith) small in omega arith);
  second_fits = (let l = horner-lt 2 0 octets (omega arith) small in omega arith);
  third_fits = (let l = horner-lt 3 0 octets (omega arith) small in omega arith);
  elsewhere = λ i e h k fits error. omega arith;
}

-- where the three octets aren't all equal, the place before holds no error, and the search goes on
pub searched_more : (octets : List ℕ) (place first second third next_first next_second next_third : ℕ) → 0 < place → place ≤ 12 →
    IsSearched octets place first second third
    → (first ≡ second → second ≡ third → ⊥)
    → times_x next_first ≡ first → times_x (times_x next_second) ≡ second → times_x (times_x (times_x next_third)) ≡ third
    → next_first < 256 → next_second < 256 → next_third < 256
    → IsSearched octets (place - 1) next_first next_second next_third
searched_more octets place first second third next_first next_second next_third some few is differ p q r fits_p fits_q fits_r =
    let n : ℕ = 12 - place in
    let one : (12 - (place - 1)) * 1 ≡ n * 1 + 1 = omega arith in
    let two : (12 - (place - 1)) * 2 ≡ n * 2 + 2 = omega arith in
    let three : (12 - (place - 1)) * 3 ≡ n * 3 + 3 = omega arith in
    record {
      first_is = ap (λ k. shifted k next_first) one ∙ shifted-add (n * 1) 1 next_first ∙ ap (shifted (n * 1)) p ∙ is.first_is;
      second_is = ap (λ k. shifted k next_second) two ∙ shifted-add (n * 2) 2 next_second ∙ ap (shifted (n * 2)) q ∙ is.second_is;
      third_is = ap (λ k. shifted k next_third) three ∙ shifted-add (n * 3) 3 next_third ∙ ap (shifted (n * 3)) r ∙ is.third_is;
      first_fits = fits_p;
      second_fits = fits_q;
      third_fits = fits_r;
      elsewhere = λ i e h k fits error.
          elim (cases_eq i (place - 1)) [
            | inl same ↦
                let here : 11 - i ≡ n = omega arith in
                let a : first ≡ e = same_octet (n * 1) first e is.first_fits fits (is.first_is ∙ error 1 (omega arith) (omega
                arith) ∙ ap (λ j. shifted (j * 1) e) here) in
                let b : second ≡ e = same_octet (n * 2) second e is.second_fits fits (is.second_is ∙ error 2 (omega arith) (omega
                arith) ∙ ap (λ j. shifted (j * 2) e) here) in
                let c : third ≡ e = same_octet (n * 3) third e is.third_fits fits (is.third_is ∙ error 3 (omega arith) (omega
                arith) ∙ ap (λ j. shifted (j * 3) e) here) in
                differ (a ∙ sym b) (b ∙ sym c)
            | inr other ↦ is.elsewhere i e (omega arith) k fits error
          ];
    }

-- where the three are equal, the octet in the place before is wrong by them
pub found : (octets : List ℕ) (place first second third : ℕ) → length octets ≡ 12 → All (λ octet. octet < 256) octets → 0 < place →
    place ≤ 12 → IsSearched octets place first second third
    → first ≡ second → second ≡ third → IsRsWord (set octets (place - 1) (bit_xor (get_or octets (place - 1) 0) first))
found octets place first second third long small some few is p q =
    let i : ℕ = place - 1 in
    let Small : ℕ → Type 0 = λ octet. octet < 256 in
    let octet : ℕ = get_or octets i 0 in
    let inside : i < length octets = omega arith in
    let right : ℕ = bit_xor octet first in
    let fits : right < 256 = xor_lt 8 octet first (All-get_or Small octets i 0 inside small) is.first_fits in
    let here : length octets - 1 - i ≡ 12 - place = omega arith in
    let error : (k : ℕ) → 0 < k → k ≤ 3 → shifted ((12 - place) * k) first ≡ at_power k octets = error_is octets place first second
    third is p q in
    word_from_powers (set octets i right) (length-set octets i right ∙ long) (All-set Small octets i right fits small)
    (λ k a b. at_power-set k i first octets inside
    ∙ ap (λ n. bit_xor (at_power k octets) (shifted (n * k) first)) here
    ∙ ap (bit_xor (at_power k octets)) (error k a b) ∙ xor_self (at_power k octets))
  where
    error_is : (octets : List ℕ) (place first second third : ℕ) → IsSearched octets place first second third → first ≡ second →
        second ≡ third → (k : ℕ) → 0 < k → k ≤ 3 → shifted ((12 - place) * k) first ≡ at_power k octets
    error_is octets place first second third is p q zero a b = absurd (omega arith)
    error_is octets place first second third is p q (suc zero) a b = is.first_is
    error_is octets place first second third is p q (suc (suc zero)) a b = ap (shifted ((12 - place) * 2)) p ∙ is.second_is
    error_is octets place first second third is p q (suc (suc (suc zero))) a b = ap (shifted ((12 - place) * 3)) (p ∙ q) ∙
        is.third_is
    error_is octets place first second third is p q (suc (suc (suc (suc k)))) a b = absurd (omega arith)

-- where no place is left, no word is near
pub none_near : (octets : List ℕ) (place first second third : ℕ) → length octets ≡ 12 → All (λ octet. octet < 256) octets → place ≡
    0 → IsSearched octets place first second third
    → (word : List ℕ) → length word ≡ 12 → IsRsWord word → octet_distance word octets ≤ 1 → ⊥
none_near octets place first second third long small none is word count word_is near =
    let Small : ℕ → Type 0 = λ octet. octet < 256 in
    let one = one_apart word octets (count ∙ sym long) near (omega arith) in
    let i : ℕ = one.0 in
    let inside : i < length octets = one.1 in
    let octet : ℕ = get_or octets i 0 in
    let right : ℕ = get_or word i 0 in
    let e : ℕ = bit_xor octet right in
    let same : word ≡ set octets i (bit_xor octet e) = one.2 ∙ ap (set octets i) (sym (xor_twice octet right)) in
    let below : i < length word = omega arith in
    let fits : e < 256 = xor_lt 8 octet right (All-get_or Small octets i 0 inside small) (All-get_or Small word i 0 below
    (words_are_octets word word_is)) in
    let here : length octets - 1 - i ≡ 11 - i = omega arith in
    is.elsewhere i e (omega arith) (omega arith) fits
    (λ k a b. xor_none (at_power k octets) (shifted ((11 - i) * k) e)
    (ap (λ n. bit_xor (at_power k octets) (shifted (n * k) e)) (sym here) ∙ sym (at_power-set k i e octets inside) ∙ ap (at_power
    k) (sym same)
    ∙ zero_at_powers word count word_is k a b))
