-- The table of reserved cells has product words that hold no information.
use Rattle.std.proofs.Common.{◌≡◌, ℕ, ◌<◌, ◌^◌, Bool, true, false, List, [], length, replicate, refl, sym, ◌∙◌, ap, subst, get_or}
use Rattle.std.proofs.Common.{◌&&◌}
use Rattle.std.specs.Prelude.{nat_lt}
use Rattle.std.proofs.lemmas.Bool.{agree_below_at, and_parts, ltb-true}
use Rattle.dmr_bits.specs.Bits.{bits_of, xor_bits}
use Rattle.dmr_bptc.specs.ProductWord.{information, IsProductWord}
use Rattle.dmr_bptc.specs.Octets.{spelled}
use Rattle.dmr_bptc.specs.declared.reserved.TheConstants.{RESERVED}
use Rattle.dmr_bptc.proofs.AddingOctets.{xor_zeros}
use Rattle.dmr_bptc.proofs.Existing.{length-information}
use Rattle.dmr_bptc.proofs.WrittenOctets.{are_rows, are_columns, holds, number_in, are_small, product_number, information_number}
use Rattle.dmr_bptc.proofs.WrittenOctets.{spelled_is}
use Rattle.dmr_bptc.proofs.WrittenSums.{information-xor}

-- the entry of a number of three bits
abbrev pub reserved : ℕ → List ℕ
reserved n = get_or RESERVED n []

is_bare : List ℕ → Bool
is_bare words =
    are_small words && (are_rows (number_in words) && (are_columns (number_in words) && holds 0 (number_in words)))

all_bare : (n : ℕ) → n < 8 → is_bare (reserved n) ≡ true
unfolding is_bare
all_bare n h = agree_below_at (λ n. is_bare (reserved n)) (λ n. true) 8 n refl h

record IsBare (n : ℕ) : Type 0 where
  word : IsProductWord (spelled (reserved n))
  bare : information (spelled (reserved n)) ≡ replicate 96 false
  small : are_small (reserved n) ≡ true

bare : (n : ℕ) → n < 8 → IsBare n
unfolding is_bare
bare n h =
    let w : ℕ = number_in (reserved n) in
    let all = and_parts (are_small (reserved n)) _ (all_bare n h) in
    let more = and_parts (are_rows w) _ all.1 in
    let rest = and_parts (are_columns w) _ more.1 in
    let is : bits_of 196 w ≡ spelled (reserved n) = spelled_is (reserved n) all.0 in
    let none : bits_of 96 0 ≡ replicate 96 false = refl in
    record {
      word = subst IsProductWord is (product_number w more.0 rest.0);
      bare = ap information (sym is) ∙ information_number 0 w rest.1 ∙ none;
      small = all.0;
    }

-- each entry is a product word
pub reserved_word : (n : ℕ) → n < 8 → IsProductWord (spelled (reserved n))
reserved_word n h = (bare n h).word

-- and a word that it is added to holds what it held
pub reserved_added : (a : List Bool) (n : ℕ) → length a ≡ 196 → length (spelled (reserved n)) ≡ 196 → n < 8
    → information (xor_bits a (spelled (reserved n))) ≡ information a
reserved_added a n e f h =
    let long : length (information a) ≡ 96 = length-information a in
    information-xor (information a) (replicate 96 false) a (spelled (reserved n)) e f refl (bare n h).bare
    ∙ ap (λ k. xor_bits (information a) (replicate k false)) (sym long)
    ∙ xor_zeros (information a)

-- the last word of each entry has four bits
pub reserved_fits : (n : ℕ) → n < 8 → get_or (reserved n) 3 0 < 16
reserved_fits n h =
    let words : List ℕ = reserved n in
    let all = and_parts (nat_lt (get_or words 0 0) (2 ^ 64)) _ (bare n h).small in
    let more = and_parts (nat_lt (get_or words 1 0) (2 ^ 64)) _ all.1 in
    let last = and_parts (nat_lt (get_or words 2 0) (2 ^ 64)) _ more.1 in
    ltb-true (get_or words 3 0) (2 ^ 4) last.1
