-- Voice bursts with an EMB are far from the syncs of a mobile station, where the octets of their embedded field are even.
use Rattle.std.proofs.Common.{◌≡◌, ℕ, ◌+◌, ◌/◌, ◌%◌, ◌^◌, ◌==◌, ◌<◌, ◌≤◌, Bool, true, false, cond, List, [], ◌∷◌, ◌++◌, length}
use Rattle.std.proofs.Common.{refl, sym, ap, subst, ◌∙◌, arith, lit≤, lit<}
use Rattle.std.specs.List.{list_all}
use Rattle.std.proofs.lemmas.Bool.{and_parts, eqb-true}
use Rattle.std.proofs.lemmas.List.{length-append, take_all}
use Rattle.std.proofs.lemmas.List.Sums.{sum_by-append}
use Rattle.dmr_bits.specs.Bits.{bits_of, part, weight, xor_bits, distance}
use Rattle.dmr_bits.proofs.Lists.{bits_of_spelled, distance_zero, length-xor_bits, weight-cons, xor_bits-append}
use Rattle.dmr_bits.proofs.Parts.{length-part}
use Rattle.dmr_burst.proofs.Pieces.{part-part, parts_meet}
use Rattle.dmr_burst.specs.Burst.{IsEncoding}
use Rattle.dmr_burst.specs.Layout.{embedded_field, sync_field}
use Rattle.dmr_burst.specs.Sync.{sync_word}
use Rattle.dmr_burst.specs.declared.burst.Burst.TheVariants as burst
use Rattle.dmr_burst.specs.declared.emb.Emb.{Emb}
use Rattle.dmr_burst.specs.declared.sync.Side.{Side}
use Rattle.dmr_burst.specs.declared.sync.Side.TheVariants.{Ms}
use Rattle.dmr_codes.specs.Code.{ones_over}
use Rattle.dmr_codes.specs.Seven.{IsResidue16, residue16_columns}
use Rattle.dmr_codes.specs.Words.{ones_over-xor}
use Rattle.dmr_embedded.specs.EmbeddedWord.{IsEven}
use Rattle.dmr_hearing.specs.Damage.{HasNoMobileSync}

-- each of the four octets of an embedded field has an even number of ones
pub record HasEvenOctets (field : ℕ) : Type 0 where
  pub first : IsEven (part (bits_of 32 field) 0 8)
  pub second : IsEven (part (bits_of 32 field) 8 16)
  pub third : IsEven (part (bits_of 32 field) 16 24)
  pub last : IsEven (part (bits_of 32 field) 24 32)

-- 1. Bits that differ.

-- a check over all places counts the ones
all_ones : (cs : List ℕ) (w : List Bool) → list_all (λ c. c / 2 ^ 0 % 2 == 1) cs ≡ true → length w ≡ length cs
    → ones_over 0 cs w ≡ weight w
all_ones [] [] a l = refl
all_ones [] (b ∷ w) a l = absurd (omega arith)
all_ones (c ∷ cs) [] a l = absurd (omega arith)
all_ones (c ∷ cs) (true ∷ w) a l =
    let parts = and_parts (c / 2 ^ 0 % 2 == 1) (list_all (λ d. d / 2 ^ 0 % 2 == 1) cs) a in
    omega (arith, eqb-true (c / 2 ^ 0 % 2) 1 parts.0, weight-cons true w, all_ones cs w parts.1 (omega arith))
all_ones (c ∷ cs) (false ∷ w) a l =
    let parts = and_parts (c / 2 ^ 0 % 2 == 1) (list_all (λ d. d / 2 ^ 0 % 2 == 1) cs) a in
    omega (arith, weight-cons false w, all_ones cs w parts.1 (omega arith))

-- Bits with an even number of ones, and an odd one over check 8, are no word of an EMB. Words have even numbers of ones, so such
-- bits differ from each in two places at least.
emb_apart : (ends word : List Bool) → length ends ≡ 16 → IsResidue16 word → weight ends % 2 ≡ 0
    → ones_over 8 residue16_columns ends % 2 ≡ 1 → 2 ≤ distance ends word
emb_apart ends word long is even odd =
    let same_length : length ends ≡ length word = long ∙ sym is.long in
    let sum : List Bool = xor_bits ends word in
    let counted = all_ones residue16_columns sum refl (length-xor_bits ends word same_length ∙ long) in
    let counted_ends = all_ones residue16_columns ends refl long in
    let checked = ones_over-xor 0 residue16_columns ends word same_length in
    let word_even = is.even 0 (lit< tt) in
    let word_checked = is.even 8 (lit< tt) in
    let none : distance ends word ≡ 0 → ⊥ =
    λ e. let same = ap (ones_over 8 residue16_columns) (distance_zero ends word same_length e) in
    absurd (omega (arith, same, odd, word_checked)) in
    let halves : distance ends word % 2 ≡ 0 = omega (arith, counted, counted_ends, checked, word_even, even) in
    omega (arith, none, halves)

-- Bits with an odd number of ones differ from bits with an even one.
octet_apart : (a b : List Bool) → length a ≡ length b → weight a % 2 ≡ 1 → IsEven b → 1 ≤ distance a b
octet_apart a b e odd even =
    let none : distance a b ≡ 0 → ⊥ =
    λ zero. let same = ap weight (distance_zero a b e zero) in absurd (omega (arith, same, odd, even)) in
    omega (arith, none)

-- 2. The centre of a burst.

distance-append : (a b x y : List Bool) → length a ≡ length b → distance (a ++ x) (b ++ y) ≡ distance a b + distance x y
distance-append a b x y e =
    ap weight (xor_bits-append a x b y e) ∙ sum_by-append (λ bit. cond bit 1 0) (xor_bits a b) (xor_bits x y)

-- in how many places two lists of 48 bits differ from one place up to another
between : List Bool → List Bool → ℕ → ℕ → ℕ
between x y from to = distance (part x from to) (part y from to)

joined : (x y : List Bool) (from middle to : ℕ) → length x ≡ 48 → length y ≡ 48 → from ≤ middle → middle ≤ to → to ≤ 48
    → between x y from to ≡ between x y from middle + between x y middle to
unfolding between
joined x y from middle to e f h k l =
    let a = length-part x from middle h (omega (arith, e, k, l)) in
    let b = length-part y from middle h (omega (arith, f, k, l)) in
    ap (λ (z : List Bool). distance z (part y from to)) (sym (parts_meet x from middle to h k))
    ∙ ap (λ (z : List Bool). distance (part x from middle ++ part x middle to) z) (sym (parts_meet y from middle to h k))
    ∙ distance-append (part x from middle) (part y from middle) (part x middle to) (part y middle to) (a ∙ sym b)

-- What sets 48 bits apart from the centres of such bursts. Their ends have an even number of ones, and over check 8 of an EMB an
-- odd one. Each of the two octets in the middle has an odd number of ones.
record IsApart (word : List Bool) : Type 0 where
  long : length word ≡ 48
  even : weight (part word 0 8 ++ part word 40 48) % 2 ≡ 0
  checked : ones_over 8 residue16_columns (part word 0 8 ++ part word 40 48) % 2 ≡ 1
  second : weight (part word 16 24) % 2 ≡ 1
  third : weight (part word 24 32) % 2 ≡ 1

-- So it is with both sync words of a mobile station, by computation.
syncs_apart : (voice : Bool) → IsApart (sync_word Ms voice)
unfolding sync_word
syncs_apart true = record { long = refl; even = refl; checked = refl; second = refl; third = refl }
syncs_apart false = record { long = refl; even = refl; checked = refl; second = refl; third = refl }

-- a centre whose ends are a word of an EMB, and whose other octets are even
record IsCentre (centre : List Bool) : Type 0 where
  long : length centre ≡ 48
  emb : IsResidue16 (part centre 0 8 ++ part centre 40 48)
  second : IsEven (part centre 16 24)
  third : IsEven (part centre 24 32)

-- Two places differ in the ends at least, and one in each of these octets: more than three.
centre_apart : (word centre : List Bool) → IsApart word → IsCentre centre → 3 < distance word centre
unfolding between
centre_apart word centre a c =
    let p = a.long in
    let q = c.long in
    let octet : (from : ℕ) → from + 8 ≤ 48 → length (part word from (from + 8)) ≡ length (part centre from (from + 8)) =
    λ from le. length-part word from (from + 8) (omega arith) (omega (arith, le, p))
    ∙ sym (length-part centre from (from + 8) (omega arith) (omega (arith, le, q))) in
    let first = octet 0 (lit≤ tt) in
    let long = length-append (part word 0 8) (part word 40 48) in
    let front = length-part word 0 8 (lit≤ tt) (omega (arith, p)) in
    let back = length-part word 40 48 (lit≤ tt) (omega (arith, p)) in
    let ends = emb_apart (part word 0 8 ++ part word 40 48) (part centre 0 8 ++ part centre 40 48)
    (omega (arith, long, front, back)) c.emb a.even a.checked in
    let split = distance-append (part word 0 8) (part centre 0 8) (part word 40 48) (part centre 40 48) first in
    let second = octet_apart (part word 16 24) (part centre 16 24) (octet 16 (lit≤ tt)) a.second c.second in
    let third = octet_apart (part word 24 32) (part centre 24 32) (octet 24 (lit≤ tt)) a.third c.third in
    let all : between word centre 0 48 ≡ distance word centre =
    ap (λ (z : List Bool). distance z (part centre 0 48)) (take_all 48 word (omega (arith, p)))
    ∙ ap (λ (z : List Bool). distance word z) (take_all 48 centre (omega (arith, q))) in
    let j = joined word centre 0 8 48 p q (lit≤ tt) (lit≤ tt) (lit≤ tt) in
    let k = joined word centre 8 16 48 p q (lit≤ tt) (lit≤ tt) (lit≤ tt) in
    let l = joined word centre 16 24 48 p q (lit≤ tt) (lit≤ tt) (lit≤ tt) in
    let m = joined word centre 24 32 48 p q (lit≤ tt) (lit≤ tt) (lit≤ tt) in
    let n = joined word centre 32 40 48 p q (lit≤ tt) (lit≤ tt) (lit≤ tt) in
    omega (arith, ends, split, second, third, all, j, k, l, m, n)

-- 3. The burst.

-- what stands in the centre of one
centre_is : (emb : Emb) (embedded : ℕ) (vocoder : List Bool) (side : Side) (bits : List Bool) → HasEvenOctets embedded
    → IsEncoding (burst.Voice emb embedded vocoder) side bits → IsCentre (sync_field bits)
centre_is emb embedded vocoder side bits even is =
    let long = is.0 in
    let field : bits_of 32 embedded ≡ embedded_field bits =
    ap (bits_of 32) (sym is.3)
    ∙ bits_of_spelled 32 (embedded_field bits) (length-part bits 116 148 (lit≤ tt) (omega (arith, long))) in
    let inner : (at : ℕ) → at + 8 ≤ 32 → part (bits_of 32 embedded) at (at + 8) ≡ part bits (116 + at) (116 + (at + 8)) =
    λ at le. ap (λ (z : List Bool). part z at (at + 8)) field
    ∙ part-part bits 116 148 at (at + 8) (omega arith) (omega (arith, le)) in
    let outer : (from to : ℕ) → from ≤ to → to ≤ 48 → part (sync_field bits) from to ≡ part bits (108 + from) (108 + to) =
    λ from to le within. part-part bits 108 156 from to le (omega (arith, within)) in
    record {
      long = length-part bits 108 156 (lit≤ tt) (omega (arith, long));
      emb = subst IsResidue16 (sym (ap (λ (z : List Bool). z ++ part (sync_field bits) 40 48) (outer 0 8 (lit≤ tt) (lit≤ tt))
          ∙ ap (λ (z : List Bool). part bits 108 116 ++ z) (outer 40 48 (lit≤ tt) (lit≤ tt)))) is.1;
      second = subst IsEven (inner 8 (lit≤ tt) ∙ sym (outer 16 24 (lit≤ tt) (lit≤ tt))) even.second;
      third = subst IsEven (inner 16 (lit≤ tt) ∙ sym (outer 24 32 (lit≤ tt) (lit≤ tt))) even.third;
    }

-- A voice burst with an EMB is more than three bits from both syncs of a mobile station, where its embedded field has even octets.
pub far_from_syncs : (emb : Emb) (embedded : ℕ) (vocoder : List Bool) (side : Side) (bits : List Bool) → HasEvenOctets embedded
    → IsEncoding (burst.Voice emb embedded vocoder) side bits → HasNoMobileSync bits
far_from_syncs emb embedded vocoder side bits even is =
    let centre = centre_is emb embedded vocoder side bits even is in record {
      voice = centre_apart (sync_word Ms true) (sync_field bits) (syncs_apart true) centre;
      data_sync = centre_apart (sync_word Ms false) (sync_field bits) (syncs_apart false) centre;
    }
