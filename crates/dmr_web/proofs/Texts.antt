-- Lines behind the first octets of a text.
use Rattle.std.proofs.Common.{◌≡◌, ◌≢◌, ℕ, zero, suc, ◌+◌, ◌<◌, ◌≤◌, Bool, true, false, if◌then◌else◌, List, [], ◌∷◌, ◌++◌}
use Rattle.std.proofs.Common.{length, take, drop, codes}
use Rattle.std.specs.Prelude.{IfSome}
use Rattle.std.proofs.Common.{Option, None, Some, ◌⊎◌, inl, inr, refl, sym, ap, ◌∙◌, subst, arith, append-nil, append_assoc, leb}
use Rattle.std.proofs.Common.{nat_le}
use Rattle.std.proofs.KnownBytes.{Appends-trans}
use Rattle.std.proofs.Math.Seq.{drop-nil}
use Rattle.std.proofs.lemmas.List.{take_all}
use Rattle.std.proofs.lemmas.List.Elements.{All-append}
use Rattle.std.specs.Io.KnownBytes.{Appends}
use borrow.Rule.Slice.PartMut.{put_mid}
use Rattle.dmr_record.proofs.Pieces.{take-put_mid_front}
use Rattle.std.proofs.lemmas.Bool.{le-leb}
use Rattle.std.proofs.lemmas.Bool.Decides.{leb_tells}
use Rattle.dmr_lines.specs.Line.{IsOneLine, PutsLine, line_octets}
use Rattle.dmr_show.proofs.Printed.{puts_more, puts_none, puts_one}
use Rattle.dmr_show.specs.Printed.{PutsLines}
use Rattle.dmr_listing.specs.ListingRules.{GivenInTurn}
use Rattle.dmr_web.specs.Heads.{PutsHeadedLine}
use Rattle.dmr_web.specs.Windows.{front_held}

at_end : (at : ℕ) → at + 0 ≡ at
at_end at = omega arith

-- what stands before them stays
front_kept : (at k : ℕ) (xs ys : List ℕ) → at ≤ length xs → take at (put_mid at k xs ys) ≡ take at xs
front_kept at k xs ys within = subst (λ n. take n (put_mid at k xs ys) ≡ take at xs) (at_end at)
    (take-put_mid_front at k 0 xs ys within (omega arith) ∙ append-nil (take at xs))

pub front_same : (at k : ℕ) (xs ys : List ℕ) → at ≤ length xs → front_held (put_mid at k xs ys) at ≡ front_held xs at
front_same at k xs ys within = ap Some (front_kept at k xs ys within)

-- a line that was printed to the rest of a text stands behind what was there
pub line_behind : (at k n : ℕ) (xs ys : List ℕ) → at ≤ length xs → n ≤ length ys
    → (text : List ℕ) × IsOneLine text × (take n ys ≡ line_octets text)
    → PutsLine (front_held xs at) (front_held (put_mid at k xs ys) (at + n))
line_behind at k n xs ys within fits (text, one, same) = record {
  text = text;
  one = one;
  octets = take-put_mid_front at k n xs ys within fits ∙ ap (λ l. take at xs ++ l) same;
}

-- octets that were put there stand behind what was there
pub octets_behind : (at k n : ℕ) (xs ys : List ℕ) → at ≤ length xs → n ≡ length ys
    → Appends (front_held xs at) (front_held (put_mid at k xs ys) (at + n)) ys
octets_behind at k n xs ys within many = take-put_mid_front at k n xs ys within (omega (arith, many))
    ∙ ap (λ l. take at xs ++ l) (take_all n ys (omega (arith, many)))

take_front : (m n : ℕ) (xs : List ℕ) → m ≤ n → take m (take n xs) ≡ take m xs
take_front zero n xs less = refl
take_front (suc m) zero xs less = absurd (omega (arith, less))
take_front (suc m) (suc n) [] less = refl
take_front (suc m) (suc n) (x ∷ xs) less = ap (λ l. x ∷ l) (take_front m n xs (omega (arith, less)))

some_same : (xs ys : List ℕ) → ◌≡◌ {A = Option (List ℕ)} (Some xs) (Some ys) → xs ≡ ys
some_same xs ys same = cc

-- what is the same up to a place is the same before it
pub front_before : (count begun : ℕ) (xs ys zs : List ℕ) → count ≤ begun → front_held ys begun ≡ front_held xs begun
    → front_held xs count ≡ front_held zs count → front_held ys count ≡ front_held zs count
front_before count begun xs ys zs less same before =
    ap Some (sym (take_front count begun ys less)
    ∙ ap (take count) (some_same (take begun ys) (take begun xs) same) ∙ take_front count begun xs less) ∙ before

-- a head and a line behind it are a line
pub head_and_rest : (a b c : Option (List ℕ)) (head : List ℕ) → IsOneLine head → Appends a b head → PutsLine b c
    → PutsHeadedLine a head c
head_and_rest a b c head one octets line = record {
  rest = line.text;
  one = All-append (λ octet. octet ≢ 10) head line.text one line.one;
  octets = subst (Appends a c) (sym (append_assoc head line.text (codes "\n"))) (Appends-trans a b c _ _ octets line.octets);
}

-- the same, of a line that may have had no room
pub headed : (end : Option ℕ) (a b : Option (List ℕ)) (octets line head text : List ℕ) → octets ≡ line → line ≡ head
    → IsOneLine line → Appends a b octets → IfSome end (λ n. PutsLine b (front_held text n))
    → IfSome end (λ n. PutsHeadedLine a head (front_held text n))
headed None a b octets line head text are is one put behind = tt
headed (Some n) a b octets line head text are is one put behind =
    head_and_rest a b (front_held text n) head (subst IsOneLine is one) (subst (Appends a b) (are ∙ is) put) behind

-- a burst or a record that is left out has no line
pub puts_past : (left_out : ℕ) (head : List ℕ) (a : Option (List ℕ)) → 0 < left_out
    → GivenInTurn PutsHeadedLine a (drop left_out (head ∷ [])) a
puts_past zero head a some = absurd (omega (arith, some))
puts_past (suc left_out) head a some = subst (λ l. GivenInTurn PutsHeadedLine a l a) (sym (drop-nil left_out)) refl

-- and any other has one
pub puts_first : (left_out : ℕ) (head : List ℕ) (a b : Option (List ℕ)) → left_out ≡ 0 → PutsHeadedLine a head b
    → GivenInTurn PutsHeadedLine a (drop left_out (head ∷ [])) b
puts_first left_out head a b none line = subst (λ n. GivenInTurn PutsHeadedLine a (drop n (head ∷ [])) b) (sym none) (b, line, refl)

puts_if : (holds : Bool) (a b : Option (List ℕ)) → holds ≡ true → PutsLine a b → PutsLines (if holds then 1 else 0) a b
puts_if true a b is line = puts_one a b line
puts_if false a b is line = cc

puts_unless : (holds : Bool) (a : Option (List ℕ)) → holds ≡ false → PutsLines (if holds then 1 else 0) a a
puts_unless true a is = cc
puts_unless false a is = puts_none a

told_false : (m n : ℕ) → (m ≤ n → ⊥) → ((leb m n ≡ true) × (m ≤ n)) ⊎ ((leb m n ≡ false) × (n < m)) → leb m n ≡ false
told_false m n none (inl (is, has)) = absurd (none has)
told_false m n none (inr (is, less)) = is

-- a strip that has a slot has one line of it
pub puts_one_slot : (slot count : ℕ) (a b : Option (List ℕ)) → slot ≤ count → PutsLine a b
    → PutsLines (if nat_le slot count then 1 else 0) a b
puts_one_slot slot count a b has line = puts_if (nat_le slot count) a b (le-leb slot count has) line

-- and a strip that hasn't, none
pub puts_no_slot : (slot count : ℕ) (a : Option (List ℕ)) → (slot ≤ count → ⊥) → PutsLines (if nat_le slot count then 1 else 0) a a
puts_no_slot slot count a none = puts_unless (nat_le slot count) a (told_false slot count none (leb_tells slot count))

-- the lines of both slots
pub puts_both : (m n : ℕ) (a b c : Option (List ℕ)) → PutsLines m a b → PutsLines n b c → PutsLines (m + n) a c
puts_both = puts_more
