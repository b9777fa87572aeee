-- Lines that are put one behind the other.
use Rattle.std.proofs.Common.{◌≡◌, ℕ, ◌+◌, ◌&&◌, Bool, true, false, if◌then◌else◌, List, [], ◌∷◌, ◌++◌}
use Rattle.std.proofs.Common.{Option, None, Some, refl, sym}
use Rattle.std.specs.Prelude.{Result, Ok, Err, OnOk}
use Rattle.std.proofs.Common.{ap, ◌∙◌, subst, arith, append-nil}
use Rattle.std.proofs.KnownBytes.{Appends-nil, Appends-trans}
use Rattle.std.proofs.lemmas.List.{length-append}
use Rattle.std.proofs.lemmas.List.Elements.{All-append, All-cons, All-nil}
use Rattle.std.proofs.lemmas.List.Concat.{flat_map-append}
use Rattle.std.proofs.lemmas.List.Sums.{sum_by-cons}
use Rattle.std.specs.Io.KnownBytes.{Appends}
use Rattle.std.specs.List.{sum_by}
use Rattle.dmr_listing.specs.ListingRules.{GivenInTurn}
use Rattle.dmr_lines.specs.Line.{IsOneLine, PutsLine, line_octets}
use Rattle.dmr_show.specs.Held.{held_by}
use Rattle.dmr_show.specs.Printed.{PutsLines, lines_of_slot, lines_of_strip}
use Rattle.dmr_show.specs.declared.filter.Filter.{Filter}
use Rattle.dmr_show.specs.declared.form.Notation.{Notation}
use Rattle.dmr_listing.specs.Strips.{Picture}

-- a sink that stays as it was had no line put
pub puts_none : (a : Option (List ℕ)) → PutsLines 0 a a
puts_none a = record { texts = []; many = refl; each = All-nil IsOneLine; octets = Appends-nil a }

-- a line that was put counts as one
pub puts_one : (a b : Option (List ℕ)) → PutsLine a b → PutsLines 1 a b
puts_one a b line = record {
  texts = line.text ∷ [];
  many = refl;
  each = All-cons IsOneLine line.text [] line.one (All-nil IsOneLine);
  octets = subst (Appends a b) (sym (append-nil (line_octets line.text))) line.octets;
}

-- lines behind others are as many as both numbers together
pub puts_more : (m n : ℕ) (a b c : Option (List ℕ)) → PutsLines m a b → PutsLines n b c → PutsLines (m + n) a c
puts_more m n a b c first next = record {
  texts = first.texts ++ next.texts;
  many = omega (arith, length-append first.texts next.texts, first.many, next.many);
  each = All-append IsOneLine first.texts next.texts first.each next.each;
  octets = subst (Appends a c) (sym (flat_map-append line_octets first.texts next.texts))
      (Appends-trans a b c _ _ first.octets next.octets);
}

-- the number of lines that were put may be written in any equal way
pub puts_as : (m n : ℕ) (a b : Option (List ℕ)) → m ≡ n → PutsLines m a b → PutsLines n a b
puts_as m n a b same lines = subst (λ k. PutsLines k a b) same lines

-- a line where a test holds, and else none
pub puts_where : (holds : Bool) (a b : Option (List ℕ)) → (holds ≡ true → PutsLine a b) → (holds ≡ false → b ≡ a)
    → PutsLines (if holds then 1 else 0) a b
puts_where true a b line none = puts_one a b (line refl)
puts_where false a b line none = subst (PutsLines 0 a) (sym (none refl)) (puts_none a)

-- the same, of a call that may have failed
pub puts_where_done : {T E : Type 0} (r : Result T E) (holds : Bool) (a b : Option (List ℕ)) → holds ≡ true → OnOk r (PutsLine a b)
    → OnOk r (PutsLines (if holds then 1 else 0) a b)
puts_where_done (Ok x) true a b holding line = puts_one a b line
puts_where_done (Ok x) false a b holding line = cc
puts_where_done (Err e) holds a b holding line = tt

-- two tests that hold each hold together
pub both_true : (a b : Bool) → a ≡ true → b ≡ true → (a && b) ≡ true
both_true true b one other = other
both_true false b one other = one

-- the lines of both slots of a strip, of which the second may have failed, and what stayed the same
pub strip_put : {T E : Type 0} (r : Result T E) (f g h : Filter) (i j k : Notation) (a b c : Option (List ℕ)) (strip : Picture)
    → g ≡ f → h ≡ g → j ≡ i → k ≡ j → PutsLines (lines_of_slot f 1 strip) a b → OnOk r (PutsLines (lines_of_slot g 2 strip) b c)
    → OnOk r ((h ≡ f) × (k ≡ i) × PutsLines (lines_of_strip f strip) a c)
strip_put (Ok x) f g h i j k a b c strip gf hg ji kj first next = (
  hg ∙ gf,
  kj ∙ ji,
  puts_more _ _ a b c first (subst (λ u. PutsLines (lines_of_slot u 2 strip) b c) gf next),
)
strip_put (Err e) f g h i j k a b c strip gf hg ji kj first next = tt

-- What was given in turn to a taker that puts so many lines for each.
pub printed_in_turn : {L X : Type 0} (old new : L) (xs : List X) (Takes : L → X → L → Type 0) (filter_of : L → Filter)
    (held_of : L → Option (List ℕ)) (lines_of : Filter → X → ℕ)
    → ((a : L) (x : X) (b : L) → Takes a x b → (filter_of b ≡ filter_of a) × PutsLines (lines_of (filter_of a) x) (held_of a)
    (held_of b)) → GivenInTurn Takes old xs new
    → PutsLines (sum_by (lines_of (filter_of old)) xs) (held_of old) (held_of new)
printed_in_turn old new [] Takes filter_of held_of lines_of each same =
    subst (λ l. PutsLines 0 (held_of old) (held_of l)) (sym same) (puts_none (held_of old))
printed_in_turn old new (x ∷ xs) Takes filter_of held_of lines_of each (next, first, rest) =
    let (same, put) = each old x next first in
    let more = printed_in_turn next new xs Takes filter_of held_of lines_of each rest in
    puts_as (lines_of (filter_of old) x + sum_by (lines_of (filter_of old)) xs) _ _ _
    (sym (sum_by-cons (lines_of (filter_of old)) x xs))
    (puts_more _ _ _ _ _ put (subst (λ f. PutsLines (sum_by (lines_of f) xs) (held_of next) (held_of new)) same more))

-- what waited was written
appended_flushed : (a b c : Option (List ℕ)) (w octets : List ℕ) → Appends a (held_by b w) octets → Appends b c w
    → Appends a c octets
appended_flushed None b c w octets p q = tt
appended_flushed (Some xs) None c w octets p q = absurd p
appended_flushed (Some xs) (Some ys) None w octets p q = absurd q
appended_flushed (Some xs) (Some ys) (Some zs) w octets p q = q ∙ p

-- once the octets that waited are written, all the lines that were put are in the sink
pub puts_flushed : (count : ℕ) (a b c : Option (List ℕ)) (w : List ℕ) → PutsLines count a (held_by b w) → Appends b c w
    → PutsLines count a c
puts_flushed count a b c w lines flushed =
    record {
      texts = lines.texts;
      many = lines.many;
      each = lines.each;
      octets = appended_flushed a b c w _ lines.octets flushed;
    }

-- what is held where nothing waits
pub held_alone : (a : Option (List ℕ)) (w : List ℕ) → w ≡ [] → held_by a w ≡ a
held_alone None w none = refl
held_alone (Some xs) w none = ap (λ l. Some (xs ++ l)) none ∙ ap Some (append-nil xs)
