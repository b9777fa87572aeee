-- The slots of a line as they were decided, one after another.
use Rattle.std.proofs.Common.{◌≡◌, ℕ, List, [], ◌∷◌, ◌++◌, length, map, take, replicate, Option, None, refl, ap, ◌∙◌}
use Rattle.std.proofs.Common.{subst, arith, slice_index_or}
use Rattle.dmr_hearing.proofs.OneHearing.{one_hearing}
use Rattle.dmr_hearing.specs.Hearing.{Hears}
use Rattle.dmr_hearing.specs.Recorded.{AreHeard}
use Rattle.dmr_hearing.specs.declared.heard.Heard.{Heard}
use Rattle.dmr_link.specs.declared.full_lc.FullLc.{FullLc}
use Rattle.dmr_voice.specs.Bursts.{IsSaid}
use Rattle.dmr_voice.specs.CallRules.{AllCarried, ahead_of, decide, past_the_end}
use Rattle.dmr_voice.specs.Carried.{IsCarried}
use Rattle.dmr_voice.specs.declared.said.VoiceOut.{VoiceOut}
use Rattle.dmr_damage.specs.Bursts.{IsDamagedSlot}
use Rattle.dmr_damage.specs.LimitedSlots.{AreFieldsBehind, Memory, Runs}
use Rattle.dmr_damage.specs.Marks.{burst_mark}

-- A slot that was decided: what came in it, what that is heard as, what the places behind it carried, and what it is written as.
pub record Decided : Type 0 where
  pub slot : Option (List ℕ)
  pub heard : Heard
  pub carried : Option FullLc
  pub out : Option (List ℕ)

-- the slots that came in
abbrev pub slots_of : List Decided → List (Option (List ℕ))
slots_of ds = map (λ (d : Decided). d.slot) ds

-- what was heard in them
abbrev pub heard_of : List Decided → List Heard
heard_of ds = map (λ (d : Decided). d.heard) ds

-- the link controls that they carry
abbrev pub carried_of : List Decided → List (Option FullLc)
carried_of ds = map (λ (d : Decided). d.carried) ds

-- the slots that went out
abbrev pub outs_of : List Decided → List (Option (List ℕ))
outs_of ds = map (λ (d : Decided). d.out) ds

-- A slot was decided by the rules, where this is heard behind it.
pub record IsPlace (colour : ℕ) (old : Memory) (d : Decided) (later : List Heard) (new : Memory) : Type 0 where
  pub here : Hears colour d.slot d.heard
  pub carries : IsCarried colour (ahead_of later) d.carried
  pub said : VoiceOut
  pub says : IsSaid colour (decide colour old.state d.heard (ahead_of later) d.carried).0 said
  pub damaged : IsDamagedSlot colour (burst_mark colour d.heard said) (slice_index_or old.fields 0 None) d.slot d.out
  pub state : new.state ≡ (decide colour old.state d.heard (ahead_of later) d.carried).1
  pub fields : AreFieldsBehind said d.carried old.fields new.fields

-- So were these, one after another.
abbrev pub ArePlaces : ℕ → Memory → List Decided → Type 0
ArePlaces colour old [] = Unit {0}
ArePlaces colour old (d ∷ ds) = (new : Memory) × IsPlace colour old d (heard_of ds) new × ArePlaces colour new ds

-- each is heard by its fields
pub places_heard : (colour : ℕ) (old : Memory) (ds : List Decided) → ArePlaces colour old ds
    → AreHeard colour (slots_of ds) (heard_of ds)
places_heard colour old [] p = tt
places_heard colour old (d ∷ ds) (new, place, more) = (place.here, places_heard colour new ds more)

-- and behind each is carried what was
pub places_carry : (colour : ℕ) (old : Memory) (ds : List Decided) → ArePlaces colour old ds
    → AllCarried colour (heard_of ds) (carried_of ds)
places_carry colour old [] p = tt
places_carry colour old (d ∷ ds) (new, place, more) = (place.carries, places_carry colour new ds more)

heard_append : (colour : ℕ) (xs ys : List (Option (List ℕ))) (hs ks : List Heard) → AreHeard colour xs hs → AreHeard colour ys ks
    → AreHeard colour (xs ++ ys) (hs ++ ks)
heard_append colour [] ys [] ks p q = q
heard_append colour [] ys (h ∷ hs) ks p q = absurd p
heard_append colour (x ∷ xs) ys [] ks p q = absurd p
heard_append colour (x ∷ xs) ys (h ∷ hs) ks p q = (p.0, heard_append colour xs ys hs ks p.1 q)

heard_front : (colour : ℕ) (xs ys : List (Option (List ℕ))) (hs : List Heard) → AreHeard colour (xs ++ ys) hs
    → AreHeard colour xs (take (length xs) hs)
heard_front colour [] ys hs p = tt
heard_front colour (x ∷ xs) ys [] p = absurd p
heard_front colour (x ∷ xs) ys (h ∷ hs) p = (p.0, heard_front colour xs ys hs p.1)

cons_same : {A : Type 0} (x y : A) (xs ys : List A) → x ≡ y → xs ≡ ys → x ∷ xs ≡ y ∷ ys
cons_same x y xs ys p q = cc

heard_alike : (colour : ℕ) (xs : List (Option (List ℕ))) (hs ks : List Heard) → AreHeard colour xs hs → AreHeard colour xs ks
    → hs ≡ ks
heard_alike colour [] [] [] p q = refl
heard_alike colour [] [] (k ∷ ks) p q = absurd q
heard_alike colour [] (h ∷ hs) ks p q = absurd p
heard_alike colour (x ∷ xs) [] ks p q = absurd p
heard_alike colour (x ∷ xs) (h ∷ hs) [] p q = absurd q
heard_alike colour (x ∷ xs) (h ∷ hs) (k ∷ ks) p q =
    cons_same h k hs ks (one_hearing colour x h k p.0 q.0) (heard_alike colour xs hs ks p.1 q.1)

-- slots that were decided, as what they are
pub record AreDecided (colour : ℕ) (old : Memory) (slots outs : List (Option (List ℕ))) : Type 0 where
  pub all : List Decided
  pub slots_are : slots_of all ≡ slots
  pub outs_are : outs_of all ≡ outs
  pub places : ArePlaces colour old all

-- all slots of a recording were decided by the rules, with silence behind its end
pub decided : (colour : ℕ) (old new : Memory) (slots outs left : List (Option (List ℕ))) → length outs ≡ length slots
    → Runs colour old (slots ++ replicate 5 None) outs new left → AreDecided colour old slots outs
decided colour old new [] [] left long runs = record { all = []; slots_are = refl; outs_are = refl; places = tt }
decided colour old new [] (out ∷ outs) left long runs = absurd (omega (arith, long))
decided colour old new (slot ∷ slots) [] left long runs = absurd (omega (arith, long))
decided colour old new (slot ∷ slots) (out ∷ outs) left long (ahead, behind, mid, five, split, one, runs) =
    let more = decided colour mid new slots outs left (omega (arith, long)) runs in
    let hs = heard_of more.all in
    let here : AreHeard colour slots hs =
    subst (λ l. AreHeard colour l hs) more.slots_are (places_heard colour mid more.all more.places)
    in
    let all : AreHeard colour (slots ++ replicate 5 None) (hs ++ past_the_end) =
    heard_append colour slots (replicate 5 None) hs past_the_end here (refl, (refl, (refl, (refl, (refl, tt))))) in
    let front : AreHeard colour ahead (ahead_of hs) =
    subst (λ n. AreHeard colour ahead (take n (hs ++ past_the_end))) five
    (heard_front colour ahead behind (hs ++ past_the_end) (subst (λ l. AreHeard colour l (hs ++ past_the_end)) split all)) in
    let same : one.later ≡ ahead_of hs = heard_alike colour ahead one.later (ahead_of hs) one.behind front in
    record {
      all = (record { slot = slot; heard = one.heard; carried = one.carried; out = out }) ∷ more.all;
      slots_are = ap (λ l. slot ∷ l) more.slots_are;
      outs_are = ap (λ l. out ∷ l) more.outs_are;
      places = (
        mid,
        record {
          here = one.here;
          carries = subst (λ l. IsCarried colour l one.carried) same one.carries;
          said = one.said;
          says = subst (λ l. IsSaid colour (decide colour old.state one.heard l one.carried).0 one.said) same one.says;
          damaged = one.damaged;
          state = one.state ∙ ap (λ l. (decide colour old.state one.heard l one.carried).1) same;
          fields = one.fields;
        },
        more.places,
      );
    }
