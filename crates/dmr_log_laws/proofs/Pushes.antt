-- What a slot repeats does not depend on the call hang of its line, nor on what is silent in front.
use Rattle.std.proofs.Common.{◌≡◌, ℕ, ◌-◌, List, [], ◌∷◌, drop, map, Option, Some, None, refl, sym, ap, ◌∙◌, subst}
use Rattle.std.specs.Option.{option_map_or}
use Rattle.dmr_burst.specs.declared.burst.Burst.{Burst}
use Rattle.dmr_hearing.proofs.OneHearing.{one_hearing}
use Rattle.dmr_hearing.specs.Slots.{silence}
use Rattle.dmr_hearing.specs.declared.heard.Heard.{Heard}
use Rattle.dmr_link.specs.declared.full_lc.FullLc.{FullLc}
use Rattle.dmr_slot.proofs.Unique.{one_slot_out}
use Rattle.dmr_slot.specs.Bursts.{IsSlotOut}
use Rattle.dmr_slot.specs.LineMeaning.{Repeated, Hang, Free}
use Rattle.dmr_slot.specs.LineRules.{LineMemory, ArePushed, after_push, call_left_after, decided, known_after, moved}
use Rattle.dmr_slot.specs.LineRules.{out_of}
use Rattle.dmr_slot.specs.LineRules.{role_of, silent_line, still_left}
use Rattle.dmr_slot.specs.declared.line.SlotOut.{SlotOut}
use Rattle.dmr_voice.proofs.Carrying.{one_carried}
use Rattle.dmr_voice.specs.Carried.{IsCarried}
use Rattle.dmr_voice.specs.Said.{Said, Nothing, Repeat}
use Rattle.dmr_voice.specs.declared.track.Track.{Track}

-- 1. One push.

-- what each slot repeats
abbrev pub bursts_of_outs : List SlotOut → List (Option Burst)
bursts_of_outs outs = map (λ (out : SlotOut). out.repeated) outs

none_repeated : (colour : ℕ) (held : Option (Option FullLc)) (out : SlotOut)
    → IsSlotOut colour (option_map_or Hang held Free) out → out.repeated ≡ None
none_repeated colour None out p = ap (λ (o : SlotOut). o.repeated) p
none_repeated colour (Some lc) out p = ap (λ (o : SlotOut). o.repeated) p.2

same_repeated : (colour l l' : ℕ) (k k' : Option FullLc) (said : Said) (a b : SlotOut) → IsSlotOut colour (out_of l k said) a
    → IsSlotOut colour (out_of l' k' said) b → a.repeated ≡ b.repeated
same_repeated colour l l' k k' (Repeat content role) a b p q =
    ap (λ (o : SlotOut). o.repeated) (one_slot_out colour (Repeated content role) a b p q)
same_repeated colour l l' k k' Nothing a b p q =
    none_repeated colour (still_left l k) a p ∙ sym (none_repeated colour (still_left l' k') b q)

-- 2. One push after another.

-- a line with another call hang, of which this is left
abbrev pub with_hang : LineMemory → ℕ → ℕ → Option FullLc → LineMemory
with_hang m h l k = record m { call_hang = h; left = l; lc = k }

cons_alike : {A : Type 0} (a b : A) (xs bs : List A) → a ≡ b → xs ≡ bs → a ∷ xs ≡ b ∷ bs
cons_alike a b xs bs p q = cc

-- two lines that differ in the call hang alone repeat the same
pub same_bursts : (m : LineMemory) (h l : ℕ) (k : Option FullLc) (slots : List (Option (List ℕ))) (a b : List SlotOut)
    (after after' : LineMemory) → ArePushed m slots a after → ArePushed (with_hang m h l k) slots b after'
    → bursts_of_outs a ≡ bursts_of_outs b
same_bursts m h l k [] [] [] after after' u v = refl
same_bursts m h l k [] [] (y ∷ b) after after' u v = absurd v
same_bursts m h l k [] (x ∷ a) b after after' u v = absurd u
same_bursts m h l k (slot ∷ slots) [] b after after' u v = absurd u
same_bursts m h l k (slot ∷ slots) (x ∷ a) [] after after' u v = absurd v
same_bursts m h l k (slot ∷ slots) (x ∷ a) (y ∷ b) after after' (next, p, rest) (next', q, rest') =
    let heard : p.heard ≡ q.heard = one_hearing m.colour slot p.heard q.heard p.hears q.hears in
    let carries = subst (λ (o : Heard). IsCarried m.colour (drop 1 (moved m.window o)) p.carried) heard p.carries in
    let carried : p.carried ≡ q.carried =
    one_carried m.colour (drop 1 (moved m.window q.heard)) p.carried q.carried carries q.carries in
    let step : decided m p.heard p.carried ≡ decided m q.heard q.carried =
    ap (λ (o : Heard). decided m o p.carried) heard ∙ ap (λ (lc : Option FullLc). decided m q.heard lc) carried in
    let behind : next ≡ after_push m q.heard q.carried =
    p.remembers ∙ ap (λ (o : Heard). after_push m o p.carried) heard
    ∙ ap (λ (lc : Option FullLc). after_push m q.heard lc) carried in
    let said : Said = (decided m q.heard q.carried).0 in
    cons_alike x.repeated y.repeated (bursts_of_outs a) (bursts_of_outs b)
    (same_repeated m.colour m.left l m.lc k said x y
    (subst (λ (d : Said × Track). IsSlotOut m.colour (out_of m.left m.lc d.0) x) step p.gives) q.gives)
    (same_bursts (after_push m q.heard q.carried) h (call_left_after h l (role_of said)) (known_after k (role_of said)) slots a b
    after after' (subst (λ (n : LineMemory). ArePushed n slots a after) behind rest)
    (subst (λ (n : LineMemory). ArePushed n slots b after') q.remembers rest'))

-- 3. Silence in front.

-- what is repeated, behind one silent slot more
pub record IsSilentFirst (colour h : ℕ) (slots : List (Option (List ℕ))) (outs : List SlotOut) (after : LineMemory) : Type 0 where
  pub first : SlotOut
  pub rest : List SlotOut
  pub split : outs ≡ first ∷ rest
  pub nothing : first.repeated ≡ None
  pub pushed : ArePushed (with_hang (silent_line colour 0) h (0 - 1) None) slots rest after

-- a silent slot in front leaves a line as it was
pub silent_first : (colour h : ℕ) (slots : List (Option (List ℕ))) (outs : List SlotOut) (after : LineMemory)
    → ArePushed (silent_line colour h) (None ∷ slots) outs after → IsSilentFirst colour h slots outs after
silent_first colour h slots [] after u = absurd u
silent_first colour h slots (x ∷ rest) after (next, p, more) =
    let behind : next ≡ after_push (silent_line colour h) silence p.carried =
    p.remembers ∙ ap (λ (o : Heard). after_push (silent_line colour h) o p.carried) p.hears in
    let gives = subst (λ (o : Heard). IsSlotOut colour (out_of 0 None (decided (silent_line colour h) o p.carried).0) x)
    p.hears p.gives in
    record {
      first = x;
      rest = rest;
      split = refl;
      nothing = ap (λ (o : SlotOut). o.repeated) gives;
      pushed = subst (λ (n : LineMemory). ArePushed n slots rest after) behind more;
    }

-- and so the bursts that a run repeats of slots behind one silent slot are those of a log
pub as_in_a_run : (colour h : ℕ) (slots : List (Option (List ℕ))) (a b : List SlotOut) (after after' : LineMemory)
    → ArePushed (silent_line colour 0) slots a after → ArePushed (silent_line colour h) (None ∷ slots) b after'
    → bursts_of_outs b ≡ None ∷ bursts_of_outs a
as_in_a_run colour h slots a b after after' u v =
    let split = silent_first colour h slots b after' v in
    ap bursts_of_outs split.split
    ∙ cons_alike split.first.repeated None (bursts_of_outs split.rest) (bursts_of_outs a) split.nothing
    (sym (same_bursts (silent_line colour 0) h (0 - 1) None slots a split.rest after after' u split.pushed))
