-- What stands in a place of a slot in which transmissions are placed.
use Rattle.std.proofs.Common.{◌≡◌, ℕ, zero, suc, ◌+◌, ◌-◌, ◌<◌, ◌≤◌, List, [], ◌∷◌, ◌++◌, length, replicate, drop}
use Rattle.std.proofs.Common.{slice_get, Option, Some, None, append_assoc, arith, ap, refl, sym, ◌∙◌, subst, All}
use Rattle.std.proofs.lemmas.List.Elements.{All-head, All-tail}
use Rattle.std.specs.List.{AllByRecursion}
use Rattle.std.proofs.lemmas.List.{length-map, length-replicate, length-append}
use Rattle.dmr_hearing.specs.Slots.{SentSlot, Silent}
use Rattle.dmr_making.proofs.Standing.{at_replicate, stands_left, stands_right}
use Rattle.dmr_making.specs.Playing.{EndsLater, IsFitPlaced, IsInFront, IsOrdered, IsLineOfSlot, IsLineStep, IsMadeAt, IsMadeIn}
use Rattle.dmr_making.specs.Playing.{IsPlacedLine}
use Rattle.dmr_making.specs.Playing.{SlotFrames, still_placed}
use Rattle.dmr_making.specs.Senders.{colour_of}
use Rattle.dmr_making.specs.Standing.{HoldsAt}
use Rattle.dmr_making.specs.declared.playing.PlacedTransmission.{PlacedTransmission}
use Rattle.dmr_making.specs.declared.playing.Player.{Player}
use Rattle.dmr_script.specs.declared.statement.NumberedStatement.{NumberedStatement}

-- nothing is placed
line_none : (own : ℕ) (statements : List NumberedStatement) (from frame : ℕ) (line : SlotFrames) (place : ℕ)
    → IsLineOfSlot own statements from [] line → IsMadeAt frame None line place
line_none own statements from frame line place e = subst (λ (l : SlotFrames). IsMadeAt frame None l place) (sym e) refl

-- in front of the first transmission
line_gap : (own : ℕ) (statements : List NumberedStatement) (from : ℕ) (p : PlacedTransmission)
    → (placed : List PlacedTransmission) (frame : ℕ) (line : SlotFrames) (place : ℕ)
    → IsLineOfSlot own statements from (p ∷ placed) line → place < p.start - from → IsMadeAt frame None line place
line_gap own statements from p placed frame line place l lt =
    let gap : SlotFrames = replicate (p.start - from) (own, Silent) in
    let long : length gap ≡ p.start - from = length-replicate (p.start - from) (own, Silent) in
    let P : ℕ × SentSlot → Type 0 = IsMadeIn frame None in
    let None_is : Option (List ℕ) = None in
    subst (λ (x : SlotFrames). IsMadeAt frame None x place) (sym l.5)
    (stands_left P (None_is ≡ None) gap (l.0 ++ l.1) place (omega (arith, long, lt))
    (at_replicate P (p.start - from) (own, Silent) place refl))

-- in the first transmission
line_mine : (own : ℕ) (statements : List NumberedStatement) (from : ℕ) (p : PlacedTransmission)
    → (placed : List PlacedTransmission) (line : SlotFrames) (frame : ℕ) (made : Option (List ℕ))
    → IsLineOfSlot own statements from (p ∷ placed) line → p.start ≤ frame → frame < p.start + p.length
    → ((mine : SlotFrames) → IsPlacedLine own statements p mine → HoldsAt (IsMadeIn frame made) mine (frame - p.start))
    → IsMadeAt frame made line (frame - from)
line_mine own statements from p placed line frame made l begun less here =
    let mine : SlotFrames = l.0 in
    let gap : SlotFrames = replicate (p.start - from) (own, Silent) in
    let long : length gap ≡ p.start - from = length-replicate (p.start - from) (own, Silent) in
    let behind : from ≤ p.start = l.2 in
    let is : IsPlacedLine own statements p mine = l.3 in
    let P : ℕ × SentSlot → Type 0 = IsMadeIn frame made in
    let count : length mine ≡ p.length =
    ap (λ (x : SlotFrames). length x) is.is
    ∙ length-map is.sent.slots (λ (slot : SentSlot). (colour_of own is.transmit.sender, slot)) ∙ is.count in
    subst (λ (x : SlotFrames). IsMadeAt frame made x (frame - from)) (sym l.5)
    (stands_right P (made ≡ None) gap (mine ++ l.1) (frame - p.start) (frame - from) (omega (arith, long, behind, begun))
    (stands_left P (made ≡ None) mine l.1 (frame - p.start) (omega (arith, count, begun, less)) (here mine is)))

-- what is read is the first of what is left
pub left_is : {X : Type 0} (xs : List X) (k : ℕ) (x : X) → slice_get xs k ≡ Some x → drop k xs ≡ x ∷ drop (suc k) xs
left_is [] k x e = absurd (cc)
left_is (y ∷ xs) zero x e = let same : y ≡ x = cc in ap (λ (z : _). z ∷ xs) same
left_is (y ∷ xs) (suc k) x e = left_is xs k x e

-- Where a list has nothing at a place, nothing is left behind it.
pub none_left : {X : Type 0} (xs : List X) (k : ℕ) → slice_get xs k ≡ None → drop k xs ≡ []
none_left [] zero e = refl
none_left [] (suc k) e = refl
none_left (y ∷ xs) zero e = absurd (cc)
none_left (y ∷ xs) (suc k) e = none_left xs k e

-- where nothing is left
pub step_none : (old : Player) (frame : ℕ) (line : SlotFrames) → still_placed old ≡ [] → IsInFront old frame
    → IsLineOfSlot old.own old.statements.now old.from (still_placed old) line → IsLineStep old old frame None line
step_none old frame line e front l = record {
  holds = line_none old.own old.statements.now old.from frame line (frame - old.from)
      (subst (λ (ps : List PlacedTransmission). IsLineOfSlot old.own old.statements.now old.from ps line) e l);
  before = [];
  rest = line;
  split = refl;
  count = omega arith;
  goes_on = l;
}

-- where the first that is left hasn't begun
pub step_gap : (old : Player) (frame : ℕ) (line : SlotFrames) (p : PlacedTransmission) (ps : List PlacedTransmission)
    → still_placed old ≡ p ∷ ps → frame < p.start
    → 0 < p.length → IsInFront old frame
    → IsLineOfSlot old.own old.statements.now old.from (still_placed old) line → IsLineStep old old frame None line
step_gap old frame line p ps e less some front l = record {
  holds =
      let b = front.begins in
      line_gap old.own old.statements.now old.from p ps frame line (frame - old.from)
      (subst (λ (qs : List PlacedTransmission). IsLineOfSlot old.own old.statements.now old.from qs line) e l) (omega (
        arith,
        b,
        less,
      ));
  before = [];
  rest = line;
  split = refl;
  count = omega arith;
  goes_on = l;
}

-- where the first that is left goes on behind the frame
pub step_in : (old : Player) (frame : ℕ) (made : Option (List ℕ)) (line : SlotFrames) (p : PlacedTransmission) (ps : List
    PlacedTransmission)
    → still_placed old ≡ p ∷ ps → p.start ≤ frame → frame + 1 < p.start + p.length → IsInFront old frame
    → ((mine : SlotFrames) → IsPlacedLine old.own old.statements.now p mine → HoldsAt (IsMadeIn frame made) mine (frame - p.start))
    → IsLineOfSlot old.own old.statements.now old.from (still_placed old) line → IsLineStep old old frame made line
step_in old frame made line p ps e begun more front here l = record {
  holds = line_mine old.own old.statements.now old.from p ps line frame made
      (subst (λ (qs : List PlacedTransmission). IsLineOfSlot old.own old.statements.now old.from qs line) e l) begun (omega (
        arith,
        more,
      )) here;
  before = [];
  rest = line;
  split = refl;
  count = omega arith;
  goes_on = l;
}

-- where the first that is left ends with the frame
pub step_over : (old new : Player) (frame : ℕ) (made : Option (List ℕ)) (line : SlotFrames) (p : PlacedTransmission) (ps : List
    PlacedTransmission)
    → still_placed old ≡ p ∷ ps → still_placed new ≡ ps → new.from ≡ frame + 1 → p.start ≤ frame → frame + 1 ≡ p.start + p.length
    → AllByRecursion (λ (q : PlacedTransmission). 0 < q.length) ps
    → ((mine : SlotFrames) → IsPlacedLine old.own old.statements.now p mine → HoldsAt (IsMadeIn frame made) mine (frame - p.start))
    → IsLineOfSlot old.own old.statements.now old.from (still_placed old) line → IsLineStep old new frame made line
step_over old new frame made line p ps e left from begun ends some here l =
    let own : ℕ = old.own in
    let statements : List NumberedStatement = old.statements.now in
    let first : IsLineOfSlot own statements old.from (p ∷ ps) line =
    subst (λ (qs : List PlacedTransmission). IsLineOfSlot own statements old.from qs line) e l in
    let mine : SlotFrames = first.0 in
    let gap : SlotFrames = replicate (p.start - old.from) (own, Silent) in
    let behind : old.from ≤ p.start = first.2 in
    let is : IsPlacedLine own statements p mine = first.3 in
    let long : length gap ≡ p.start - old.from = length-replicate (p.start - old.from) (own, Silent) in
    let count : length mine ≡ p.length =
    ap (λ (x : SlotFrames). length x) is.is
    ∙ length-map is.sent.slots (λ (slot : SentSlot). (colour_of own is.transmit.sender, slot)) ∙ is.count in
    let all = length-append gap mine in
    let there : new.from ≡ p.start + p.length = from ∙ ends in
    let rest : IsLineOfSlot own statements new.from ps first.1 =
    subst (λ (n : ℕ). IsLineOfSlot own statements n ps first.1) (sym there) first.4 in
    record {
      holds = line_mine own statements old.from p ps line frame made first begun (omega (arith, ends)) here;
      before = gap ++ mine;
      rest = first.1;
      split = first.5 ∙ sym (append_assoc gap mine first.1);
      count = omega (arith, long, count, all, behind, there);
      goes_on = subst (λ (qs : List PlacedTransmission). IsLineOfSlot own statements new.from qs first.1) (sym left) rest;
    }

-- each placed transmission that is left has a slot
pub left_have_slots : (statements : List NumberedStatement) (placed : List PlacedTransmission) (k : ℕ)
    → All (IsFitPlaced statements) placed
    → AllByRecursion (λ (q : PlacedTransmission). 0 < q.length) (drop k placed)
left_have_slots statements [] zero all = tt
left_have_slots statements [] (suc k) all = tt
left_have_slots statements (p ∷ ps) zero all =
    let first : IsFitPlaced statements p = All-head (IsFitPlaced statements) p ps all in
    (first.some, left_have_slots statements ps zero (All-tail (IsFitPlaced statements) p ps all))
left_have_slots statements (p ∷ ps) (suc k) all = left_have_slots statements ps k (All-tail (IsFitPlaced statements) p ps all)

-- the first that is left ends behind the frame
pub ends_behind : (old : Player) (frame : ℕ) (p : PlacedTransmission) (ps : List PlacedTransmission) → still_placed old ≡ p ∷ ps
    → IsInFront old frame
    → frame < p.start + p.length
ends_behind old frame p ps e front = subst (EndsLater frame) e front.ends

-- how players go on where nothing is left,
pub front_none : (old : Player) (frame : ℕ) → still_placed old ≡ [] → IsInFront old frame → IsInFront old (frame + 1)
front_none old frame e front = record {
  begins = let b = front.begins in omega (arith, b);
  ends = subst (EndsLater (frame + 1)) (sym e) tt;
}

-- where the first that is left ends behind the next frame,
pub front_in : (old : Player) (frame : ℕ) (p : PlacedTransmission) (ps : List PlacedTransmission) → still_placed old ≡ p ∷ ps
    → frame + 1 < p.start + p.length
    → IsInFront old frame → IsInFront old (frame + 1)
front_in old frame p ps e more front = record {
  begins = let b = front.begins in omega (arith, b);
  ends = subst (EndsLater (frame + 1)) (sym e) more;
}

-- and where it ends with the frame
ordered_ends : (from : ℕ) (ps : List PlacedTransmission) → IsOrdered from ps → EndsLater from ps
ordered_ends from [] o = tt
ordered_ends from (p ∷ ps) o = let a = o.0 in let b = o.1 in omega (arith, a, b)

-- Behind the end of a transmission, those that are left are still in order.
pub ordered_over : (old new : Player) (frame : ℕ) (p : PlacedTransmission) (ps : List PlacedTransmission)
    → still_placed old ≡ p ∷ ps → still_placed new ≡ ps
    → new.from ≡ frame + 1 → frame + 1 ≡ p.start + p.length → IsOrdered old.from (still_placed old)
    → IsOrdered new.from (still_placed new)
ordered_over old new frame p ps e left from ends o =
    let first : IsOrdered old.from (p ∷ ps) = subst (IsOrdered old.from) e o in
    subst (IsOrdered new.from) (sym left) (subst (λ (n : ℕ). IsOrdered n ps) (sym (from ∙ ends)) first.2)

-- A player that goes on behind this frame stands in front of what is left.
pub front_over : (new : Player) (frame : ℕ) → new.from ≡ frame + 1 → IsOrdered new.from (still_placed new)
    → IsInFront new (frame + 1)
front_over new frame from o = record {
  begins = omega (arith, from);
  ends = subst (λ (n : ℕ). EndsLater n (still_placed new)) from (ordered_ends new.from (still_placed new) o);
}
