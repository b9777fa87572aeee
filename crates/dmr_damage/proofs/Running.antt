-- Slots that are decided one after another.
use Rattle.std.proofs.Common.{◌≡◌, ℕ, ◌+◌, ◌-◌, ◌<◌, ◌≤◌, List, [], ◌∷◌, ◌++◌, None, length, get_or}
use Rattle.std.proofs.Common.{drop, replicate, refl, sym, ◌∙◌, ap, subst, arith, append_assoc, length-append, length-drop}
use Rattle.std.proofs.lemmas.List.{append-nil, drop-append-le, drop-drop, replicate-append-replicate}
use Rattle.dmr_record.specs.Uplink.{UplinkSlot, UplinkSlots}
use Rattle.dmr_damage.specs.LimitedSlots.{IsDecided, IsDamagedLine, LineState, Memory, Runs, fresh_memory}
use Rattle.dmr_damage.specs.Frames.{IsLineBehind}

-- ---- lists
-- a list that isn't empty
pub first_and_rest : {X : Type 0} → (xs : List X) (d : X) → 0 < length xs → xs ≡ get_or xs 0 d ∷ drop 1 xs
first_and_rest [] d h = absurd (omega arith)
first_and_rest (x ∷ xs) d h = refl

-- a frame is its two slots
pub two_slots : (frame : UplinkSlots) → length frame ≡ 2 → get_or frame 0 None ∷ get_or frame 1 None ∷ [] ≡ frame
two_slots [] e = absurd (omega arith)
two_slots (a ∷ []) e = absurd (omega arith)
two_slots (a ∷ b ∷ []) e = refl
two_slots (a ∷ b ∷ c ∷ more) e = absurd (omega arith)

-- ---- running
-- more slots come
pub runs_more : (colour : ℕ) (old : Memory) (slots outs : List UplinkSlot) (new : Memory) (left more : List UplinkSlot)
    → Runs colour old slots outs new left → Runs colour old (slots ++ more) outs new (left ++ more)
runs_more colour old slots [] new left more run = (run.0, ap (λ l. l ++ more) run.1)
runs_more colour old [] (out ∷ outs) new left more run = absurd run
runs_more colour old (slot ∷ slots) (out ∷ outs) new left more (ahead, behind, mid, five, split, decided, run) = (
  ahead,
  behind ++ more,
  mid,
  five,
  ap (λ l. l ++ more) split ∙ append_assoc ahead behind more,
  decided,
  runs_more colour mid slots outs new left more run,
)

-- one more slot is decided
pub runs_next : (colour : ℕ) (old : Memory) (slots outs : List UplinkSlot) (mid : Memory) (slot : UplinkSlot)
    (ahead : List UplinkSlot) (out : UplinkSlot) (new : Memory) → Runs colour old slots outs mid (slot ∷ ahead) → length ahead ≡ 5
    → IsDecided colour mid slot ahead out new → Runs colour old slots (outs ++ out ∷ []) new ahead
runs_next colour old slots [] mid slot ahead out new run five decided =
    subst (λ s. Runs colour old s (out ∷ []) new ahead) (sym run.1) (
      ahead,
      [],
      new,
      five,
      sym (append-nil ahead),
      subst (λ m. IsDecided colour m slot ahead out new) (sym run.0) decided,
      (refl, refl),
    )
runs_next colour old [] (o ∷ outs) mid slot ahead out new run five decided = absurd run
runs_next colour old (s ∷ slots) (o ∷ outs) mid slot ahead out new (a, b, m, f, e, d, run) five decided =
    (a, b, m, f, e, d, runs_next colour m slots outs mid slot ahead out new run five decided)

-- the next slot is the first that is left
pub runs_first : (colour : ℕ) (old : Memory) (slots outs : List UplinkSlot) (new : Memory) (left : List UplinkSlot)
    → Runs colour old slots outs new left → get_or slots (length outs) None ≡ get_or left 0 None
runs_first colour old slots [] new left run = ap (λ l. get_or l 0 None) run.1
runs_first colour old [] (out ∷ outs) new left run = absurd run
runs_first colour old (slot ∷ slots) (out ∷ outs) new left (ahead, behind, mid, five, split, decided, run) =
    runs_first colour mid slots outs new left run

-- ---- one line
-- a line that takes a slot, while fewer than five wait
pub line_waits : (colour waiting : ℕ) (line new : LineState) (slots outs : List UplinkSlot) (slot : UplinkSlot) → waiting < 5
    → new ≡ record line { slots = drop 1 line.slots ++ slot ∷ [] } → IsLineBehind colour waiting line slots outs
    → IsLineBehind colour (waiting + 1) new (slots ++ slot ∷ []) outs
line_waits colour waiting line new slots outs slot few e is =
    rw e (record {
      same = is.same;
      six = long;
      run = subst (λ left. Runs colour fresh_memory (slots ++ slot ∷ []) outs line.memory left) moved
          (runs_more colour fresh_memory slots outs line.memory (drop (6 - waiting) line.slots) (slot ∷ []) is.run);
    })
  where
    five : length (drop 1 line.slots) ≡ 5
    five = omega (arith, length-drop 1 line.slots, is.six)

    long : length (drop 1 line.slots ++ slot ∷ []) ≡ 6
    long = length-append (drop 1 line.slots) (slot ∷ []) ∙ (omega (arith, five))

    one_more : 6 - waiting ≡ 1 + (6 - (waiting + 1))
    one_more = omega arith

    moved : drop (6 - waiting) line.slots ++ slot ∷ [] ≡ drop (6 - (waiting + 1)) (drop 1 line.slots ++ slot ∷ [])
    moved =
        ap (λ n. drop n line.slots ++ slot ∷ []) one_more
        ∙ ap (λ l. l ++ slot ∷ []) (sym (drop-drop (6 - (waiting + 1)) 1 line.slots))
        ∙ sym (drop-append-le (6 - (waiting + 1)) (drop 1 line.slots) (slot ∷ []) (omega (arith, five)))

-- a line that takes a slot and decides the oldest, where five wait
pub record IsNext (line taken new : LineState) (slot out : UplinkSlot) : Type 0 where
  pub takes : taken ≡ record line { slots = drop 1 line.slots ++ slot ∷ [] }
  pub decides : IsDecided taken.colour taken.memory (get_or taken.slots 0 None) (drop 1 taken.slots) out new.memory
  pub colour : new.colour ≡ taken.colour
  pub slots : new.slots ≡ taken.slots

pub line_six : (line taken : LineState) (slot : UplinkSlot) → length line.slots ≡ 6
    → taken ≡ record line { slots = drop 1 line.slots ++ slot ∷ [] } → length taken.slots ≡ 6
line_six line taken slot six e =
    ap (λ (l : LineState). length l.slots) e ∙ length-append (drop 1 line.slots) (slot ∷ [])
    ∙ (omega (arith, length-drop 1 line.slots, six))

-- what is left of a line that took a slot is all six of its places
pub line_taken : (colour : ℕ) (line taken : LineState) (slots outs : List UplinkSlot) (slot : UplinkSlot)
    → taken ≡ record line { slots = drop 1 line.slots ++ slot ∷ [] } → IsLineBehind colour 5 line slots outs
    → Runs colour fresh_memory (slots ++ slot ∷ []) outs taken.memory (get_or taken.slots 0 None ∷ drop 1 taken.slots)
line_taken colour line taken slots outs slot e is =
    let six : length taken.slots ≡ 6 = line_six line taken slot is.six e in
    subst (λ l. Runs colour fresh_memory (slots ++ slot ∷ []) outs taken.memory l)
    (first_and_rest taken.slots None (omega (arith, six)))
    (rw e (runs_more colour fresh_memory slots outs line.memory (drop 1 line.slots) (slot ∷ []) is.run))

-- One more slot that goes out keeps the line five slots behind.
pub line_decides : (colour : ℕ) (line taken new : LineState) (slots outs : List UplinkSlot) (slot out : UplinkSlot)
    → IsNext line taken new slot out → IsLineBehind colour 5 line slots outs
    → IsLineBehind colour 5 new (slots ++ slot ∷ []) (outs ++ out ∷ [])
line_decides colour line taken new slots outs slot out next is = record {
  same = next.colour ∙ same;
  six = ap length next.slots ∙ six;
  run = subst (λ l. Runs colour fresh_memory (slots ++ slot ∷ []) (outs ++ out ∷ []) new.memory l)
      (sym (ap (λ l. drop 1 l) next.slots))
      (runs_next colour fresh_memory (slots ++ slot ∷ []) outs taken.memory (get_or taken.slots 0 None) (drop 1 taken.slots) out
      new.memory (line_taken colour line taken slots outs slot next.takes is) five
      (subst (λ c. IsDecided c taken.memory (get_or taken.slots 0 None) (drop 1 taken.slots) out new.memory) same next.decides));
}
  where
    same : taken.colour ≡ colour
    same = ap (λ (l : LineState). l.colour) next.takes ∙ is.same

    six : length taken.slots ≡ 6
    six = line_six line taken slot is.six next.takes

    five : length (drop 1 taken.slots) ≡ 5
    five = omega (arith, length-drop 1 taken.slots, six)

-- the slot that is decided is the one behind those that were decided
pub line_oldest : (colour : ℕ) (line taken : LineState) (slots outs : List UplinkSlot) (slot : UplinkSlot)
    → taken ≡ record line { slots = drop 1 line.slots ++ slot ∷ [] } → IsLineBehind colour 5 line slots outs
    → get_or taken.slots 0 None ≡ get_or (slots ++ slot ∷ []) (length outs) None
line_oldest colour line taken slots outs slot e is =
    sym (runs_first colour fresh_memory (slots ++ slot ∷ []) outs taken.memory (get_or taken.slots 0 None ∷ drop 1 taken.slots)
    (line_taken colour line taken slots outs slot e is))

-- ---- to the end
-- a line that took silence behind the last slot is damaged as its slots are
pub line_ended : (colour waiting silent : ℕ) (line : LineState) (slots outs : List UplinkSlot) → silent ≤ 5
    → IsLineBehind colour waiting line (slots ++ replicate silent None) outs → IsDamagedLine colour slots outs
line_ended colour waiting silent line slots outs few is = (
  line.memory,
  drop (6 - waiting) line.slots ++ replicate (5 - silent) None,
  subst (λ s. Runs colour fresh_memory s outs line.memory (drop (6 - waiting) line.slots ++ replicate (5 - silent) None)) joined
      (runs_more colour fresh_memory (slots ++ replicate silent None) outs line.memory (drop (6 - waiting) line.slots)
      (replicate (5 - silent) None) is.run),
)
  where
    all : silent + (5 - silent) ≡ 5
    all = omega arith

    joined : (slots ++ replicate silent None) ++ replicate (5 - silent) None ≡ slots ++ replicate 5 None
    joined =
        append_assoc slots (replicate silent None) (replicate (5 - silent) None)
        ∙ ap (λ l. slots ++ l) (replicate-append-replicate silent (5 - silent) None ∙ ap (λ n. replicate n None) all)
