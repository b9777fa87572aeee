-- Two readers of recordings stand beside each other, slot by slot.
use Rattle.std.proofs.Common.{◌≡◌, ℕ, ◌≤◌, false, List, [], ◌++◌, length, Option, Some, None, subst, arith, append-nil}
use Rattle.std.proofs.Common.{inl}
use Rattle.dmr_listing.proofs.Listings.{most_few}
use Rattle.dmr_listing.specs.ListingRules.{IsReadUpToFault}
use Rattle.dmr_recording.specs.declared.fault_line.FaultLine.{FaultLine}
use Rattle.dmr_recording.specs.declared.recording.Recording.{Recording}
use Rattle.dmr_compare.proofs.Beside.{IsStep, StandBeside, beside_begun, beside_by, beside_next, by_end, found_as_far, has_room}
use Rattle.dmr_compare.proofs.Beside.{none_as_far, none_of_first, none_of_second, put_alone}
use Rattle.dmr_compare.specs.Comparing.{AreRestsCompared, IsFirstAtFault, IsSecondAtFault, compared_of_first, compared_of_second}
use Rattle.dmr_compare.specs.Kept.{is_same}
use Rattle.dmr_compare.specs.Printed.{PutsPlace}
use Rattle.dmr_compare.specs.Reading.{AreSlotsRead, HasRead}
use Rattle.dmr_compare.specs.Shifts.{slots_in_front_of_first, slots_in_front_of_second}
use Rattle.dmr_compare.specs.Slots.{ListedSlot, lines_of, bare_slots}
use Rattle.dmr_compare.specs.Taking.{HasRoom, PutsFound, counted_found, found_next}
use Rattle.dmr_compare.specs.declared.counts.PlaceCounts.{PlaceCounts}
use Rattle.dmr_compare.specs.declared.reader.SlotReader.{SlotReader}
use Rattle.dmr_compare.specs.declared.settings.CompareSettings.{CompareSettings}

-- Two readers of recordings have read slots, behind those in front, and these were compared as far as both have them.
pub record SlotsBeside (settings : CompareSettings) (first second : SlotReader) (counts : PlaceCounts)
    (firsts seconds : List ListedSlot) (first_old first_new second_old second_new held_old held_new : Option (List ℕ))
    : Type 0 where
  pub first_read : HasRead first firsts first_old first_new
  pub second_read : HasRead second seconds second_old second_new
  pub beside : StandBeside (is_same settings.ignored) (PutsPlace settings) (slots_in_front_of_first settings.shift)
      (slots_in_front_of_second settings.shift) first.is_over second.is_over counts firsts seconds held_old held_new

-- what a reader of a recording has read
pub read_by : (reader : SlotReader) (recording : Recording) (slots : List ListedSlot) (a b : Option (List ℕ))
    → reader.recording ≡ recording → HasRead reader slots a b → AreSlotsRead recording slots reader.view a b
read_by reader recording slots a b e h = subst (λ (r : Recording). AreSlotsRead r slots reader.view a b) e h.read

-- what a reader of a recording has read up to a fault
pub fault_by : (reader : SlotReader) (recording : Recording) (slots : List ListedSlot) (fault : FaultLine) (a b : Option (List ℕ))
    → reader.recording ≡ recording → IsReadUpToFault reader.recording (bare_slots slots) (lines_of slots) fault a b
    → IsReadUpToFault recording (bare_slots slots) (lines_of slots) fault a b
fault_by reader recording slots fault a b e h =
    subst (λ (r : Recording). IsReadUpToFault r (bare_slots slots) (lines_of slots) fault a b) e h

-- the first is at fault among the slots in front
pub fault_before_first : (settings : CompareSettings) (one other : SlotReader) (recording : Recording) (firsts : List ListedSlot)
    (fault : FaultLine) (a b c h : Option (List ℕ)) → length firsts ≤ slots_in_front_of_first settings.shift
    → one.recording ≡ recording → other.recording ≡ recording
    → IsReadUpToFault one.recording (bare_slots firsts) (lines_of firsts) fault a b → HasRead other [] c c
    → IsFirstAtFault settings recording fault a b c c h h
fault_before_first settings one other recording firsts fault a b c h short e e' read read' = record {
  firsts = firsts;
  seconds = [];
  turn = other.view;
  first_read = fault_by one recording firsts fault a b e read;
  second_read = read_by other recording [] c c e' read';
  beside = inl (none_as_far (slots_in_front_of_first settings.shift) firsts (compared_of_second settings.shift []) short);
  put = none_of_first (PutsPlace settings) (slots_in_front_of_first settings.shift) firsts (compared_of_second settings.shift []) h
      short;
}

-- the second is
pub fault_before_second : (settings : CompareSettings) (one other : SlotReader) (recording : Recording)
    (firsts seconds : List ListedSlot) (fault : FaultLine) (a b c d h : Option (List ℕ))
    → length seconds ≤ slots_in_front_of_second settings.shift
    → one.recording ≡ recording → other.recording ≡ recording
    → HasRead one firsts a b → IsReadUpToFault other.recording (bare_slots seconds) (lines_of seconds) fault c d
    → IsSecondAtFault settings recording fault a b c d h h
fault_before_second settings one other recording firsts seconds fault a b c d h short e e' read read' = record {
  firsts = firsts;
  seconds = seconds;
  turn = one.view;
  first_read = read_by one recording firsts a b e read;
  second_read = fault_by other recording seconds fault c d e' read';
  beside = inl (none_as_far (slots_in_front_of_second settings.shift) seconds (compared_of_first settings.shift firsts) short);
  put = none_of_second (PutsPlace settings) (slots_in_front_of_second settings.shift) (compared_of_first settings.shift firsts)
      seconds h short;
}

-- two readers behind the slots in front stand beside each other
pub slots_begun : (settings : CompareSettings) (one other : SlotReader) (counts : PlaceCounts) (firsts seconds : List ListedSlot)
    (a b c d h : Option (List ℕ)) → HasRead one firsts a b → HasRead other seconds c d
    → length firsts ≤ slots_in_front_of_first settings.shift → length seconds ≤ slots_in_front_of_second settings.shift
    → (one.is_over ≡ false → length firsts ≡ slots_in_front_of_first settings.shift)
    → (other.is_over ≡ false → length seconds ≡ slots_in_front_of_second settings.shift)
    → counts.same ≡ 0 → counts.different ≡ 0 → counts.only_in_first ≡ 0 → counts.only_in_second ≡ 0
    → SlotsBeside settings one other counts firsts seconds a b c d h h
slots_begun settings one other counts firsts seconds a b c d h read read' short short' whole whole' same different first second =
    record {
      first_read = read;
      second_read = read';
      beside = beside_begun (is_same settings.ignored) (PutsPlace settings) (slots_in_front_of_first settings.shift)
          (slots_in_front_of_second settings.shift) one.is_over other.is_over counts firsts seconds h short short' whole whole' same
          different first second;
    }

-- and do so behind a step of both, by whatever counts these are
pub slots_next : (settings : CompareSettings) (one one' other other' : SlotReader) (counts counts' : PlaceCounts)
    (firsts seconds : List ListedSlot) (first second : Option ListedSlot) (a b b' c d d' h i i' : Option (List ℕ))
    → SlotsBeside settings one other counts firsts seconds a b c d h i
    → HasRead one' (firsts ++ found_next first) a b' → HasRead other' (seconds ++ found_next second) c d'
    → IsStep one.is_over one'.is_over first → IsStep other.is_over other'.is_over second
    → PutsFound (PutsPlace settings) first second i i' → counts' ≡ counted_found (is_same settings.ignored) first second counts
    → SlotsBeside settings one' other' counts' (firsts ++ found_next first) (seconds ++ found_next second) a b' c d' h i'
slots_next settings one one' other other' counts counts' firsts seconds first second a b b' c d d' h i i' stood read read' step
    step' put counted = record {
      first_read = read;
      second_read = read';
      beside = beside_by (is_same settings.ignored) (PutsPlace settings) (slots_in_front_of_first settings.shift)
          (slots_in_front_of_second settings.shift) one'.is_over other'.is_over
          (counted_found (is_same settings.ignored) first second counts) counts' (firsts ++ found_next first)
          (seconds ++ found_next second) h i' counted
          (beside_next (is_same settings.ignored) (PutsPlace settings) (slots_in_front_of_first settings.shift)
          (slots_in_front_of_second settings.shift) one.is_over one'.is_over other.is_over other'.is_over counts firsts seconds
          first second h i i' stood.beside step step' put);
    }

-- the first is at fault behind slots that were compared
pub fault_of_first : (settings : CompareSettings) (one other : SlotReader) (recording : Recording) (counts : PlaceCounts)
    (firsts seconds : List ListedSlot) (fault : FaultLine) (a b b' c d h i : Option (List ℕ))
    → SlotsBeside settings one other counts firsts seconds a b c d h i → one.recording ≡ recording → other.recording ≡ recording
    → IsReadUpToFault one.recording (bare_slots firsts) (lines_of firsts) fault a b'
    → IsFirstAtFault settings recording fault a b' c d h i
fault_of_first settings one other recording counts firsts seconds fault a b b' c d h i stood e e' read = record {
  firsts = firsts;
  seconds = seconds;
  turn = other.view;
  first_read = fault_by one recording firsts fault a b' e read;
  second_read = read_by other recording seconds c d e' stood.second_read;
  beside = by_end other.is_over stood.beside.second_beside stood.second_read.over;
  put = stood.beside.put;
}

-- the second is at fault behind slots that were compared, and perhaps one more of the first
pub fault_of_second : (settings : CompareSettings) (one one' other : SlotReader) (recording : Recording) (counts : PlaceCounts)
    (firsts seconds : List ListedSlot) (found : Option ListedSlot) (fault : FaultLine) (a b b' c d d' h i : Option (List ℕ))
    → SlotsBeside settings one other counts firsts seconds a b c d h i → one'.recording ≡ recording → other.recording ≡ recording
    → HasRead one' (firsts ++ found_next found) a b' → IsStep one.is_over one'.is_over found
    → IsReadUpToFault other.recording (bare_slots seconds) (lines_of seconds) fault c d'
    → IsSecondAtFault settings recording fault a b' c d' h i
fault_of_second settings one one' other recording counts firsts seconds found fault a b b' c d d' h i stood e e' read step read' =
    let m = slots_in_front_of_first settings.shift in
    let n = slots_in_front_of_second settings.shift in
    record {
      firsts = firsts ++ found_next found;
      seconds = seconds;
      turn = one'.view;
      first_read = read_by one' recording (firsts ++ found_next found) a b' e read;
      second_read = fault_by other recording seconds fault c d' e' read';
      beside = found_as_far (is_same settings.ignored) (PutsPlace settings) m n one.is_over one'.is_over other.is_over counts firsts
          seconds found h i stood.beside step read.over;
      put = put_alone (is_same settings.ignored) (PutsPlace settings) m n one.is_over one'.is_over other.is_over counts firsts
          seconds found h i stood.beside step;
    }

-- both are read to their ends
pub whole_compared : (settings : CompareSettings) (one one' other other' : SlotReader) (recording : Recording)
    (counts : PlaceCounts) (firsts seconds : List ListedSlot) (first second : Option ListedSlot)
    (a b b' c d d' h i : Option (List ℕ))
    → SlotsBeside settings one other counts firsts seconds a b c d h i → one'.recording ≡ recording → other'.recording ≡ recording
    → HasRead one' (firsts ++ found_next first) a b' → HasRead other' (seconds ++ found_next second) c d'
    → IsStep one.is_over one'.is_over first → IsStep other.is_over other'.is_over second → first ≡ None → second ≡ None
    → AreRestsCompared settings recording firsts seconds counts a b' c d' h i
whole_compared settings one one' other other' recording counts firsts seconds None None a b b' c d d' h i stood e e' read read' step
    step' none none' = record {
      first_turn = one'.view;
      second_turn = other'.view;
      first_read = subst (λ (l : List ListedSlot). AreSlotsRead recording l one'.view a b') (append-nil firsts)
          (read_by one' recording (firsts ++ []) a b' e read);
      second_read = subst (λ (l : List ListedSlot). AreSlotsRead recording l other'.view c d') (append-nil seconds)
          (read_by other' recording (seconds ++ []) c d' e' read');
      first_end = read.over step.none;
      second_end = read'.over step'.none;
      compared = record { counted = stood.beside.counted; put = stood.beside.put };
    }
whole_compared settings one one' other other' recording counts firsts seconds (Some x) second a b b' c d d' h i stood e e' read
    read' step step' none none' = absurd (grind (arith, none))
whole_compared settings one one' other other' recording counts firsts seconds None (Some y) a b b' c d d' h i stood e e' read read'
    step step' none none' = absurd (grind (arith, none'))

-- there is room for one more of each kind
pub slots_room : (settings : CompareSettings) (one other : SlotReader) (counts : PlaceCounts) (firsts seconds : List ListedSlot)
    (a b c d h i : Option (List ℕ)) → SlotsBeside settings one other counts firsts seconds a b c d h i → HasRoom counts
slots_room settings one other counts firsts seconds a b c d h i stood =
    let few = stood.first_read.few in
    let few' = stood.second_read.few in
    let most = most_few one.recording in
    let most' = most_few other.recording in
    let many = stood.first_read.count in
    let many' = stood.second_read.count in
    has_room (is_same settings.ignored) (PutsPlace settings) (slots_in_front_of_first settings.shift)
    (slots_in_front_of_second settings.shift) one.is_over other.is_over counts firsts seconds h i stood.beside
    (omega (arith, few, most, many)) (omega (arith, few', most', many'))
