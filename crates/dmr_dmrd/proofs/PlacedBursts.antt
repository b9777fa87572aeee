-- A burst stands in a recording exactly where its packet is placed.
use Rattle.std.proofs.Common.{◌≡◌, ◌≢◌, ◌⊎◌, ◌↔◌, ℕ, ◌+◌, ◌-◌, ◌<◌, ◌≤◌, ◌==◌, ◌||◌, nat_le, nat_lt}
use Rattle.std.proofs.Common.{if◌then◌else◌, Bool, true, false, List, [], ◌∷◌, ◌++◌, Option, Some, None, inl, inr, length}
use Rattle.std.proofs.Common.{replicate, refl, sym, ap, ◌∙◌, subst, arith}
use Rattle.std.proofs.lemmas.Bool.Decides.{nat_tests}
use Rattle.std.proofs.lemmas.List.{get_or_append_left, get_or-append_right, get_or_past, get_or-replicate, length-append}
use Rattle.std.proofs.lemmas.List.{length-replicate}
use Rattle.std.proofs.Math.Seq.{get_or-append_seam}
use Rattle.dmr_record.specs.Uplink.{UplinkSlot}
use Rattle.dmr_capture.specs.State.{CapturedPacket}
use Rattle.dmr_dmrd.specs.Holding.{held_burst, held_of_capture, hold_behind, hold_with, hold_with_taken, no_hold, slot_held}
use Rattle.dmr_dmrd.specs.Holding.{slot_in, start_of, hold_with_slot}
use Rattle.dmr_dmrd.specs.Lines.{HeldSlot, line_behind, line_with, slot_behind}
use Rattle.dmr_dmrd.specs.Placing.{asked_behind, asked_in_stream, frame_in_stream, frame_of_first, frame_on, frames_up_to}
use Rattle.dmr_dmrd.specs.Placing.{frame_asked, is_much_later, IsFromOn, next_placed, numbers_on, places_behind}
use Rattle.dmr_dmrd.specs.Standing.{IsPlacedAmong, IsPlacedAt}
use Rattle.dmr_dmrd.specs.Taking.{taken_packet}
use Rattle.dmr_dmrd.specs.declared.hold.Hold.{Hold}
use Rattle.dmr_dmrd.specs.declared.hold.ImportSettings.{ImportSettings}
use Rattle.dmr_dmrd.specs.declared.packet.BurstKind.{BurstKind}
use Rattle.dmr_dmrd.specs.declared.packet.BurstKind.TheVariants.{Data, Voice}
use Rattle.dmr_dmrd.specs.declared.packet.HotspotPacket.{HotspotPacket}
use Rattle.dmr_dmrd.specs.declared.packet.Slot.{Slot}
use Rattle.dmr_dmrd.specs.declared.packet.Slot.TheVariants.{One, Two}
use Rattle.dmr_dmrd.specs.declared.placing.Asked.{Asked}
use Rattle.dmr_dmrd.specs.declared.placing.Asked.TheVariants.{Late, Begins, GoesOn}
use Rattle.dmr_dmrd.specs.declared.placing.LastPlaced.{LastPlaced}
use Rattle.dmr_dmrd.specs.declared.placing.SlotPlaces.{SlotPlaces}
use Rattle.dmr_dmrd.specs.declared.placing.Start.{Start}

-- a packet that goes on is at least as many frames on as numbers
data_least : (last on asked : ℕ) (near : Bool) → nat_le asked (last + on + 1) ≡ near
    → last + on ≤ (if near then last + on else asked)
data_least last on asked true near = omega arith
data_least last on asked false near = grind (arith, nat_tests)

least_on : (before kind : BurstKind) (last on asked : ℕ) → last + on ≤ frame_on before kind last on asked
least_on (Voice before) (Voice voice) last on asked = omega arith
least_on Data (Voice voice) last on asked = omega arith
least_on (Voice before) Data last on asked = data_least last on asked (nat_le asked (last + on + 1)) refl
least_on Data Data last on asked = data_least last on asked (nat_le asked (last + on + 1)) refl

first_least : (start : Start) (p : HotspotPacket) (least time : ℕ)
    → IsFromOn least (Begins (frame_of_first start p.slot least time))
first_least start p least time = omega arith

late_by : (l : LastPlaced) (start : Start) (p : HotspotPacket) (time : ℕ) (much : Bool)
    → IsFromOn (l.frame + 1) (if much then Begins (frame_of_first start p.slot (l.frame + 1) time) else Late)
late_by l start p time true = first_least start p (l.frame + 1) time
late_by l start p time false = tt

in_stream_by : (l : LastPlaced) (start : Start) (p : HotspotPacket) (time on : ℕ) (by : Bool)
    → ((on == 0) || nat_le 128 on) ≡ by
    → IsFromOn (l.frame + 1) (if by
    then if is_much_later l time then Begins (frame_of_first start p.slot (l.frame + 1) time) else Late
    else GoesOn (frame_on l.kind p.kind l.frame on (frame_in_stream l time)) (on - 1))
in_stream_by l start p time on true by = late_by l start p time (is_much_later l time)
in_stream_by l start p time on false by =
    let some : 1 ≤ on = grind (arith, nat_tests) in
    let least = least_on l.kind p.kind l.frame on (frame_in_stream l time) in
    omega (arith, some, least)

by_stream : (l : LastPlaced) (start : Start) (p : HotspotPacket) (time : ℕ) (same : Bool)
    → IsFromOn (l.frame + 1) (if same
    then asked_in_stream l start p time (numbers_on l.number p.number)
    else Begins (frame_of_first start p.slot (l.frame + 1) time))
by_stream l start p time true =
    let on = numbers_on l.number p.number in in_stream_by l start p time on ((on == 0) || nat_le 128 on) refl
by_stream l start p time false = first_least start p (l.frame + 1) time

-- what a packet asks for is behind the last frame
pub asked_on : (last : Option LastPlaced) (start : Start) (p : HotspotPacket) (time : ℕ)
    → IsFromOn (frames_up_to last) (asked_behind last start p time)
asked_on None start p time = omega arith
asked_on (Some l) start p time = by_stream l start p time (l.stream == p.stream)

-- a line with a burst more, frame by frame
in_line : (line : List UplinkSlot) (burst : List ℕ) (at f : ℕ) → length line ≤ at → f < length line
    → slot_in (line_with line burst at) f ≡ slot_in line f
in_line line burst at f behind before =
    let gap : List UplinkSlot = replicate (at - length line) None in
    let long = length-append line gap in
    get_or_append_left (line ++ gap) (Some burst ∷ []) None f (omega (arith, long))
    ∙ get_or_append_left line gap None f before

filled_to : (line : List UplinkSlot) (at : ℕ) → length line ≤ at → length (line ++ replicate (at - length line) None) ≡ at
filled_to line at behind =
    let gap : List UplinkSlot = replicate (at - length line) None in
    let one = length-append line gap in
    let two : length gap ≡ at - length line = length-replicate (at - length line) None in
    omega (arith, one, two)

at_burst : (line : List UplinkSlot) (burst : List ℕ) (at : ℕ) → length line ≤ at → slot_in (line_with line burst at) at ≡ Some burst
at_burst line burst at behind =
    let filled = line ++ replicate (at - length line) None in
    subst (λ n. slot_in (filled ++ Some burst ∷ []) n ≡ Some burst) (filled_to line at behind)
    (get_or-append_seam filled (Some burst) [] None)

in_gap : (line : List UplinkSlot) (burst : List ℕ) (at f : ℕ) → length line ≤ at → length line ≤ f → f < at
    → slot_in (line_with line burst at) f ≡ None
in_gap line burst at f behind from before =
    let gap : List UplinkSlot = replicate (at - length line) None in
    let long = filled_to line at behind in
    get_or_append_left (line ++ gap) (Some burst ∷ []) None f (omega (arith, long))
    ∙ get_or-append_right line gap (length line) f None refl from
    ∙ get_or-replicate (at - length line) (f - length line) None None (omega arith)

past_burst : (line : List UplinkSlot) (burst : List ℕ) (at f : ℕ) → length line ≤ at → at < f
    → slot_in (line_with line burst at) f ≡ None
past_burst line burst at f behind past =
    let filled = line ++ replicate (at - length line) None in
    let one = filled_to line at behind in
    let two = length-append filled (Some burst ∷ []) in
    get_or_past (filled ++ Some burst ∷ []) f None (omega (arith, one, two))

abbrev octets_of_slot : UplinkSlot → List ℕ
octets_of_slot None = []
octets_of_slot (Some burst) = burst

-- what stands in a line with a burst more, stood there before, or is the burst
stands_by_gap : (line : List UplinkSlot) (burst b : List ℕ) (at f : ℕ) (gap : Bool) → nat_lt f at ≡ gap → length line ≤ at
    → length line ≤ f → f ≢ at → slot_in (line_with line burst at) f ≡ Some b → ⊥
stands_by_gap line burst b at f true gap behind from other stands =
    let before : f < at = grind (arith, nat_tests) in
    let none : None ≡ Some b = sym (in_gap line burst at f behind from before) ∙ stands in
    cc none
stands_by_gap line burst b at f false gap behind from other stands =
    let past : at < f = grind (arith, nat_tests) in
    let none : None ≡ Some b = sym (past_burst line burst at f behind past) ∙ stands in
    cc none

stands_by_same : (line : List UplinkSlot) (burst b : List ℕ) (at f : ℕ) (same : Bool) → (f == at) ≡ same → length line ≤ at
    → length line ≤ f → slot_in (line_with line burst at) f ≡ Some b → (f ≡ at) × (b ≡ burst)
stands_by_same line burst b at f true same behind from stands =
    let is : f ≡ at = grind (arith, nat_tests) in
    let both : Some burst ≡ Some b =
    sym (at_burst line burst at behind) ∙ ap (λ n. slot_in (line_with line burst at) n) (sym is) ∙ stands in
    (is, sym (ap octets_of_slot both))
stands_by_same line burst b at f false same behind from stands =
    let other : f ≢ at = grind (arith, nat_tests) in
    absurd (stands_by_gap line burst b at f (nat_lt f at) refl behind from other stands)

stands_by : (line : List UplinkSlot) (burst b : List ℕ) (at f : ℕ) (before : Bool) → nat_lt f (length line) ≡ before
    → length line ≤ at → slot_in (line_with line burst at) f ≡ Some b
    → (slot_in line f ≡ Some b) ⊎ ((f ≡ at) × (b ≡ burst))
stands_by line burst b at f true before behind stands =
    let inside : f < length line = grind (arith, nat_tests) in
    inl (sym (in_line line burst at f behind inside) ∙ stands)
stands_by line burst b at f false before behind stands =
    let from : length line ≤ f = grind (arith, nat_tests) in
    inr (stands_by_same line burst b at f (f == at) refl behind from stands)

pub stands_in : (line : List UplinkSlot) (burst b : List ℕ) (at f : ℕ) → length line ≤ at
    → slot_in (line_with line burst at) f ≡ Some b → (slot_in line f ≡ Some b) ⊎ ((f ≡ at) × (b ≡ burst))
stands_in line burst b at f behind stands = stands_by line burst b at f (nat_lt f (length line)) refl behind stands

-- and the other way round
kept_by : (line : List UplinkSlot) (burst b : List ℕ) (at f : ℕ) (before : Bool) → nat_lt f (length line) ≡ before
    → length line ≤ at → slot_in line f ≡ Some b → slot_in (line_with line burst at) f ≡ Some b
kept_by line burst b at f true before behind stood =
    let inside : f < length line = grind (arith, nat_tests) in
    in_line line burst at f behind inside ∙ stood
kept_by line burst b at f false before behind stood =
    let from : length line ≤ f = grind (arith, nat_tests) in
    let none : None ≡ Some b = sym (get_or_past line f None from) ∙ stood in
    cc none

pub kept_in : (line : List UplinkSlot) (burst b : List ℕ) (at f : ℕ) → length line ≤ at → slot_in line f ≡ Some b
    → slot_in (line_with line burst at) f ≡ Some b
kept_in line burst b at f behind stood = kept_by line burst b at f (nat_lt f (length line)) refl behind stood

pub put_in : (line : List UplinkSlot) (burst b : List ℕ) (at f : ℕ) → length line ≤ at → f ≡ at → b ≡ burst
    → slot_in (line_with line burst at) f ≡ Some b
put_in line burst b at f behind is has =
    ap (λ n. slot_in (line_with line burst at) n) is ∙ at_burst line burst at behind ∙ ap Some (sym has)

abbrev number_asked : Option ℕ → ℕ
number_asked None = 0
number_asked (Some n) = n

found_to : (line : List UplinkSlot) (burst b : List ℕ) (f at : ℕ)
    → (slot_in line f ≡ Some b) ⊎ ((f ≡ at) × (b ≡ burst)) → (slot_in line f ≡ Some b) ⊎ ((Some at ≡ Some f) × (b ≡ burst))
found_to line burst b f at (inl stood) = inl stood
found_to line burst b f at (inr (is, has)) = inr (ap Some (sym is), has)

-- a line behind a packet, where that asks for a frame behind its end
line_to : (line : List UplinkSlot) (burst b : List ℕ) (f : ℕ) (frame : Option ℕ) → ((at : ℕ) → frame ≡ Some at → length line ≤ at)
    → slot_in (line_behind line burst frame) f ≡ Some b
    → (slot_in line f ≡ Some b) ⊎ ((frame ≡ Some f) × (b ≡ burst))
line_to line burst b f None behind stands = inl stands
line_to line burst b f (Some at) behind stands = found_to line burst b f at (stands_in line burst b at f (behind at refl) stands)

line_from : (line : List UplinkSlot) (burst b : List ℕ) (f : ℕ) (frame : Option ℕ)
    → ((at : ℕ) → frame ≡ Some at → length line ≤ at)
    → (slot_in line f ≡ Some b) ⊎ ((frame ≡ Some f) × (b ≡ burst)) → slot_in (line_behind line burst frame) f ≡ Some b
line_from line burst b f None behind (inl stood) = stood
line_from line burst b f None behind (inr (none, has)) = cc none
line_from line burst b f (Some at) behind (inl stood) = kept_in line burst b at f (behind at refl) stood
line_from line burst b f (Some at) behind (inr (is, has)) =
    put_in line burst b at f (behind at refl) (sym (ap number_asked is)) has

-- The frames of both slots are counted.
pub record IsCounted (hold : Hold) : Type 0 where
  pub one : length hold.one.line ≡ frames_up_to hold.one.places.last
  pub two : length hold.two.line ≡ frames_up_to hold.two.places.last

-- what a packet asks for, by the slot that it says
abbrev asked_at : Slot → Hold → HotspotPacket → ℕ → Asked
asked_at slot hold p time = asked_behind (slot_held slot hold).places.last (start_of hold.start slot time) p time

abbrev held_at : Slot → ImportSettings → Hold → HotspotPacket → ℕ → Hold
held_at slot settings hold p time = hold_with_slot slot
    (slot_behind (slot_held slot hold) p time (held_burst settings.as_uplink p.burst) (asked_at slot hold p time))
    (record hold { repeater = Some p.repeater; start = Some (start_of hold.start slot time) })

-- what stands in the slot of the packet, and in the other one
same_slot : (slot : Slot) (settings : ImportSettings) (hold : Hold) (p : HotspotPacket) (time : ℕ)
    → slot_held slot (held_at slot settings hold p time)
    ≡ slot_behind (slot_held slot hold) p time (held_burst settings.as_uplink p.burst) (asked_at slot hold p time)
same_slot One settings hold p time = refl
same_slot Two settings hold p time = refl

other_slot : (slot own : Slot) (settings : ImportSettings) (hold : Hold) (p : HotspotPacket) (time : ℕ) → (slot ≡ own → ⊥)
    → slot_held slot (held_at own settings hold p time) ≡ slot_held slot hold
other_slot One One settings hold p time other = absurd (other refl)
other_slot One Two settings hold p time other = refl
other_slot Two One settings hold p time other = refl
other_slot Two Two settings hold p time other = absurd (other refl)

is_own_slot : (slot own : Slot) → (slot ≡ own) ⊎ (slot ≡ own → ⊥)
is_own_slot One One = inl refl
is_own_slot One Two = inr (λ e. cc e)
is_own_slot Two One = inr (λ e. cc e)
is_own_slot Two Two = inl refl

count_of : (slot : Slot) (hold : Hold) → IsCounted hold
    → length (slot_held slot hold).line ≡ frames_up_to (slot_held slot hold).places.last
count_of One hold counted = counted.one
count_of Two hold counted = counted.two

-- a frame that is asked for is behind the end of its slot
asked_from : (least : ℕ) (asked : Asked) → IsFromOn least asked → (at : ℕ) → frame_asked asked ≡ Some at → least ≤ at
asked_from least Late from at asks = cc asks
asked_from least (Begins frame) from at asks = let same : frame ≡ at = ap number_asked asks in omega (arith, from, same)
asked_from least (GoesOn frame lost) from at asks = let same : frame ≡ at = ap number_asked asks in omega (arith, from, same)

asked_behind_line : (slot : Slot) (hold : Hold) (p : HotspotPacket) (time : ℕ) → IsCounted hold → (at : ℕ)
    → frame_asked (asked_at slot hold p time) ≡ Some at → length (slot_held slot hold).line ≤ at
asked_behind_line slot hold p time counted at asks =
    subst (λ n. n ≤ at) (sym (count_of slot hold counted))
    (asked_from (frames_up_to (slot_held slot hold).places.last) (asked_at slot hold p time)
    (asked_on (slot_held slot hold).places.last (start_of hold.start slot time) p time) at asks)

line_long : (line : List UplinkSlot) (burst : List ℕ) (at : ℕ) → length line ≤ at → length (line_with line burst at) ≡ at + 1
line_long line burst at behind =
    let filled = line ++ replicate (at - length line) None in
    let one = filled_to line at behind in
    let two = length-append filled (Some burst ∷ []) in
    omega (arith, one, two)

next_frame : (last : Option LastPlaced) (p : HotspotPacket) (time frame : ℕ) → (next_placed last p time frame).frame ≡ frame
next_frame None p time frame = refl
next_frame (Some l) p time frame = refl

count_line : (line : List UplinkSlot) (burst : List ℕ) (places : SlotPlaces) (p : HotspotPacket) (time : ℕ) (asked : Asked)
    → IsFromOn (frames_up_to places.last) asked → length line ≡ frames_up_to places.last
    → length (line_behind line burst (frame_asked asked)) ≡ frames_up_to (places_behind places p time asked).last
count_line line burst places p time Late from counted = counted
count_line line burst places p time (Begins frame) from counted = line_long line burst frame (omega (arith, from, counted))
count_line line burst places p time (GoesOn frame lost) from counted =
    let same = next_frame places.last p time frame in
    line_long line burst frame (omega (arith, from, counted)) ∙ ap (λ n. n + 1) (sym same)

counted_in : (slot : Slot) (settings : ImportSettings) (hold : Hold) (p : HotspotPacket) (time : ℕ) → IsCounted hold
    → IsCounted (held_at slot settings hold p time)
counted_in One settings hold p time counted =
    let start = start_of hold.start One time in record {
      one = count_line hold.one.line (held_burst settings.as_uplink p.burst) hold.one.places p time (asked_at One hold p time)
          (asked_on hold.one.places.last start p time) counted.one;
      two = counted.two;
    }
counted_in Two settings hold p time counted =
    let start = start_of hold.start Two time in record {
      one = counted.one;
      two = count_line hold.two.line (held_burst settings.as_uplink p.burst) hold.two.places p time (asked_at Two hold p time)
          (asked_on hold.two.places.last start p time) counted.two;
    }

counted_by : (settings : ImportSettings) (hold : Hold) (time : ℕ) (found : Option HotspotPacket) → IsCounted hold
    → IsCounted (hold_with_taken settings hold time found)
counted_by settings hold time None counted = record { one = counted.one; two = counted.two }
counted_by settings hold time (Some p) counted = counted_in p.slot settings hold p time counted

none_slot : (slot : Slot) (settings : ImportSettings) (hold : Hold) (time : ℕ)
    → slot_held slot (hold_with_taken settings hold time None) ≡ slot_held slot hold
none_slot One settings hold time = refl
none_slot Two settings hold time = refl

-- what stands in a slot in a frame
abbrev Stands : HeldSlot → ℕ → List ℕ → Type 0
Stands slot f b = slot_in slot.line f ≡ Some b

abbrev packet_or : HotspotPacket → Option HotspotPacket → HotspotPacket
packet_or p None = p
packet_or p (Some q) = q

module _ (settings : ImportSettings) (hold : Hold) (packet : CapturedPacket) (slot : Slot) (f : ℕ) (b : List ℕ)
    (counted : IsCounted hold) where
  abbrev Found : Option HotspotPacket → Type 0
  Found found = taken_packet settings.ports hold.repeater packet.link packet.octets ≡ found

  own_line : (p : HotspotPacket) → p.slot ≡ slot
      → slot_held slot (held_at p.slot settings hold p packet.time)
      ≡ slot_behind (slot_held slot hold) p packet.time (held_burst settings.as_uplink p.burst) (asked_at slot hold p packet.time)
  own_line p e =
      subst (λ own. slot_held slot (held_at own settings hold p packet.time)
      ≡ slot_behind (slot_held slot hold) p packet.time (held_burst settings.as_uplink p.burst) (asked_at slot hold p packet.time))
      (sym e) (same_slot slot settings hold p packet.time)

  placed_or : (p : HotspotPacket) → Found (Some p) → p.slot ≡ slot
      → (Stands (slot_held slot hold) f b)
      ⊎ ((frame_asked (asked_at slot hold p packet.time) ≡ Some f) × (b ≡ held_burst settings.as_uplink p.burst))
      → (Stands (slot_held slot hold) f b) ⊎ IsPlacedAt settings hold packet slot f b
  placed_or p found e (inl stood) = inl stood
  placed_or p found e (inr (asks, has)) = inr (record {
    p = p;
    taken = found;
    of_slot = e;
    asks = subst (λ own. frame_asked (asked_at own hold p packet.time) ≡ Some f) (sym e) asks;
    has = has;
  })

  to_own : (p : HotspotPacket) → Found (Some p) → (slot ≡ p.slot) ⊎ (slot ≡ p.slot → ⊥)
      → Stands (slot_held slot (held_at p.slot settings hold p packet.time)) f b
      → (Stands (slot_held slot hold) f b) ⊎ IsPlacedAt settings hold packet slot f b
  to_own p found (inl e) stands =
      placed_or p found (sym e)
      (line_to (slot_held slot hold).line (held_burst settings.as_uplink p.burst) b f
      (frame_asked (asked_at slot hold p packet.time)) (asked_behind_line slot hold p packet.time counted)
      (subst (λ s. Stands s f b) (own_line p (sym e)) stands))
  to_own p found (inr other) stands =
      inl (subst (λ s. Stands s f b) (other_slot slot p.slot settings hold p packet.time other) stands)

  to_by : (found : Option HotspotPacket) → Found found
      → Stands (slot_held slot (hold_with_taken settings hold packet.time found)) f b
      → (Stands (slot_held slot hold) f b) ⊎ IsPlacedAt settings hold packet slot f b
  to_by None found stands = inl (subst (λ s. Stands s f b) (none_slot slot settings hold packet.time) stands)
  to_by (Some p) found stands = to_own p found (is_own_slot slot p.slot) stands

  pub step_to : Stands (slot_held slot (hold_with settings hold packet)) f b
      → (Stands (slot_held slot hold) f b) ⊎ IsPlacedAt settings hold packet slot f b
  step_to stands = to_by (taken_packet settings.ports hold.repeater packet.link packet.octets) refl stands

  asked_or : (p : HotspotPacket) → Found (Some p) → p.slot ≡ slot
      → (Stands (slot_held slot hold) f b) ⊎ IsPlacedAt settings hold packet slot f b
      → (Stands (slot_held slot hold) f b)
      ⊎ ((frame_asked (asked_at slot hold p packet.time) ≡ Some f) × (b ≡ held_burst settings.as_uplink p.burst))
  asked_or p found e (inl stood) = inl stood
  asked_or p found e (inr placed) =
      let same : placed.p ≡ p = ap (packet_or p) (sym placed.taken ∙ found) in
      inr (
        subst (λ q. frame_asked (asked_at slot hold q packet.time) ≡ Some f) same
            (subst (λ own. frame_asked (asked_at own hold placed.p packet.time) ≡ Some f) placed.of_slot placed.asks),
        placed.has ∙ ap (λ q. held_burst settings.as_uplink q.burst) same,
      )

  not_here : (p : HotspotPacket) → Found (Some p) → (slot ≡ p.slot → ⊥)
      → (Stands (slot_held slot hold) f b) ⊎ IsPlacedAt settings hold packet slot f b → Stands (slot_held slot hold) f b
  not_here p found other (inl stood) = stood
  not_here p found other (inr placed) =
      let same : placed.p ≡ p = ap (packet_or p) (sym placed.taken ∙ found) in
      absurd (other (sym placed.of_slot ∙ ap (λ q. q.slot) same))

  from_own : (p : HotspotPacket) → Found (Some p) → (slot ≡ p.slot) ⊎ (slot ≡ p.slot → ⊥)
      → (Stands (slot_held slot hold) f b) ⊎ IsPlacedAt settings hold packet slot f b
      → Stands (slot_held slot (held_at p.slot settings hold p packet.time)) f b
  from_own p found (inl e) before =
      subst (λ s. Stands s f b) (sym (own_line p (sym e)))
      (line_from (slot_held slot hold).line (held_burst settings.as_uplink p.burst) b f
      (frame_asked (asked_at slot hold p packet.time)) (asked_behind_line slot hold p packet.time counted)
      (asked_or p found (sym e) before))
  from_own p found (inr other) before =
      subst (λ s. Stands s f b) (sym (other_slot slot p.slot settings hold p packet.time other)) (not_here p found other before)

  none_here : Found None → (Stands (slot_held slot hold) f b) ⊎ IsPlacedAt settings hold packet slot f b
      → Stands (slot_held slot hold) f b
  none_here found (inl stood) = stood
  none_here found (inr placed) = let none : None ≡ Some placed.p = sym found ∙ placed.taken in cc none

  from_by : (found : Option HotspotPacket) → Found found
      → (Stands (slot_held slot hold) f b) ⊎ IsPlacedAt settings hold packet slot f b
      → Stands (slot_held slot (hold_with_taken settings hold packet.time found)) f b
  from_by None found before =
      subst (λ s. Stands s f b) (sym (none_slot slot settings hold packet.time)) (none_here found before)
  from_by (Some p) found before = from_own p found (is_own_slot slot p.slot) before

  pub step_from : (Stands (slot_held slot hold) f b) ⊎ IsPlacedAt settings hold packet slot f b
      → Stands (slot_held slot (hold_with settings hold packet)) f b
  step_from before = from_by (taken_packet settings.ports hold.repeater packet.link packet.octets) refl before

  pub step_counted : IsCounted (hold_with settings hold packet)
  step_counted =
      counted_by settings hold packet.time (taken_packet settings.ports hold.repeater packet.link packet.octets) counted

among_more : (settings : ImportSettings) (hold : Hold) (packet : CapturedPacket) (packets : List CapturedPacket) (slot : Slot)
    (f : ℕ) (b : List ℕ) → IsCounted hold
    → (Stands (slot_held slot (hold_with settings hold packet)) f b)
    ⊎ IsPlacedAmong settings (hold_with settings hold packet) packets slot f b
    → (Stands (slot_held slot hold) f b) ⊎ IsPlacedAmong settings hold (packet ∷ packets) slot f b
among_more settings hold packet packets slot f b counted (inl stands) =
    first_of (step_to settings hold packet slot f b counted stands)
  where
    first_of : (Stands (slot_held slot hold) f b) ⊎ IsPlacedAt settings hold packet slot f b
        → (Stands (slot_held slot hold) f b) ⊎ IsPlacedAmong settings hold (packet ∷ packets) slot f b
    first_of (inl stood) = inl stood
    first_of (inr placed) = inr (inl placed)
among_more settings hold packet packets slot f b counted (inr among) = inr (inr among)

stands_among : (settings : ImportSettings) (packets : List CapturedPacket) (hold : Hold) (slot : Slot) (f : ℕ) (b : List ℕ)
    → IsCounted hold → Stands (slot_held slot (hold_behind settings hold packets)) f b
    → (Stands (slot_held slot hold) f b) ⊎ IsPlacedAmong settings hold packets slot f b
stands_among settings [] hold slot f b counted stands = inl stands
stands_among settings (packet ∷ packets) hold slot f b counted stands =
    among_more settings hold packet packets slot f b counted
    (stands_among settings packets (hold_with settings hold packet) slot f b
    (step_counted settings hold packet slot f b counted) stands)

among_less : (settings : ImportSettings) (hold : Hold) (packet : CapturedPacket) (packets : List CapturedPacket) (slot : Slot)
    (f : ℕ) (b : List ℕ) → IsCounted hold
    → (Stands (slot_held slot hold) f b) ⊎ IsPlacedAmong settings hold (packet ∷ packets) slot f b
    → (Stands (slot_held slot (hold_with settings hold packet)) f b)
    ⊎ IsPlacedAmong settings (hold_with settings hold packet) packets slot f b
among_less settings hold packet packets slot f b counted (inl stood) =
    inl (step_from settings hold packet slot f b counted (inl stood))
among_less settings hold packet packets slot f b counted (inr (inl placed)) =
    inl (step_from settings hold packet slot f b counted (inr placed))
among_less settings hold packet packets slot f b counted (inr (inr among)) = inr among

among_stands : (settings : ImportSettings) (packets : List CapturedPacket) (hold : Hold) (slot : Slot) (f : ℕ) (b : List ℕ)
    → IsCounted hold → (Stands (slot_held slot hold) f b) ⊎ IsPlacedAmong settings hold packets slot f b
    → Stands (slot_held slot (hold_behind settings hold packets)) f b
among_stands settings [] hold slot f b counted (inl stood) = stood
among_stands settings [] hold slot f b counted (inr none) = absurd none
among_stands settings (packet ∷ packets) hold slot f b counted before =
    among_stands settings packets (hold_with settings hold packet) slot f b (step_counted settings hold packet slot f b counted)
    (among_less settings hold packet packets slot f b counted before)

none_counted : (settings : ImportSettings) → IsCounted (no_hold settings)
none_counted settings = record { one = refl; two = refl }

only_among : (settings : ImportSettings) (packets : List CapturedPacket) (slot : Slot) (f : ℕ) (b : List ℕ)
    → (Stands (slot_held slot (no_hold settings)) f b) ⊎ IsPlacedAmong settings (no_hold settings) packets slot f b
    → IsPlacedAmong settings (no_hold settings) packets slot f b
only_among settings packets One f b (inl stood) =
    let none : None ≡ Some b = sym (get_or_past [] f None (omega arith)) ∙ stood in cc none
only_among settings packets Two f b (inl stood) =
    let none : None ≡ Some b = sym (get_or_past [] f None (omega arith)) ∙ stood in cc none
only_among settings packets slot f b (inr among) = among

-- a burst stands in a frame exactly where a packet is placed there that has it
pub stands_where_placed : (settings : ImportSettings) (packets : List CapturedPacket) (slot : Slot) (f : ℕ) (b : List ℕ)
    → (slot_in (slot_held slot (held_of_capture settings packets)).line f ≡ Some b)
    ↔ IsPlacedAmong settings (no_hold settings) packets slot f b
stands_where_placed settings packets slot f b = (
  λ stands. only_among settings packets slot f b
      (stands_among settings packets (no_hold settings) slot f b (none_counted settings) stands),
  λ among. among_stands settings packets (no_hold settings) slot f b (none_counted settings) (inr among),
)
