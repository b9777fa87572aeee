-- Packets that are captured in the order of sending are placed in the frames of sending.
use Rattle.std.proofs.Common.{◌≡◌, ◌≢◌, ℕ, ◌+◌, ◌-◌, ◌*◌, ◌/◌, ◌%◌, ◌<◌, ◌≤◌, ◌==◌, ◌||◌, max, nat_le, if◌then◌else◌}
use Rattle.std.proofs.Common.{Bool, true, false, List, [], ◌∷◌, Option, Some, None, refl, sym, ap, ◌∙◌, subst, arith}
use Rattle.std.proofs.lemmas.Bool.Decides.{nat_tests}
use Rattle.dmr_dmrd.specs.Holding.{held_burst, no_hold, slot_held, start_of, hold_with_slot}
use Rattle.dmr_dmrd.specs.Lines.{slot_behind}
use Rattle.dmr_dmrd.specs.Placing.{asked_behind, asked_in_stream, first_placed, frame_asked, frame_from_start, frame_in_stream}
use Rattle.dmr_dmrd.specs.Placing.{frame_of_first, frame_on, is_much_later, later_than_start, nearest_by_six, numbers_on}
use Rattle.dmr_dmrd.specs.Placing.{places_behind, voice_frames_on}
use Rattle.dmr_dmrd.specs.Sending.{AgreeInKind, AreSentFrom, FollowsInSlot, GoesOnBy, IsCaptured, IsKind, MayBeNext, SentPacket}
use Rattle.dmr_dmrd.specs.Sending.{frames_placed, frames_sent, last_in, last_of_one, last_of_two, time_in_frame}
use Rattle.dmr_dmrd.specs.declared.hold.Hold.{Hold}
use Rattle.dmr_dmrd.specs.declared.hold.ImportSettings.{ImportSettings}
use Rattle.dmr_dmrd.specs.declared.packet.BurstKind.{BurstKind}
use Rattle.dmr_dmrd.specs.declared.packet.BurstKind.TheVariants.{Data, Voice}
use Rattle.dmr_dmrd.specs.declared.packet.Slot.{Slot}
use Rattle.dmr_dmrd.specs.declared.packet.Slot.TheVariants.{One, Two}
use Rattle.dmr_dmrd.specs.declared.placing.Asked.{Asked}
use Rattle.dmr_dmrd.specs.declared.placing.Asked.TheVariants.{Late, Begins, GoesOn}
use Rattle.dmr_dmrd.specs.declared.placing.LastPlaced.{LastPlaced}
use Rattle.dmr_dmrd.specs.declared.placing.SlotPlaces.{SlotPlaces}
use Rattle.dmr_dmrd.specs.declared.placing.Start.{Start}

-- A time is one of a frame, counted from the first, in a slot.
pub record IsTimeOf (least first : ℕ) (slot : Slot) (frame time : ℕ) : Type 0 where
  pub early : (first + frame) * 60000000 + time_in_frame slot + least ≤ time
  pub late : time < (first + frame) * 60000000 + time_in_frame slot + least + 30000000

-- by the first packet of all
from_start : (least first : ℕ) (from slot : Slot) (frame start time : ℕ) → IsTimeOf least first from 0 start
    → IsTimeOf least first slot frame time → (time + later_than_start from slot - start) / 60000000 ≡ frame
from_start least first One One frame start time is_start is_time = omega arith
from_start least first One Two frame start time is_start is_time = omega arith
from_start least first Two One frame start time is_start is_time = omega arith
from_start least first Two Two frame start time is_start is_time = omega arith

-- by the first packet of its stream
from_stream : (least first : ℕ) (slot : Slot) (begin frame start time : ℕ) → IsTimeOf least first slot begin start
    → IsTimeOf least first slot frame time → (time + (begin * 60000000 + 30000000) - start) / 60000000 ≡ frame
from_stream least first One begin frame start time is_start is_time = omega arith
from_stream least first Two begin frame start time is_start is_time = omega arith

-- much later
far_on : (least first : ℕ) (slot : Slot) (last frame before time : ℕ) → IsTimeOf least first slot last before
    → IsTimeOf least first slot frame time → last + 128 ≤ frame → nat_le 3840000000 (time - before) ≡ true
far_on least first One last frame before time is_before is_time far =
    let h : 3840000000 ≤ time - before = omega arith in grind (arith, nat_tests)
far_on least first Two last frame before time is_before is_time far =
    let h : 3840000000 ≤ time - before = omega arith in grind (arith, nat_tests)

-- by numbers
numbers_say : (last next numbers : ℕ) → last < 256 → next ≡ (last + numbers) % 256 → numbers_on last next ≡ numbers % 256
numbers_say last next numbers narrow is = omega arith

-- the frame of a packet that goes on
voice_on : (last before next on frames numbers : ℕ) → before < 6 → next < 6 → 1 ≤ on → on ≤ frames → on < 128
    → next ≡ (before + frames) % 6
    → nearest_by_six (last + voice_frames_on before next on) (last + frames) ≡ last + frames
voice_on last before next on frames numbers b n some few narrow agree = omega arith

data_by : (last on frames numbers : ℕ) → on ≡ numbers % 256 → numbers ≤ frames → frames ≢ numbers + 1
    → (near : Bool) → nat_le (last + frames) (last + on + 1) ≡ near
    → (if near then last + on else last + frames) ≡ last + frames
data_by last on frames numbers is few agree true near =
    let close : last + frames ≤ last + on + 1 = grind (arith, nat_tests) in
    let same : numbers % 256 ≡ numbers = omega arith in
    omega arith
data_by last on frames numbers is few agree false near = refl

data_on : (last on frames numbers : ℕ) → on ≡ numbers % 256 → numbers ≤ frames → frames ≢ numbers + 1
    → (if nat_le (last + frames) (last + on + 1) then last + on else last + frames) ≡ last + frames
data_on last on frames numbers is few agree =
    data_by last on frames numbers is few agree (nat_le (last + frames) (last + on + 1)) refl

goes_on : (before kind : BurstKind) (last on frames numbers : ℕ) → IsKind before → IsKind kind → on ≡ numbers % 256 → 1 ≤ on
    → on < 128 → numbers ≤ frames → AgreeInKind before kind frames numbers
    → frame_on before kind last on (last + frames) ≡ last + frames
goes_on (Voice before) (Voice next) last on frames numbers b n is some narrow few agree =
    voice_on last before next on frames numbers b n some (omega arith) narrow agree
goes_on Data (Voice next) last on frames numbers b n is some narrow few agree =
    let least : last + on ≤ last + frames = omega arith in omega arith
goes_on (Voice before) Data last on frames numbers b n is some narrow few agree = data_on last on frames numbers is few agree
goes_on Data Data last on frames numbers b n is some narrow few agree = data_on last on frames numbers is few agree

-- What is remembered of the last packet of a slot is that it was sent so, and where its stream began.
pub record Mirrors (least first : ℕ) (slot : Slot) (s : SentPacket) (l : LastPlaced) : Type 0 where
  pub of_slot : s.p.slot ≡ slot
  pub stream : l.stream ≡ s.p.stream
  pub number : l.number ≡ s.p.number
  pub narrow : l.number < 256
  pub kind : l.kind ≡ s.p.kind
  pub is_kind : IsKind l.kind
  pub frame : first + l.frame ≡ s.frame
  pub time : IsTimeOf least first slot l.frame l.time
  pub begin : IsTimeOf least first slot l.first_frame l.first_time

abbrev pub MirrorsLast : ℕ → ℕ → Slot → Option SentPacket → Option LastPlaced → Type 0
MirrorsLast least first slot None None = Unit {0}
MirrorsLast least first slot None (Some l) = ⊥
MirrorsLast least first slot (Some s) None = ⊥
MirrorsLast least first slot (Some s) (Some l) = Mirrors least first slot s l

-- the time of a packet is that of its frame
time_of_sent : (least first : ℕ) (slot : Slot) (s : SentPacket) → s.p.slot ≡ slot → IsCaptured least s → first ≤ s.frame
    → IsTimeOf least first slot (s.frame - first) s.time
time_of_sent least first slot s of_slot is later =
    let early : s.frame * 60000000 + time_in_frame slot + least ≤ s.time =
    subst (λ t. s.frame * 60000000 + time_in_frame t + least ≤ s.time) of_slot is.early in
    let late : s.time < s.frame * 60000000 + time_in_frame slot + least + 30000000 =
    subst (λ t. s.time < s.frame * 60000000 + time_in_frame t + least + 30000000) of_slot is.late in
    record { early = omega arith; late = omega arith }

-- a packet that was placed in its frame, as the first of its stream
mirror_first : (least first : ℕ) (slot : Slot) (s : SentPacket) (frame : ℕ) → s.p.slot ≡ slot → IsCaptured least s
    → first ≤ s.frame → frame ≡ s.frame - first → Mirrors least first slot s (first_placed s.p s.time frame)
mirror_first least first slot s frame of_slot is later at =
    let time = time_of_sent least first slot s of_slot is later in
    record {
      of_slot = of_slot;
      stream = refl;
      number = refl;
      narrow = is.number;
      kind = refl;
      is_kind = is.kind;
      frame = omega arith;
      time = rw at time;
      begin = rw at time;
    }

-- A packet asks for the frame in which it was sent, and is remembered so.
pub record IsRight (least first : ℕ) (slot : Slot) (s : SentPacket) (placed : Option LastPlaced) (asked : Asked) : Type 0 where
  pub asks : frame_asked asked ≡ Some (s.frame - first)
  pub mirrors : (places : SlotPlaces) → places.last ≡ placed
      → MirrorsLast least first slot (Some s) (places_behind places s.p s.time asked).last

right_first : (least first : ℕ) (slot : Slot) (s : SentPacket) (placed : Option LastPlaced) (start : Start) (from : ℕ)
    → s.p.slot ≡ slot → IsTimeOf least first start.slot 0 start.time → IsCaptured least s → first ≤ s.frame
    → from ≤ s.frame - first → IsRight least first slot s placed (Begins (frame_of_first start s.p.slot from s.time))
right_first least first slot s placed start from of_slot is_start is later room =
    let time = time_of_sent least first slot s of_slot is later in
    let by : frame_from_start start s.p.slot s.time ≡ s.frame - first =
    subst (λ t. frame_from_start start t s.time ≡ s.frame - first) (sym of_slot)
    (from_start least first start.slot slot (s.frame - first) start.time s.time is_start time) in
    let at : frame_of_first start s.p.slot from s.time ≡ s.frame - first =
    subst (λ f. max f from ≡ s.frame - first) (sym by) (omega arith) in
    record {
      asks = ap Some at;
      mirrors = λ places e. mirror_first least first slot s (frame_of_first start s.p.slot from s.time) of_slot is later at;
    }

right_next : (least first : ℕ) (slot : Slot) (s : SentPacket) (l : LastPlaced) (frame lost : ℕ) → s.p.slot ≡ slot
    → IsCaptured least s → first ≤ s.frame → IsTimeOf least first slot l.first_frame l.first_time → frame ≡ s.frame - first
    → IsRight least first slot s (Some l) (GoesOn frame lost)
right_next least first slot s l frame lost of_slot is later begin at =
    let placed = mirror_first least first slot s frame of_slot is later at in
    record {
      asks = ap Some at;
      mirrors = λ places e. rw e (record {
        of_slot = placed.of_slot;
        stream = placed.stream;
        number = placed.number;
        narrow = placed.narrow;
        kind = placed.kind;
        is_kind = placed.is_kind;
        frame = placed.frame;
        time = placed.time;
        begin = begin;
      });
    }

-- whether a packet is late by its number
abbrev is_by_time : ℕ → Bool
is_by_time on = (on == 0) || nat_le 128 on

by_time_far : (on numbers frames : ℕ) → is_by_time on ≡ true → on ≡ numbers % 256 → 1 ≤ numbers → numbers ≤ frames → 128 ≤ frames
by_time_far on numbers frames by is some few = grind (arith, nat_tests)

by_number_on : (on : ℕ) → is_by_time on ≡ false → 1 ≤ on
by_number_on on by = grind (arith, nat_tests)

by_number_below : (on : ℕ) → is_by_time on ≡ false → on < 128
by_number_below on by = grind (arith, nat_tests)

module _ (least first : ℕ) (slot : Slot) (start : Start) (last s : SentPacket) (l : LastPlaced)
    (is_start : IsTimeOf least first start.slot 0 start.time) (of_slot : s.p.slot ≡ slot)
    (mirrors : Mirrors least first slot last l) (is : IsCaptured least s) (follows : FollowsInSlot last s) where
  late_enough : first ≤ s.frame
  late_enough = let at = mirrors.frame in let next = follows.later in omega (arith, at, next)

  room : l.frame + 1 ≤ s.frame - first
  room = let at = mirrors.frame in let next = follows.later in let apart = follows.apart in omega (arith, at, next, apart)

  begins : IsRight least first slot s (Some l) (Begins (frame_of_first start s.p.slot (l.frame + 1) s.time))
  begins = right_first least first slot s (Some l) start (l.frame + 1) of_slot is_start is late_enough room

  frames_on : s.frame - first ≡ l.frame + follows.frames
  frames_on = let at = mirrors.frame in let next = follows.later in omega (arith, at, next)

  in_stream_by : (goes : GoesOnBy last.p s.p follows.frames) (on : ℕ) → on ≡ goes.numbers % 256 → (by : Bool)
      → is_by_time on ≡ by
      → IsRight least first slot s (Some l) (if by
      then if is_much_later l s.time then Begins (frame_of_first start s.p.slot (l.frame + 1) s.time) else Late
      else GoesOn (frame_on l.kind s.p.kind l.frame on (frame_in_stream l s.time)) (on - 1))
  in_stream_by goes on is_on true by =
      let far : 128 ≤ follows.frames = by_time_far on goes.numbers follows.frames by is_on goes.some goes.few in
      let time = time_of_sent least first slot s of_slot is late_enough in
      let frames = frames_on in
      let much : is_much_later l s.time ≡ true =
      far_on least first slot l.frame (s.frame - first) l.time s.time mirrors.time time (omega (arith, far, frames)) in
      rw much begins
  in_stream_by goes on is_on false by =
      let time = time_of_sent least first slot s of_slot is late_enough in
      let asked : frame_in_stream l s.time ≡ l.frame + follows.frames =
      from_stream least first slot l.first_frame (s.frame - first) l.first_time s.time mirrors.begin time ∙ frames_on in
      let kinds = subst (λ k. AgreeInKind k s.p.kind follows.frames goes.numbers) (sym mirrors.kind) goes.kinds in
      let at : frame_on l.kind s.p.kind l.frame on (frame_in_stream l s.time) ≡ s.frame - first =
      ap (frame_on l.kind s.p.kind l.frame on) asked
      ∙ goes_on l.kind s.p.kind l.frame on follows.frames goes.numbers mirrors.is_kind is.kind is_on (by_number_on on by)
      (by_number_below on by) goes.few kinds ∙ sym frames_on in
      right_next least first slot s l _ (on - 1) of_slot is late_enough mirrors.begin at

  in_stream : GoesOnBy last.p s.p follows.frames
      → IsRight least first slot s (Some l) (asked_in_stream l start s.p s.time (numbers_on l.number s.p.number))
  in_stream goes =
      let on = numbers_on l.number s.p.number in
      let number : s.p.number ≡ (l.number + goes.numbers) % 256 =
      goes.number ∙ ap (λ n. (n + goes.numbers) % 256) (sym mirrors.number) in
      in_stream_by goes on (numbers_say l.number s.p.number goes.numbers mirrors.narrow number) (is_by_time on) refl

  by_stream : (same : Bool) → (l.stream == s.p.stream) ≡ same
      → IsRight least first slot s (Some l) (if same
      then asked_in_stream l start s.p s.time (numbers_on l.number s.p.number)
      else Begins (frame_of_first start s.p.slot (l.frame + 1) s.time))
  by_stream true same =
      let one : l.stream ≡ s.p.stream = grind (arith, nat_tests) in
      in_stream (follows.stream (sym mirrors.stream ∙ one))
  by_stream false same = begins

  pub right_behind : IsRight least first slot s (Some l) (asked_behind (Some l) start s.p s.time)
  right_behind = by_stream (l.stream == s.p.stream) refl

-- the next packet of a slot asks for the frame in which it was sent
right : (least first : ℕ) (slot : Slot) (start : Start) (before : Option SentPacket) (s : SentPacket)
    (placed : Option LastPlaced) → IsTimeOf least first start.slot 0 start.time → s.p.slot ≡ slot
    → MirrorsLast least first slot before placed → IsCaptured least s → first ≤ s.frame → MayBeNext before s
    → IsRight least first slot s placed (asked_behind placed start s.p s.time)
right least first slot start None s None is_start of_slot mirrors is later follows =
    right_first least first slot s None start 0 of_slot is_start is later (omega arith)
right least first slot start None s (Some l) is_start of_slot mirrors is later follows = absurd mirrors
right least first slot start (Some last) s None is_start of_slot mirrors is later follows = absurd mirrors
right least first slot start (Some last) s (Some l) is_start of_slot mirrors is later follows =
    right_behind least first slot start last s l is_start of_slot mirrors is follows

-- what a packet is placed as, by the slot that it says
abbrev asked_in : Slot → Hold → SentPacket → Asked
asked_in slot hold s = asked_behind (slot_held slot hold).places.last (start_of hold.start slot s.time) s.p s.time

abbrev held_in : Slot → ImportSettings → Hold → SentPacket → Hold
held_in slot settings hold s = hold_with_slot slot
    (slot_behind (slot_held slot hold) s.p s.time (held_burst settings.as_uplink s.p.burst) (asked_in slot hold s))
    (record hold { repeater = Some s.p.repeater; start = Some (start_of hold.start slot s.time) })

-- where the recording begins, behind a packet
abbrev Begun : ℕ → ℕ → Hold → Slot → SentPacket → Start → Type 0
Begun least first hold slot s start = (start_of hold.start slot s.time ≡ start) × IsTimeOf least first start.slot 0 start.time

-- What holds of the packets behind a packet, if what is held of those before them mirrors what was sent.
abbrev Onwards : ℕ → ℕ → ImportSettings → Start → List SentPacket → Type 0
Onwards least first settings start rest = (hold : Hold) (one two : Option SentPacket) → hold.start ≡ Some start
    → MirrorsLast least first One one hold.one.places.last → MirrorsLast least first Two two hold.two.places.last
    → AreSentFrom least first one two rest → frames_placed settings hold rest ≡ frames_sent first rest

in_slot : (least first : ℕ) (settings : ImportSettings) (hold : Hold) (start : Start) (one two : Option SentPacket)
    (s : SentPacket) (rest : List SentPacket) (slot : Slot) → s.p.slot ≡ slot → Begun least first hold slot s start
    → MirrorsLast least first One one hold.one.places.last → MirrorsLast least first Two two hold.two.places.last
    → IsCaptured least s → first ≤ s.frame → MayBeNext (last_in slot one two) s
    → AreSentFrom least first (last_of_one slot s one) (last_of_two slot s two) rest
    → Onwards least first settings start rest
    → frame_asked (asked_in slot hold s) ∷ frames_placed settings (held_in slot settings hold s) rest
    ≡ Some (s.frame - first) ∷ frames_sent first rest
in_slot least first settings hold start one two s rest One of_slot (begin, is_start) m1 m2 is later follows more onwards =
    let asked = asked_in One hold s in
    let is_right : IsRight least first One s hold.one.places.last asked =
    subst (λ t. IsRight least first One s hold.one.places.last (asked_behind hold.one.places.last t s.p s.time)) (sym begin)
    (right least first One start one s hold.one.places.last is_start of_slot m1 is later follows) in
    ap (λ f. f ∷ frames_placed settings (held_in One settings hold s) rest) is_right.asks
    ∙ ap (λ l. Some (s.frame - first) ∷ l) (onwards (held_in One settings hold s) (Some s) two (ap Some begin)
    (is_right.mirrors hold.one.places refl) m2 more)
in_slot least first settings hold start one two s rest Two of_slot (begin, is_start) m1 m2 is later follows more onwards =
    let asked = asked_in Two hold s in
    let is_right : IsRight least first Two s hold.two.places.last asked =
    subst (λ t. IsRight least first Two s hold.two.places.last (asked_behind hold.two.places.last t s.p s.time)) (sym begin)
    (right least first Two start two s hold.two.places.last is_start of_slot m2 is later follows) in
    ap (λ f. f ∷ frames_placed settings (held_in Two settings hold s) rest) is_right.asks
    ∙ ap (λ l. Some (s.frame - first) ∷ l) (onwards (held_in Two settings hold s) one (Some s) (ap Some begin) m1
    (is_right.mirrors hold.two.places refl) more)

-- one packet, in whichever slot it is
one_more : (least first : ℕ) (settings : ImportSettings) (hold : Hold) (start : Start) (one two : Option SentPacket)
    (s : SentPacket) (rest : List SentPacket) → Begun least first hold s.p.slot s start
    → MirrorsLast least first One one hold.one.places.last → MirrorsLast least first Two two hold.two.places.last
    → AreSentFrom least first one two (s ∷ rest) → Onwards least first settings start rest
    → frames_placed settings hold (s ∷ rest) ≡ frames_sent first (s ∷ rest)
one_more least first settings hold start one two s rest begun m1 m2 (is, later, follows, more) onwards =
    in_slot least first settings hold start one two s rest s.p.slot refl begun m1 m2 is later follows more onwards

sent_on : (least first : ℕ) (settings : ImportSettings) (start : Start) → IsTimeOf least first start.slot 0 start.time
    → (rest : List SentPacket) → Onwards least first settings start rest
sent_on least first settings start is_start [] hold one two begin m1 m2 sent = refl
sent_on least first settings start is_start (s ∷ rest) hold one two begin m1 m2 sent =
    let at : start_of hold.start s.p.slot s.time ≡ start = ap (λ b. start_of b s.p.slot s.time) begin in
    one_more least first settings hold start one two s rest (at, is_start) m1 m2 sent
    (sent_on least first settings start is_start rest)

-- packets that are sent in order are placed in the frames of sending, counted from that of the first
pub placed_as_sent : (settings : ImportSettings) (least : ℕ) (s : SentPacket) (rest : List SentPacket)
    → AreSentFrom least s.frame None None (s ∷ rest)
    → frames_placed settings (no_hold settings) (s ∷ rest) ≡ frames_sent s.frame (s ∷ rest)
placed_as_sent settings least s rest sent =
    let start : Start = record { time = s.time; slot = s.p.slot } in
    let is = sent.0 in
    let is_start : IsTimeOf least s.frame s.p.slot 0 s.time =
    record { early = let early = is.early in omega (arith, early); late = let late = is.late in omega (arith, late) } in
    one_more least s.frame settings (no_hold settings) start None None s rest (refl, is_start) tt tt sent
    (sent_on least s.frame settings start is_start rest)
