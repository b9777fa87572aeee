-- What strips show goes on, slot by slot.
use Rattle.std.proofs.Common.{◌≡◌, ℕ, ◌+◌, ◌*◌, ◌/◌, ◌<◌, ◌≤◌, Bool, true, false, if◌then◌else◌, List, [], ◌∷◌, ◌++◌, length, drop}
use Rattle.std.proofs.Common.{Option, None, Some, refl, sym, ap, ◌∙◌, subst, inl, inr, arith, append-nil, take_all, append_assoc}
use Rattle.std.proofs.Common.{eq-or-lt_of_le, ne_eqb}
use Rattle.std.proofs.lemmas.List.{drop-append-le, drop_all, length-append, length-drop, length-map, length_push, map-append}
use Rattle.std.proofs.lemmas.List.{take-append-le}
use Rattle.std.specs.Io.KnownBytes.{Consumes}
use Rattle.dmr_recording.specs.Places.{place_by_number}
use Rattle.dmr_listing.specs.ListingRules.{GivenInTurn, IsRead, Lists, ListingTurn, begun, turn_after, turn_passed}
use Rattle.dmr_listing.specs.Marks.{mark_of}
use Rattle.dmr_recording.specs.Recordings.{IsSlotOf, RecordedSlot, spelling}
use Rattle.dmr_listing.specs.Strips.{AreStrips, IsGivenWhereFull, IsMarkAt, IsStripOf, IsStripped, Picture, IsStrippedUpToStrip}
use Rattle.dmr_listing.specs.Strips.{has, shown_marks, most_marks, pushed, pushed_in, shown, unless_empty}
use Rattle.dmr_listing.specs.declared.burst_line.BurstLine.{BurstLine}
use Rattle.dmr_listing.specs.declared.frames.Frames.{Frames}
use Rattle.dmr_listing.specs.declared.mark.Mark.{Mark}
use Rattle.dmr_listing.specs.declared.mark.Mark.TheVariants.{Silence}
use Rattle.dmr_recording.specs.declared.place.Place.{Place}
use Rattle.dmr_recording.specs.declared.recording.RecordedBurst.{RecordedBurst}
use Rattle.dmr_recording.specs.declared.recording.Recording.{Recording}
use Rattle.dmr_listing.proofs.Listings.{given_then, read_burst, read_none, read_part, read_silence}

-- They were read, and a taker was given the strips that are full; one with the marks of the last slots waits.
pub record IsDrawn {L : Type 0} (Takes : L → Picture → L → Type 0) (recording : Recording) (frames : Frames)
    (slots : List RecordedSlot) (part : List ℕ) (end : ListingTurn) (left_old left_new : Option (List ℕ)) (waiting : Picture)
    (old new : L) : Type 0 where
  pub lines : List BurstLine
  pub read : IsRead recording slots lines part end left_old left_new
  pub full : List (Place × Mark)
  pub rest : List (Place × Mark)
  pub marks : shown_marks frames 0 slots lines ≡ full ++ rest
  pub strips : List Picture
  pub drawn : AreStrips full strips
  pub whole : length full ≡ most_marks * length strips
  pub few : length rest ≤ most_marks
  pub waits : IsStripOf rest waiting
  pub given : GivenInTurn Takes old strips new

-- a strip more, behind full ones
pub strips_more : (full rest : List (Place × Mark)) (strips : List Picture) (strip : Picture) → AreStrips full strips
    → length full ≡ most_marks * length strips → 0 < length rest → length rest ≤ most_marks → IsStripOf rest strip
    → AreStrips (full ++ rest) (strips ++ strip ∷ [])
strips_more full rest [] strip none whole some few is = rw none (
  some,
  subst (λ l. IsStripOf l strip) (sym (take_all most_marks rest few)) is,
  drop_all most_marks rest few,
)
strips_more full rest (s ∷ ss) strip strips whole some few is =
    let (most, first, are) = strips in
    let enough : most_marks ≤ length full = omega (arith, whole) in
    let less : length (drop most_marks full) ≡ most_marks * length ss = omega (arith, whole, length-drop most_marks full) in (
      omega (arith, most, length-append full rest),
      subst (λ l. IsStripOf l s) (sym (take-append-le most_marks full rest enough)) first,
      subst (λ l. AreStrips l (ss ++ strip ∷ [])) (sym (drop-append-le most_marks full rest enough))
          (strips_more (drop most_marks full) rest ss strip are less some few is),
    )

-- the mark of a slot more in a strip
pub strip_more : (rest : List (Place × Mark)) (strip : Picture) (place : Place) (mark : Mark) → IsStripOf rest strip
    → IsStripOf (rest ++ (place, mark) ∷ []) (pushed place mark strip)
strip_more [] strip place mark none = rw none (refl, refl)
strip_more (first ∷ more) strip place mark (frame, marks) = rw marks (
  frame,
  sym (map-append (λ (m : Place × Mark). m.1) (first ∷ more) ((place, mark) ∷ [])),
)

-- the marks with that of a silent slot more
marks_silent : (frames : Frames) (turn : ListingTurn) (slots : List RecordedSlot) (lines : List BurstLine) (end : ListingTurn)
    → Lists turn slots lines end
    → shown_marks frames turn.slots (slots ++ None ∷ []) lines
    ≡ shown_marks frames turn.slots slots lines ++ shown frames end.slots Silence
marks_silent frames turn [] lines end (none, same) =
    append-nil (shown frames turn.slots Silence) ∙ ap (λ (t : ListingTurn). shown frames t.slots Silence) (sym same)
marks_silent frames turn (None ∷ slots) lines end lists =
    ap (λ l. shown frames turn.slots Silence ++ l) (marks_silent frames (turn_passed turn) slots lines end lists)
    ∙ sym (append_assoc (shown frames turn.slots Silence) _ _)
marks_silent frames turn (Some b ∷ slots) [] end lists = absurd lists
marks_silent frames turn (Some b ∷ slots) (line ∷ lines) end (first, lists) =
    ap (λ l. shown frames turn.slots (mark_of line) ++ l) (marks_silent frames (turn_after line b turn) slots lines end lists)
    ∙ sym (append_assoc (shown frames turn.slots (mark_of line)) _ _)

-- the marks with that of a burst more
marks_burst : (frames : Frames) (turn : ListingTurn) (slots : List RecordedSlot) (lines : List BurstLine) (end : ListingTurn)
    (burst : RecordedBurst)
    (line : BurstLine) → Lists turn slots lines end
    → shown_marks frames turn.slots (slots ++ Some burst ∷ []) (lines ++ line ∷ [])
    ≡ shown_marks frames turn.slots slots lines ++ shown frames end.slots (mark_of line)
marks_burst frames turn [] lines end burst line (none, same) = rw none (
    append-nil (shown frames turn.slots (mark_of line)) ∙ ap (λ (t : ListingTurn). shown frames t.slots (mark_of line)) (sym same)
    )
marks_burst frames turn (None ∷ slots) lines end burst line lists =
    ap (λ l. shown frames turn.slots Silence ++ l) (marks_burst frames (turn_passed turn) slots lines end burst line lists)
    ∙ sym (append_assoc (shown frames turn.slots Silence) _ _)
marks_burst frames turn (Some b ∷ slots) [] end burst line lists = absurd lists
marks_burst frames turn (Some b ∷ slots) (one ∷ lines) end burst line (first, lists) =
    ap (λ l. shown frames turn.slots (mark_of one) ++ l)
    (marks_burst frames (turn_after one b turn) slots lines end burst line lists)
    ∙ sym (append_assoc (shown frames turn.slots (mark_of one)) _ _)

-- What is read and drawn of a slot more.
pub record IsOneMore (recording : Recording) (frames : Frames) (slots : List RecordedSlot) (lines : List BurstLine)
    (turn : ListingTurn) (slot : RecordedSlot) (mark : Mark) (end : ListingTurn) (a c : Option (List ℕ)) : Type 0 where
  pub lines_more : List BurstLine
  pub read : IsRead recording (slots ++ slot ∷ []) lines_more [] end a c
  pub marks : shown_marks frames 0 (slots ++ slot ∷ []) lines_more
      ≡ shown_marks frames 0 slots lines ++ shown frames turn.slots mark

-- with a slot more, that slot is read behind the others, and its mark stands behind theirs
pub one_more : (recording : Recording) (frames : Frames) (slots : List RecordedSlot) (lines : List BurstLine) (turn : ListingTurn)
    (slot : RecordedSlot) (mark : Mark) (end : ListingTurn) (a b c : Option (List ℕ))
    → IsRead recording slots lines [] turn a b → IsSlotOf recording slot
    → Consumes b c (spelling recording slot) → IsMarkAt turn slot mark end
    → IsOneMore recording frames slots lines turn slot mark end a c
one_more recording frames slots lines turn None mark end a b c read is_slot octets (silent, later) = rw (silent, later) (record {
  lines_more = lines;
  read = read_silence recording slots lines turn a b c read octets;
  marks = marks_silent frames begun slots lines turn read.listed;
})
one_more recording frames slots lines turn (Some burst) mark end a b c read is_slot octets (line, at, same, later) =
    rw (same, later) (record {
      lines_more = lines ++ line ∷ [];
      read = read_burst recording slots lines turn burst line a b c read is_slot octets at;
      marks = marks_burst frames begun slots lines turn burst line read.listed;
    })

-- a strip has as many marks as it shows
strip_long : (rest : List (Place × Mark)) (strip : Picture) → IsStripOf rest strip → length strip.marks ≡ length rest
strip_long [] strip none = ap length none
strip_long (first ∷ more) strip (frame, marks) = ap length marks ∙ length-map (first ∷ more) (λ (m : Place × Mark). m.1)

-- the mark of a slot more, where it is shown
strip_shown : (is_shown : Bool) (rest : List (Place × Mark)) (strip : Picture) (place : Place) (mark : Mark) → IsStripOf rest strip
    → IsStripOf (rest ++ (if is_shown then (place, mark) ∷ [] else [])) (if is_shown then pushed place mark strip else strip)
strip_shown true rest strip place mark is = strip_more rest strip place mark is
strip_shown false rest strip place mark is = subst (λ l. IsStripOf l strip) (sym (append-nil rest)) is

few_shown : (is_shown : Bool) (place : Place) (mark : Mark)
    → length {A = Place × Mark} (if is_shown then (place, mark) ∷ [] else []) ≤ 1
few_shown true place mark = omega arith
few_shown false place mark = omega arith

-- before the first slot nothing was drawn, and a strip without marks waits
pub drawn_none : {L : Type 0} (Takes : L → Picture → L → Type 0) (recording : Recording) (frames : Frames)
    (left : Option (List ℕ)) (strip : Picture) (lines : L) → strip.marks ≡ []
    → IsDrawn Takes recording frames [] [] begun left left strip lines lines
drawn_none Takes recording frames left strip lines none = record {
  lines = [];
  read = read_none recording left;
  full = [];
  rest = [];
  marks = refl;
  strips = [];
  drawn = refl;
  whole = refl;
  few = omega arith;
  waits = none;
  given = refl;
}

-- a slot more was read, and its mark went to the strip that waits
pub drawn_pushed : {L : Type 0} (Takes : L → Picture → L → Type 0) (recording : Recording) (frames : Frames)
    (slots : List RecordedSlot) (turn : ListingTurn) (slot : RecordedSlot) (mark : Mark)
    (end : ListingTurn) (place : Place) (a b c : Option (List ℕ)) (strip : Picture) (d e : L)
    → IsDrawn Takes recording frames slots [] turn a b strip d e → length strip.marks < most_marks → IsSlotOf recording slot
    → Consumes b c (spelling recording slot) → IsMarkAt turn slot mark end → place ≡ place_by_number turn.slots
    → IsDrawn Takes recording frames (slots ++ slot ∷ []) [] end a c (pushed_in frames place mark strip) d e
drawn_pushed Takes recording frames slots turn slot mark end place a b c strip d e drawn room is_slot read marked at =
    let more = one_more recording frames slots drawn.lines turn slot mark end a b c drawn.read is_slot read marked in
    let next = shown frames turn.slots mark in
    let is_shown = has frames (turn.slots / 2) in
    rw at (record {
      lines = more.lines_more;
      read = more.read;
      full = drawn.full;
      rest = drawn.rest ++ next;
      marks = more.marks ∙ ap (λ l. l ++ next) drawn.marks ∙ append_assoc drawn.full drawn.rest next;
      strips = drawn.strips;
      drawn = drawn.drawn;
      whole = drawn.whole;
      few = omega (
        arith,
        room,
        strip_long drawn.rest strip drawn.waits,
        length-append drawn.rest next,
        few_shown is_shown (place_by_number
            turn.slots) mark,
      );
      waits = strip_shown is_shown drawn.rest strip (place_by_number turn.slots) mark drawn.waits;
      given = drawn.given;
    })

-- behind the next slot, whatever its mark, one slot more was passed
pub turn_later : (turn : ListingTurn) (slot : RecordedSlot) (mark : Mark) (end : ListingTurn) → IsMarkAt turn slot mark end
    → end.slots ≡ turn.slots + 1
turn_later turn None mark end (silent, later) = ap (λ (t : ListingTurn). t.slots) later
turn_later turn (Some burst) mark end (line, at, same, later) = ap (λ (t : ListingTurn). t.slots) later

-- the strip that waited was given, and another one waits
drawn_full : {L : Type 0} (Takes : L → Picture → L → Type 0) (recording : Recording) (frames : Frames) (slots : List RecordedSlot)
    (turn : ListingTurn) (a b : Option (List ℕ)) (strip waiting : Picture) (d e f : L)
    → IsDrawn Takes recording frames slots [] turn a b strip d e
    → length strip.marks ≡ most_marks → waiting.marks ≡ [] → GivenInTurn Takes e (strip ∷ []) f
    → IsDrawn Takes recording frames slots [] turn a b waiting d f
drawn_full Takes recording frames slots turn a b strip waiting d e f drawn full none given =
    let long = strip_long drawn.rest strip drawn.waits in
    record {
      lines = drawn.lines;
      read = drawn.read;
      full = drawn.full ++ drawn.rest;
      rest = [];
      marks = drawn.marks ∙ sym (append-nil (drawn.full ++ drawn.rest));
      strips = drawn.strips ++ strip ∷ [];
      drawn = strips_more drawn.full drawn.rest drawn.strips strip drawn.drawn drawn.whole (omega (arith, long, full)) drawn.few
          drawn.waits;
      whole = omega (arith, drawn.whole, long, full, length-append drawn.full drawn.rest, length_push drawn.strips strip);
      few = omega arith;
      waits = none;
      given = given_then Takes d e f drawn.strips (strip ∷ []) drawn.given given;
    }

drawn_waits : {L : Type 0} (Takes : L → Picture → L → Type 0) (recording : Recording) (frames : Frames)
    (slots : List RecordedSlot) (turn : ListingTurn) (a b : Option (List ℕ)) (strip waiting : Picture) (d e f : L)
    → IsDrawn Takes recording frames slots [] turn a b strip d e → waiting ≡ strip → GivenInTurn Takes e [] f
    → IsDrawn Takes recording frames slots [] turn a b waiting d f
drawn_waits Takes recording frames slots turn a b strip waiting d e f drawn same given = rw same (record {
  lines = drawn.lines;
  read = drawn.read;
  full = drawn.full;
  rest = drawn.rest;
  marks = drawn.marks;
  strips = drawn.strips;
  drawn = drawn.drawn;
  whole = drawn.whole;
  few = drawn.few;
  waits = drawn.waits;
  given = subst (GivenInTurn Takes d drawn.strips) (sym given) drawn.given;
})

-- the strip that waits was given where it is full
pub drawn_given : {L : Type 0} (Takes : L → Picture → L → Type 0) (recording : Recording) (frames : Frames)
    (slots : List RecordedSlot) (turn : ListingTurn) (a b : Option (List ℕ)) (strip waiting : Picture) (d e f : L)
    → IsDrawn Takes recording frames slots [] turn a b strip d e
    → IsGivenWhereFull Takes strip waiting e f → IsDrawn Takes recording frames slots [] turn a b waiting d f
drawn_given Takes recording frames slots turn a b strip waiting d e f drawn given =
    let few : length strip.marks ≤ most_marks = omega (arith, strip_long drawn.rest strip drawn.waits, drawn.few) in
    elim (eq-or-lt_of_le few) [
      | inl full ↦ drawn_full Takes recording frames slots turn a b strip waiting d e f drawn full (given.full full).0
          (given.full full).1
      | inr less ↦ drawn_waits Takes recording frames slots turn a b strip waiting d e f drawn (given.other less).0
          (given.other less).1
    ]

-- Strips of these marks were given.
pub record IsFinished {L : Type 0} (Takes : L → Picture → L → Type 0) (marks : List (Place × Mark)) (old new : L) : Type 0 where
  pub strips : List Picture
  pub drawn : AreStrips marks strips
  pub given : GivenInTurn Takes old strips new

unless_some : (strip : Picture) → 0 < length strip.marks → unless_empty strip ≡ strip ∷ []
unless_some strip some = ap (λ (is_empty : Bool). if is_empty then [] else strip ∷ []) (ne_eqb (length strip.marks) 0 (λ none.
    absurd (omega arith)))

-- the strip of the last marks was given, unless there are none
finished : {L : Type 0} (Takes : L → Picture → L → Type 0) (full rest : List (Place × Mark)) (strips : List Picture)
    (strip : Picture) (d e f : L) → AreStrips full strips → length full ≡ most_marks * length strips → length rest ≤ most_marks
    → IsStripOf rest strip → GivenInTurn Takes d strips e → GivenInTurn Takes e (unless_empty strip) f
    → IsFinished Takes (full ++ rest) d f
finished Takes full [] strips strip d e f drawn whole few none given last = record {
  strips = strips;
  drawn = subst (λ l. AreStrips l strips) (sym (append-nil full)) drawn;
  given = subst (λ l. GivenInTurn Takes d l f) (append-nil strips) (given_then Takes d e f strips [] given (rw none at last));
}
finished Takes full (first ∷ more) strips strip d e f drawn whole few (frame, marks) given last = record {
  strips = strips ++ strip ∷ [];
  drawn = strips_more full (first ∷ more) strips strip drawn whole (omega arith) few (frame, marks);
  given = given_then Takes d e f strips (strip ∷ []) given
      (subst (λ l. GivenInTurn Takes e l f) (unless_some strip (omega (arith, strip_long (first ∷ more) strip (frame, marks))))
      last);
}

-- some octets more, and no mark
pub drawn_part : {L : Type 0} (Takes : L → Picture → L → Type 0) (recording : Recording) (frames : Frames)
    (slots : List RecordedSlot) (part : List ℕ) (turn : ListingTurn) (a b c : Option (List ℕ)) (strip : Picture) (d e : L)
    → IsDrawn Takes recording frames slots [] turn a b strip d e → Consumes b c part
    → IsDrawn Takes recording frames slots part turn a c strip d e
drawn_part Takes recording frames slots part turn a b c strip d e drawn octets = record {
  lines = drawn.lines;
  read = read_part recording slots drawn.lines part turn a b c drawn.read octets;
  full = drawn.full;
  rest = drawn.rest;
  marks = drawn.marks;
  strips = drawn.strips;
  drawn = drawn.drawn;
  whole = drawn.whole;
  few = drawn.few;
  waits = drawn.waits;
  given = drawn.given;
}

-- where the strip that waits was given too, unless it has no marks, all strips of the slots were given
pub stripped : {L : Type 0} (Takes : L → Picture → L → Type 0) (recording : Recording) (frames : Frames)
    (slots : List RecordedSlot) (part : List ℕ) (turn : ListingTurn) (a b : Option (List ℕ)) (strip : Picture) (d e f : L)
    → IsDrawn Takes recording frames slots part turn a b strip d e
    → GivenInTurn Takes e (unless_empty strip) f → IsStripped Takes recording frames slots part turn a b d f
stripped Takes recording frames slots part turn a b strip d e f drawn last =
    let end = finished Takes drawn.full drawn.rest drawn.strips strip d e f drawn.drawn drawn.whole drawn.few drawn.waits
    drawn.given last in
    record {
      lines = drawn.lines;
      read = drawn.read;
      strips = end.strips;
      drawn = subst (λ l. AreStrips l end.strips) (sym drawn.marks) end.drawn;
      given = end.given;
    }

-- the strip that waits was refused
pub stripped_up_to_strip : {L : Type 0} (Takes Refuses : L → Picture → L → Type 0) (recording : Recording) (frames : Frames)
    (slots : List RecordedSlot) (part : List ℕ) (turn : ListingTurn) (a b : Option (List ℕ)) (strip : Picture) (d e f : L)
    → IsDrawn Takes recording frames slots part turn a b strip d e → 0 < length strip.marks → Refuses e strip f
    → IsStrippedUpToStrip Takes Refuses recording frames a b d f
stripped_up_to_strip Takes Refuses recording frames slots part turn a b strip d e f drawn some refused =
    let long = strip_long drawn.rest strip drawn.waits in
    record {
      slots = slots;
      lines = drawn.lines;
      part = part;
      end = turn;
      read = drawn.read;
      strips = drawn.strips;
      last = strip;
      drawn = subst (λ l. AreStrips l (drawn.strips ++ strip ∷ [])) (sym drawn.marks)
          (strips_more drawn.full drawn.rest drawn.strips
          strip drawn.drawn drawn.whole (omega (arith, long, some)) drawn.few drawn.waits);
      given = record { between = e; taken = drawn.given; last = refused };
    }

-- the strip that waits is full, and was refused
pub full_up_to_strip : {L : Type 0} (Takes Refuses : L → Picture → L → Type 0) (recording : Recording) (frames : Frames)
    (slots : List RecordedSlot) (turn : ListingTurn) (a b : Option (List ℕ)) (strip waiting : Picture) (d e f : L)
    → IsDrawn Takes recording frames slots [] turn a b strip d e
    → (length strip.marks ≡ most_marks) × (waiting ≡ strip) × Refuses e strip f
    → IsStrippedUpToStrip Takes Refuses recording frames a b d f
full_up_to_strip Takes Refuses recording frames slots turn a b strip waiting d e f drawn (full, same, refused) =
    stripped_up_to_strip Takes Refuses recording frames slots [] turn a b strip d e f drawn (omega (arith, full)) refused
