-- What a log is told to repeat for the slots of a call.
use Rattle.std.proofs.Common.{◌≡◌, ℕ, zero, suc, ◌≤◌, Bool, true, false, not, List, [], ◌∷◌, ◌++◌, length, map, zip}
use Rattle.std.proofs.Common.{Option, Some, None, is_some, replicate, drop, refl, ap, ◌∙◌, arith, if◌then◌else◌}
use Rattle.std.proofs.lemmas.Bool.{eq-eqb}
use Rattle.std.specs.List.{AllByRecursion, AllZip}
use Rattle.std.specs.Option.{option_or}
use Rattle.dmr_burst.specs.declared.burst.Burst.{Burst}
use Rattle.dmr_burst.specs.declared.emb.Emb.{Emb}
use Rattle.dmr_hearing.specs.Parts.{is_own}
use Rattle.dmr_hearing.specs.Slots.{SentSlot, Silent, silence, vocoder_of}
use Rattle.dmr_hearing.specs.declared.heard.Heard.{Heard}
use Rattle.dmr_link.specs.declared.full_lc.FullLc.{FullLc}
use Rattle.dmr_log.specs.Repeated.{data_told}
use Rattle.dmr_log.specs.SlotTracks.{repeated_of}
use Rattle.dmr_log.specs.declared.arrived.Arrived.{Arrived}
use Rattle.dmr_log.specs.declared.repeated.Repeated.{Repeated}
use Rattle.dmr_log.specs.declared.repeated.Repeated.TheVariants as repeated
use Rattle.dmr_slot.specs.Bursts.{IsSlotOut, lc_of}
use Rattle.dmr_slot.specs.LineMeaning.{Repeated as Gives}
use Rattle.dmr_slot.specs.declared.line.SlotOut.{SlotOut}
use Rattle.dmr_voice.specs.CallMeaning.{Cell, Ending, Terminated, Silenced, Lead, HeaderAgain, PiHeader, Present, Superframe}
use Rattle.dmr_voice.specs.CallMeaning.{data_cell, ending_cells, header_cell, is_complete, lead_cell, place_cell, superframe_cells}
use Rattle.dmr_voice.specs.CallMeaning.{unsaid}
use Rattle.dmr_voice.specs.Places.{content_at, voice_of}
use Rattle.dmr_voice.specs.declared.place.Place.{Place}
use Rattle.dmr_voice.specs.declared.place.Place.TheVariants.{A, B, C, D, E, F}
use Rattle.dmr_voice.specs.Said as content
use Rattle.dmr_voice.specs.declared.said.Role.{Role}
use Rattle.dmr_voice.specs.declared.said.Role.TheVariants.{Call}
use Rattle.dmr_voice.specs.Said.{Repeat}
use Rattle.dmr_log_laws.proofs.Decided.{Shows}
use Rattle.dmr_log_laws.specs.CallEntries.{link_control_meant}

-- 1. One cell.

-- the link control that is told of a call
abbrev pub lc_told : Repeated → Option FullLc
lc_told (repeated.CallHeader lc) = lc
lc_told (repeated.Place lc is_filled) = lc
lc_told (repeated.Terminator lc) = lc
lc_told r = None

-- Whatever shows this cell is this, and its link control is what the cell means.
pub record IsShownAs (colour : ℕ) (c : Cell) (e : Repeated) : Type 0 where
  pub shown : (r : Repeated) → Shows colour c r → r ≡ e
  pub link_control : link_control_meant (c.means []) ≡ lc_told e

-- a slot for which nothing is repeated
pub unsaid_shown : (colour : ℕ) (sent : SentSlot) (r : Repeated) → Shows colour (unsaid sent) r → r ≡ repeated.Nothing
unsaid_shown colour sent r s =
    s.told ∙ ap (λ (o : SlotOut). repeated_of o.repeated o.lc s.arrived) s.gives

-- a slot that means a data burst
pub data_shown : (colour kind : ℕ) (information : List Bool) (role : Role) (sent : SentSlot) (r : Repeated)
    (s : Shows colour (record { sent = sent; means = λ vocoder. Repeat (content.Data kind information) role }) r)
    → r ≡ data_told kind (lc_of role) s.arrived.contents
data_shown colour kind information role sent r s =
    s.told ∙ ap (λ (o : SlotOut). repeated_of o.repeated o.lc s.arrived) s.gives.2
    ∙ ap (λ (b : Burst). repeated_of (Some b) (lc_of role) s.arrived) s.gives.1

header_shown : (colour : ℕ) (lc : FullLc) (header : List Bool) (sent : SentSlot)
    → IsShownAs colour (record (header_cell lc header) { sent = sent }) (repeated.CallHeader (Some lc))
header_shown colour lc header sent =
    record { shown = λ r s. data_shown colour 1 header (Call (Some lc)) sent r s; link_control = refl }

lead_shown : (colour : ℕ) (lc : FullLc) (header : List Bool) (lead : Lead)
    → IsShownAs colour (lead_cell lc header lead) (repeated.CallHeader (Some lc))
lead_shown colour lc header HeaderAgain = header_shown colour lc header (header_cell lc header).sent
lead_shown colour lc header (PiHeader information) = record {
  shown = λ r s. data_shown colour 0 information (Call (Some lc)) (lead_cell lc header (PiHeader information)).sent r s;
  link_control = refl;
}

terminator_shown : (colour : ℕ) (lc : FullLc) (information : List Bool)
    → IsShownAs colour (data_cell 2 information (Some lc) (Call (Some lc))) (repeated.Terminator (Some lc))
terminator_shown colour lc information = record {
  shown = λ r s. data_shown colour 2 information (Call (Some lc)) (data_cell 2 information (Some lc) (Call (Some lc))).sent r s;
  link_control = refl;
}

-- whether a place of a call is told to be there
told_there : Place → Arrived → Bool
told_there A a = a.is_voice
told_there place a = a.is_own

placed : (colour : ℕ) (place : Place) (lc known : Option FullLc) (pi : Bool) (field : ℕ) (vocoder : List Bool) (out : SlotOut)
    (a : Arrived) → IsSlotOut colour (Gives (content_at place lc pi field vocoder) (Call known)) out
    → repeated_of out.repeated out.lc a ≡ repeated.Place known (not (told_there place a))
unfolding told_there
placed colour A lc known pi field vocoder out a (b, is, gives) =
    ap (λ (o : SlotOut). repeated_of o.repeated o.lc a) gives ∙ ap (λ (x : Burst). repeated_of (Some x) known a) is
placed colour B lc known pi field vocoder out a (b, is, gives) =
    ap (λ (o : SlotOut). repeated_of o.repeated o.lc a) gives ∙ ap (λ (x : Burst). repeated_of (Some x) known a) is.2
placed colour C lc known pi field vocoder out a (b, is, gives) =
    ap (λ (o : SlotOut). repeated_of o.repeated o.lc a) gives ∙ ap (λ (x : Burst). repeated_of (Some x) known a) is.2
placed colour D lc known pi field vocoder out a (b, is, gives) =
    ap (λ (o : SlotOut). repeated_of o.repeated o.lc a) gives ∙ ap (λ (x : Burst). repeated_of (Some x) known a) is.2
placed colour E lc known pi field vocoder out a (b, is, gives) =
    ap (λ (o : SlotOut). repeated_of o.repeated o.lc a) gives ∙ ap (λ (x : Burst). repeated_of (Some x) known a) is.2
placed colour F lc known pi field vocoder out a (b, is, gives) =
    ap (λ (o : SlotOut). repeated_of o.repeated o.lc a) gives ∙ ap (λ (x : Burst). repeated_of (Some x) known a) is

absent_there : (colour : ℕ) (place : Place) (heard : Heard) (a : Arrived) → heard ≡ silence → a.is_voice ≡ heard.voice
    → a.is_own ≡ is_own colour heard.emb → told_there place a ≡ false
unfolding told_there
absent_there colour A heard a silent voice own = voice ∙ ap (λ (h : Heard). h.voice) silent
absent_there colour B heard a silent voice own = own ∙ ap (λ (h : Heard). is_own colour h.emb) silent
absent_there colour C heard a silent voice own = own ∙ ap (λ (h : Heard). is_own colour h.emb) silent
absent_there colour D heard a silent voice own = own ∙ ap (λ (h : Heard). is_own colour h.emb) silent
absent_there colour E heard a silent voice own = own ∙ ap (λ (h : Heard). is_own colour h.emb) silent
absent_there colour F heard a silent voice own = own ∙ ap (λ (h : Heard). is_own colour h.emb) silent

own_there : (colour : ℕ) (emb : Emb) (heard : Heard) (own : Bool) → emb.colour ≡ colour → heard.emb ≡ Some emb
    → own ≡ is_own colour heard.emb → own ≡ true
own_there colour emb heard own same is e =
    e ∙ ap (λ (x : Option Emb). is_own colour x) is ∙ eq-eqb emb.colour colour same

place_shown : (colour : ℕ) (place : Place) (carries lc known : Option FullLc) (y : Option Present)
    → IsShownAs colour (place_cell colour place carries lc (Call known) y) (repeated.Place known (not (is_some y)))
unfolding told_there
place_shown colour place carries lc known None = record {
  shown = λ r s. s.told ∙ placed colour place lc known false 0 (replicate 216 false) s.out s.arrived s.gives
      ∙ ap (λ (b : Bool). repeated.Place known (not b)) (absent_there colour place s.heard s.arrived s.as_sent s.is_voice s.is_own);
  link_control = refl;
}
place_shown colour A carries lc known (Some y) = record {
  shown = λ r s. s.told ∙ placed colour A lc known y.pi y.embedded (vocoder_of s.slot) s.out s.arrived s.gives
      ∙ ap (λ (b : Bool). repeated.Place known (not b)) (s.is_voice ∙ s.as_sent.1);
  link_control = refl;
}
place_shown colour B carries lc known (Some y) = record {
  shown = λ r s. s.told ∙ placed colour B lc known y.pi y.embedded (vocoder_of s.slot) s.out s.arrived s.gives
      ∙ ap (λ (b : Bool). repeated.Place known (not b)) (own_there colour _ s.heard s.arrived.is_own refl s.as_sent.0 s.is_own);
  link_control = refl;
}
place_shown colour C carries lc known (Some y) = record {
  shown = λ r s. s.told ∙ placed colour C lc known y.pi y.embedded (vocoder_of s.slot) s.out s.arrived s.gives
      ∙ ap (λ (b : Bool). repeated.Place known (not b)) (own_there colour _ s.heard s.arrived.is_own refl s.as_sent.0 s.is_own);
  link_control = refl;
}
place_shown colour D carries lc known (Some y) = record {
  shown = λ r s. s.told ∙ placed colour D lc known y.pi y.embedded (vocoder_of s.slot) s.out s.arrived s.gives
      ∙ ap (λ (b : Bool). repeated.Place known (not b)) (own_there colour _ s.heard s.arrived.is_own refl s.as_sent.0 s.is_own);
  link_control = refl;
}
place_shown colour E carries lc known (Some y) = record {
  shown = λ r s. s.told ∙ placed colour E lc known y.pi y.embedded (vocoder_of s.slot) s.out s.arrived s.gives
      ∙ ap (λ (b : Bool). repeated.Place known (not b)) (own_there colour _ s.heard s.arrived.is_own refl s.as_sent.0 s.is_own);
  link_control = refl;
}
place_shown colour F carries lc known (Some y) = record {
  shown = λ r s. s.told ∙ placed colour F lc known y.pi y.embedded (vocoder_of s.slot) s.out s.arrived s.gives
      ∙ ap (λ (b : Bool). repeated.Place known (not b)) (own_there colour _ s.heard s.arrived.is_own refl s.as_sent.0 s.is_own);
  link_control = refl;
}

-- 2. All cells of a call.

-- cells that are shown so, one by one
abbrev pub AreShownAs : ℕ → List Cell → List Repeated → Type 0
AreShownAs colour cs es = AllZip (IsShownAs colour) cs es

-- cells in two parts
pub join_shown : (colour : ℕ) (xs bs : List Cell) (es fs : List Repeated) → AreShownAs colour xs es → AreShownAs colour bs fs
    → AreShownAs colour (xs ++ bs) (es ++ fs)
join_shown colour [] bs [] fs p q = q
join_shown colour [] bs (e ∷ es) fs p q = absurd p
join_shown colour (a ∷ xs) bs [] fs p q = absurd p
join_shown colour (a ∷ xs) bs (e ∷ es) fs p q = (p.0, join_shown colour xs bs es fs p.1 q)

-- the headers of a call
abbrev pub header_repeats : FullLc → List Lead → List Repeated
header_repeats lc leads = map (λ (lead : Lead). repeated.CallHeader (Some lc)) leads

leads_shown : (colour : ℕ) (lc : FullLc) (header : List Bool) (leads : List Lead)
    → AreShownAs colour (map (lead_cell lc header) leads) (header_repeats lc leads)
leads_shown colour lc header [] = tt
leads_shown colour lc header (lead ∷ leads) = (lead_shown colour lc header lead, leads_shown colour lc header leads)

-- the gap behind headers
pub gap_shown : (colour : ℕ) (lc : FullLc) (header : List Bool) (gap : ℕ)
    → AreShownAs colour (replicate gap (record (header_cell lc header) { sent = Silent }))
    (replicate gap (repeated.CallHeader (Some lc)))
gap_shown colour lc header zero = tt
gap_shown colour lc header (suc gap) = (header_shown colour lc header Silent, gap_shown colour lc header gap)

-- the terminators of a call
abbrev pub ending_repeats : FullLc → Ending → List Repeated
ending_repeats lc Silenced = []
ending_repeats lc (Terminated information more) = replicate (suc more) (repeated.Terminator (Some lc))

terminators_shown : (colour : ℕ) (lc : FullLc) (information : List Bool) (n : ℕ)
    → AreShownAs colour (replicate n (data_cell 2 information (Some lc) (Call (Some lc))))
    (replicate n (repeated.Terminator (Some lc)))
terminators_shown colour lc information zero = tt
terminators_shown colour lc information (suc n) =
    (terminator_shown colour lc information, terminators_shown colour lc information n)

-- The end of a call is shown as it is repeated.
pub ending_shown : (colour : ℕ) (lc : FullLc) (ending : Ending)
    → AreShownAs colour (ending_cells lc ending) (ending_repeats lc ending)
ending_shown colour lc Silenced = tt
ending_shown colour lc (Terminated information more) = terminators_shown colour lc information (suc more)

-- the places of a call
abbrev pub known_behind : Option FullLc → Superframe → Option FullLc
known_behind call s = option_or call (voice_of (if is_complete 4 (drop 1 s.places) then s.carries else None))

-- what is repeated of the places of superframes
abbrev pub place_repeats : Option FullLc → List Superframe → List Repeated
place_repeats call [] = []
place_repeats call (s ∷ ss) =
    map (λ (y : Option Present). repeated.Place (known_behind call s) (not (is_some y))) s.places
    ++ place_repeats (known_behind call s) ss

some_places_shown : (colour : ℕ) (carries lc known : Option FullLc) (ps : List Place) (ys : List (Option Present))
    → length ys ≤ length ps
    → AreShownAs colour (map (λ (p : Place × Option Present). place_cell colour p.0 carries lc (Call known) p.1) (zip ps ys))
    (map (λ (y : Option Present). repeated.Place known (not (is_some y))) ys)
some_places_shown colour carries lc known [] [] few = tt
some_places_shown colour carries lc known (p ∷ ps) [] few = tt
some_places_shown colour carries lc known [] (y ∷ ys) few = absurd (omega (arith, few))
some_places_shown colour carries lc known (p ∷ ps) (y ∷ ys) few =
    (place_shown colour p carries lc known y, some_places_shown colour carries lc known ps ys (omega (arith, few)))

-- superframes of at most six places
abbrev pub AreShort : List Superframe → Type 0
AreShort ss = AllByRecursion (λ (s : Superframe). length s.places ≤ 6) ss

-- The places of superframes are shown as they are repeated.
pub places_shown : (colour : ℕ) (call : Option FullLc) (ss : List Superframe) → AreShort ss
    → AreShownAs colour (superframe_cells colour call ss) (place_repeats call ss)
places_shown colour call [] short = tt
places_shown colour call (s ∷ ss) short =
    let own : Option FullLc = if is_complete 4 (drop 1 s.places) then s.carries else None in
    let known = known_behind call s in
    join_shown colour _ _ _ _
    (some_places_shown colour s.carries (option_or own known) known (A ∷ B ∷ C ∷ D ∷ E ∷ F ∷ []) s.places short.0)
    (places_shown colour known ss short.1)

-- the headers of a call, with those behind the first
pub all_headers_shown : (colour : ℕ) (lc : FullLc) (header : List Bool) (leads : List Lead)
    → AreShownAs colour (header_cell lc header ∷ map (lead_cell lc header) leads)
    (repeated.CallHeader (Some lc) ∷ header_repeats lc leads)
all_headers_shown colour lc header leads =
    (header_shown colour lc header (header_cell lc header).sent, leads_shown colour lc header leads)
