-- What goes out in a slot, frame by frame, is a recording of its list.
use Rattle.std.proofs.Common.{◌≡◌, ℕ, zero, suc, ◌+◌, ◌-◌, ◌≤◌, List, [], ◌∷◌, ◌++◌, map, length, replicate, flat_map}
use Rattle.std.proofs.Common.{Option, Some, None, slice_get, slice_index_or, refl, ap, subst, sym, ◌∙◌, arith, All}
use Rattle.std.proofs.Common.{append_assoc, append-nil}
use Rattle.std.proofs.lemmas.Grind.{flat_map-append}
use Rattle.std.proofs.lemmas.List.{length-append, length-replicate, map-append}
use Rattle.std.proofs.lemmas.List.Elements.{All-head, All-tail}
use Rattle.std.specs.List.{AllByRecursion, AllZip}
use Rattle.dmr_hearing.specs.Damage.{IsRecordedAs}
use Rattle.dmr_hearing.specs.Slots.{SentSlot, Silent}
use Rattle.dmr_making.proofs.Seen.{zip_append}
use Rattle.dmr_making.specs.Playing.{AreFramesMade, IsLineOfSlot, IsMadeIn, IsOrdered, IsPlacedLine, SlotFrames, packet_in}
use Rattle.dmr_making.specs.Senders.{colour_of}
use Rattle.dmr_making.specs.Standing.{StandsAt}
use Rattle.dmr_making.specs.declared.playing.PlacedTransmission.{PlacedTransmission}
use Rattle.dmr_making_laws.proofs.Counts.{sent_length}
use Rattle.dmr_making_laws.proofs.OneRecorded.{AreMadeFrom, one_recorded}
use Rattle.dmr_making_laws.proofs.WellSaid.{IsWellPlaced, IsWellSaid}
use Rattle.dmr_making_laws.specs.Lists.{IsInChannel, IsListOf, heard_by, in_front_of, silences_in_front}
use Rattle.dmr_planning.proofs.Planned.{EndsBy}
use Rattle.dmr_record.specs.Uplink.{UplinkSlots}
use Rattle.dmr_script.specs.declared.statement.NumberedStatement.{NumberedStatement}
use Rattle.dmr_station.specs.DownlinkRules.{slots_in}
use Rattle.dmr_voice.specs.CallMeaning.{Cell, cells, sent_list, unsaid}
use Rattle.dmr_voice.specs.CallMeaning.{Transmission, VoiceCall, HeadersAlone, LateCall, Controls, DataTry, ForeignParts}
use Rattle.dmr_voice.specs.CallMeaning.{foreign_cells}
use Rattle.dmr_voice.specs.DamagedRecordings.{IsDamagedRecordingOf}

-- 1. A line, slot by slot.

cons_same : {A : Type 0} (x y : A) (xs ys : List A) → x ≡ y → xs ≡ ys → x ∷ xs ≡ y ∷ ys
cons_same x y xs ys p q = cc

-- what goes out for each slot of a line, and nothing behind it
abbrev IsLineMade : ℕ → SlotFrames → List (Option (List ℕ)) → Type 0
IsLineMade frame line [] = Unit {0}
IsLineMade frame [] (m ∷ ms) = (m ≡ None) × IsLineMade (suc frame) [] ms
IsLineMade frame (x ∷ line) (m ∷ ms) = IsMadeIn frame m x × IsLineMade (suc frame) line ms

line_made : (frame : ℕ) (line : SlotFrames) (ms : List (Option (List ℕ)))
    → ((k g : ℕ) (m : Option (List ℕ)) → g ≡ frame + k → slice_get ms k ≡ Some m → StandsAt (IsMadeIn g m) (m ≡ None) line k)
    → IsLineMade frame line ms
line_made frame line [] made = tt
line_made frame [] (m ∷ ms) made =
    (made 0 frame m (omega arith) refl, line_made (suc frame) [] ms (λ k g x e is. made (suc k) g x (omega (arith, e)) is))
line_made frame (y ∷ line) (m ∷ ms) made =
    (made 0 frame m (omega arith) refl, line_made (suc frame) line ms (λ k g x e is. made (suc k) g x (omega (arith, e)) is))

-- from the first frame on
from_start : (line : SlotFrames) (ms : List (Option (List ℕ)))
    → ((k : ℕ) (m : Option (List ℕ)) → slice_get ms k ≡ Some m → StandsAt (IsMadeIn k m) (m ≡ None) line k)
    → IsLineMade 0 line ms
from_start line ms made =
    line_made 0 line ms (λ k g m e is.
    let same : k ≡ g = omega (arith, e) in
    subst (λ (n : ℕ). StandsAt (IsMadeIn n m) (m ≡ None) line k) same (made k m is))

-- frames that are made, in one slot and the other
pub frames_made : (frame : ℕ) (one two : SlotFrames) (frames : List UplinkSlots) (k g : ℕ) (m : Option (List ℕ)) → g ≡ frame + k
    → AreFramesMade frame one two frames → slice_get (slots_in 0 frames) k ≡ Some m → StandsAt (IsMadeIn g m) (m ≡ None) one g
frames_made frame one two [] k g m e p is = absurd (cc)
frames_made frame one two (f ∷ frames) zero g m e p is =
    let here : slice_index_or f 0 None ≡ m = cc in
    let there : p.0.0 ≡ m = sym (ap (λ (l : UplinkSlots). slice_index_or l 0 None) p.0.2) ∙ here in
    let same : frame ≡ g = omega (arith, e) in
    subst (λ (n : ℕ). StandsAt (IsMadeIn n m) (m ≡ None) one n) same
    (subst (λ (x : Option (List ℕ)). StandsAt (IsMadeIn frame x) (x ≡ None) one frame) there p.0.3)
frames_made frame one two (f ∷ frames) (suc k) g m e p is =
    frames_made (suc frame) one two frames k g m (omega (arith, e)) p.1 is

-- The same of slot 2.
pub frames_made_too : (frame : ℕ) (one two : SlotFrames) (frames : List UplinkSlots) (k g : ℕ) (m : Option (List ℕ)) → g ≡ frame + k
    → AreFramesMade frame one two frames → slice_get (slots_in 1 frames) k ≡ Some m → StandsAt (IsMadeIn g m) (m ≡ None) two g
frames_made_too frame one two [] k g m e p is = absurd (cc)
frames_made_too frame one two (f ∷ frames) zero g m e p is =
    let here : slice_index_or f 1 None ≡ m = cc in
    let there : p.0.1 ≡ m = sym (ap (λ (l : UplinkSlots). slice_index_or l 1 None) p.0.2) ∙ here in
    let same : frame ≡ g = omega (arith, e) in
    subst (λ (n : ℕ). StandsAt (IsMadeIn n m) (m ≡ None) two n) same
    (subst (λ (x : Option (List ℕ)). StandsAt (IsMadeIn frame x) (x ≡ None) two frame) there p.0.4)
frames_made_too frame one two (f ∷ frames) (suc k) g m e p is =
    frames_made_too (suc frame) one two frames k g m (omega (arith, e)) p.1 is

-- 2. Its parts.

-- the rest of a line behind what a part of it sends
record IsLineBehind (frame : ℕ) (line : SlotFrames) (front ms : List (Option (List ℕ))) : Type 0 where
  rest : List (Option (List ℕ))
  split : ms ≡ front ++ rest
  made : IsLineMade frame line rest

silent_part : (own frame n : ℕ) (line : SlotFrames) (ms : List (Option (List ℕ))) → n ≤ length ms
    → IsLineMade frame (replicate n (own, Silent) ++ line) ms → IsLineBehind (frame + n) line (replicate n None) ms
silent_part own frame zero line ms le p =
    record { rest = ms; split = refl; made = subst (λ (f : ℕ). IsLineMade f line ms) (omega arith) p }
silent_part own frame (suc n) line [] le p = absurd (omega arith)
silent_part own frame (suc n) line (m ∷ ms) le p =
    let b : IsLineBehind (suc frame + n) line (replicate n None) ms =
    silent_part own (suc frame) n line ms (omega (arith, le)) p.1 in
    record {
      rest = b.rest;
      split = cons_same m None ms (replicate n None ++ b.rest) p.0 b.split;
      made = subst (λ (f : ℕ). IsLineMade f line b.rest) (omega arith) b.made;
    }

-- what goes out for slots of one colour code
record IsMadeBehind (colour frame : ℕ) (slots : List SentSlot) (line : SlotFrames) (ms : List (Option (List ℕ))) : Type 0 where
  front : List (Option (List ℕ))
  made_front : AreMadeFrom colour frame slots front
  long : length front ≡ length slots
  behind : IsLineBehind (frame + length slots) line front ms

coloured_part : (colour frame : ℕ) (slots : List SentSlot) (line : SlotFrames) (ms : List (Option (List ℕ)))
    → length slots ≤ length ms → IsLineMade frame (map (λ slot. (colour, slot)) slots ++ line) ms
    → IsMadeBehind colour frame slots line ms
coloured_part colour frame [] line ms le p = record {
  front = [];
  made_front = tt;
  long = refl;
  behind = record { rest = ms; split = refl; made = subst (λ (f : ℕ). IsLineMade f line ms) (omega arith) p };
}
coloured_part colour frame (s ∷ slots) line [] le p = absurd (omega arith)
coloured_part colour frame (s ∷ slots) line (m ∷ ms) le p =
    let b : IsMadeBehind colour (suc frame) slots line ms =
    coloured_part colour (suc frame) slots line ms (omega (arith, le)) p.1 in
    let long = b.long in
    record {
      front = m ∷ b.front;
      made_front = (p.0, b.made_front);
      long = omega (arith, long);
      behind = record {
        rest = b.behind.rest;
        split = ap (λ (l : List (Option (List ℕ))). m ∷ l) b.behind.split;
        made = subst (λ (f : ℕ). IsLineMade f line b.behind.rest) (omega arith) b.behind.made;
      };
    }

-- nothing goes out behind its end
none_behind : (frame : ℕ) (ms : List (Option (List ℕ))) → IsLineMade frame [] ms → ms ≡ replicate (length ms) None
none_behind frame [] p = refl
none_behind frame (m ∷ ms) p = cons_same m None ms (replicate (length ms) None) p.0 (none_behind (suc frame) ms p.1)

-- 3. Cells.

-- a cell is recorded as this
abbrev IsCellRecorded : ℕ → Cell → Option (List ℕ) → Type 0
IsCellRecorded own c m = IsRecordedAs own c.sent m

silences_recorded : (own n : ℕ) → AllZip (IsCellRecorded own) (replicate n (unsaid Silent)) (replicate n None)
silences_recorded own zero = tt
silences_recorded own (suc n) = (record { sent = tt; damaged = refl }, silences_recorded own n)

of_sent : (own : ℕ) (cs : List Cell) (ms : List (Option (List ℕ))) → AllZip (IsRecordedAs own) (map (λ c. c.sent) cs) ms
    → AllZip (IsCellRecorded own) cs ms
of_sent own [] [] p = tt
of_sent own [] (m ∷ ms) p = absurd p
of_sent own (c ∷ cs) [] p = absurd p
of_sent own (c ∷ cs) (m ∷ ms) p = (p.0, of_sent own cs ms p.1)

-- the cells of a list
abbrev list_cells : ℕ → List (Transmission × ℕ) → List Cell
list_cells own list = flat_map (λ t. cells own t.0 ++ replicate t.1 (unsaid Silent)) list

-- what stands in front of a list has its cells in front of the list's
abbrev IsInFront : ℕ → Transmission → ℕ → List (Transmission × ℕ) → Type 0
IsInFront own t n list =
    list_cells own (in_front_of t n list) ≡ cells own t ++ (replicate n (unsaid Silent) ++ list_cells own list)

plain_front : (own : ℕ) (t : Transmission) (n : ℕ) (list : List (Transmission × ℕ))
    → list_cells own ((t, n) ∷ list) ≡ cells own t ++ (replicate n (unsaid Silent) ++ list_cells own list)
plain_front own t n list = append_assoc (cells own t) (replicate n (unsaid Silent)) (list_cells own list)

-- rows in a row
rows_front : (own : ℕ) (some more both_of : Transmission) (m : ℕ) (list : List (Transmission × ℕ))
    → cells own both_of ≡ cells own some ++ cells own more
    → list_cells own ((both_of, m) ∷ list) ≡ cells own some ++ list_cells own ((more, m) ∷ list)
rows_front own some more both_of m list e =
    ap (λ (l : List Cell). (l ++ replicate m (unsaid Silent)) ++ list_cells own list) e
    ∙ ap (λ (l : List Cell). l ++ list_cells own list)
    (append_assoc (cells own some) (cells own more) (replicate m (unsaid Silent)))
    ∙ append_assoc (cells own some) (cells own more ++ replicate m (unsaid Silent)) (list_cells own list)

cells_in_front : (own : ℕ) (t : Transmission) (n : ℕ) (list : List (Transmission × ℕ)) → IsInFront own t n list
cells_in_front own (VoiceCall lc header leads gap ss ending) n list =
    plain_front own (VoiceCall lc header leads gap ss ending) n list
cells_in_front own (HeadersAlone lc header leads ending) n list = plain_front own (HeadersAlone lc header leads ending) n list
cells_in_front own (LateCall lc tail ss ending) n list = plain_front own (LateCall lc tail ss ending) n list
cells_in_front own (DataTry csbks header blocks) n list = plain_front own (DataTry csbks header blocks) n list
cells_in_front own (Controls some) (suc n) list = plain_front own (Controls some) (suc n) list
cells_in_front own (Controls some) zero [] = plain_front own (Controls some) zero []
cells_in_front own (Controls some) zero ((VoiceCall lc header leads gap ss ending, m) ∷ list) =
    plain_front own (Controls some) zero ((VoiceCall lc header leads gap ss ending, m) ∷ list)
cells_in_front own (Controls some) zero ((HeadersAlone lc header leads ending, m) ∷ list) =
    plain_front own (Controls some) zero ((HeadersAlone lc header leads ending, m) ∷ list)
cells_in_front own (Controls some) zero ((LateCall lc tail ss ending, m) ∷ list) =
    plain_front own (Controls some) zero ((LateCall lc tail ss ending, m) ∷ list)
cells_in_front own (Controls some) zero ((DataTry csbks header blocks, m) ∷ list) =
    plain_front own (Controls some) zero ((DataTry csbks header blocks, m) ∷ list)
cells_in_front own (Controls some) zero ((ForeignParts parts, m) ∷ list) =
    plain_front own (Controls some) zero ((ForeignParts parts, m) ∷ list)
cells_in_front own (Controls some) zero ((Controls more, m) ∷ list) =
    rows_front own (Controls some) (Controls more) (Controls (some ++ more)) m list (map-append _ some more)
cells_in_front own (ForeignParts some) (suc n) list = plain_front own (ForeignParts some) (suc n) list
cells_in_front own (ForeignParts some) zero [] = plain_front own (ForeignParts some) zero []
cells_in_front own (ForeignParts some) zero ((VoiceCall lc header leads gap ss ending, m) ∷ list) =
    plain_front own (ForeignParts some) zero ((VoiceCall lc header leads gap ss ending, m) ∷ list)
cells_in_front own (ForeignParts some) zero ((HeadersAlone lc header leads ending, m) ∷ list) =
    plain_front own (ForeignParts some) zero ((HeadersAlone lc header leads ending, m) ∷ list)
cells_in_front own (ForeignParts some) zero ((LateCall lc tail ss ending, m) ∷ list) =
    plain_front own (ForeignParts some) zero ((LateCall lc tail ss ending, m) ∷ list)
cells_in_front own (ForeignParts some) zero ((DataTry csbks header blocks, m) ∷ list) =
    plain_front own (ForeignParts some) zero ((DataTry csbks header blocks, m) ∷ list)
cells_in_front own (ForeignParts some) zero ((Controls more, m) ∷ list) =
    plain_front own (ForeignParts some) zero ((Controls more, m) ∷ list)
cells_in_front own (ForeignParts some) zero ((ForeignParts more, m) ∷ list) =
    rows_front own (ForeignParts some) (ForeignParts more) (ForeignParts (some ++ more)) m list
    (flat_map-append foreign_cells some more)

-- 4. A slot.

-- it has as many slots as are planned
channel_count : (own : ℕ) (all : List NumberedStatement) (p : PlacedTransmission) (t : Transmission) → IsWellPlaced own all p
    → (c : IsInChannel own all p t) → length c.sent.slots ≡ p.length
channel_count own all p t w c =
    let well : IsWellSaid own (packet_in all p.packet) p c.transmit = w c.transmit c.there in
    sent_length (colour_of own c.transmit.sender) (packet_in all p.packet) c.transmit.transmission c.sent well.sendable c.sends
    ∙ sym well.count

-- a transmission that is placed
placed_recorded : (own : ℕ) (all : List NumberedStatement) (p : PlacedTransmission) (t : Transmission)
    → (ms : List (Option (List ℕ))) → IsWellPlaced own all p → (c : IsInChannel own all p t)
    → AreMadeFrom (colour_of own c.transmit.sender) p.start c.sent.slots ms → AllZip (IsCellRecorded own) (cells own t) ms
placed_recorded own all p t ms w c made =
    let well : IsWellSaid own (packet_in all p.packet) p c.transmit = w c.transmit c.there in
    subst (λ (x : Transmission). AllZip (IsCellRecorded own) (cells own x) ms) (sym c.is)
    (of_sent own (cells own (heard_by c.transmit.sender c.sent)) ms
    (one_recorded own (packet_in all p.packet) p.start c.transmit.sender c.transmit.transmission c.sent ms well.other
    well.fits.sender well.sendable c.sends made))

-- so many more of equals
replicate_more : {X : Type 0} (n m k : ℕ) (x : X) → k ≡ n + m → replicate n x ++ replicate m x ≡ replicate k x
replicate_more zero m k x e = ap (λ (j : ℕ). replicate j x) (omega (arith, e))
replicate_more (suc n) m zero x e = absurd (omega (arith, e))
replicate_more (suc n) m (suc k) x e = ap (λ (l : List _). x ∷ l) (replicate_more n m k x (omega (arith, e)))

-- From this frame on a line is that of a slot, and what goes out for it up to the end of the recording is a recording of the list.
record IsLineListed (own : ℕ) (all : List NumberedStatement) (frames from lead : ℕ) (placed : List PlacedTransmission)
    (list : List (Transmission × ℕ)) : Type 0 where
  line : SlotFrames
  is : IsLineOfSlot own all from placed line
  recorded : (ms : List (Option (List ℕ))) → from + length ms ≡ frames → IsLineMade from line ms
      → AllZip (IsCellRecorded own) (replicate (lead - from) (unsaid Silent) ++ list_cells own list) (ms ++ replicate 6 None)

-- what stands behind a transmission, up to the end
abbrev IsRestRecorded : (own frames from : ℕ) → SlotFrames → List Cell → Type 0
IsRestRecorded own frames from line rest =
    (ms : List (Option (List ℕ))) → from + length ms ≡ frames → IsLineMade from line ms
    → AllZip (IsCellRecorded own) rest (ms ++ replicate 6 None)

-- the transmission in front of it
front_recorded : (own : ℕ) (all : List NumberedStatement) (frames from : ℕ) (p : PlacedTransmission) (t : Transmission)
    → (line : SlotFrames) (rest : List Cell) → IsWellPlaced own all p → (c : IsInChannel own all p t) → from ≤ p.start
    → p.start + p.length ≤ frames → IsRestRecorded own frames (p.start + p.length) line rest
    → IsRestRecorded own frames from (replicate (p.start - from) (own, Silent)
    ++ (map (λ slot. (colour_of own c.transmit.sender, slot)) c.sent.slots ++ line))
    (replicate (p.start - from) (unsaid Silent) ++ (cells own t ++ rest))
front_recorded own all frames from p t line rest w c le within behind ms long made =
    let colour : ℕ = colour_of own c.transmit.sender in
    let gap : ℕ = p.start - from in
    let mine : SlotFrames = map (λ slot. (colour, slot)) c.sent.slots in
    let silent : List (Option (List ℕ)) = replicate gap None in
    let six : List (Option (List ℕ)) = replicate 6 None in
    let count : length c.sent.slots ≡ p.length = channel_count own all p t w c in
    let a : IsLineBehind (from + gap) (mine ++ line) silent ms =
    silent_part own from gap (mine ++ line) ms (omega (arith, long, le, within)) made in
    let start : from + gap ≡ p.start = omega (arith, le) in
    let first : IsLineMade p.start (mine ++ line) a.rest =
    subst (λ (f : ℕ). IsLineMade f (mine ++ line) a.rest) start a.made in
    let all_long = ap (λ (l : List (Option (List ℕ))). length l) a.split in
    let parts_long = length-append silent a.rest in
    let silent_long : length silent ≡ gap = length-replicate gap None in
    let b : IsMadeBehind colour p.start c.sent.slots line a.rest =
    coloured_part colour p.start c.sent.slots line a.rest
    (omega (arith, long, le, within, count, all_long, parts_long, silent_long)) first in
    let rest_long = ap (λ (l : List (Option (List ℕ))). length l) b.behind.split in
    let front_long = length-append b.front b.behind.rest in
    let mine_long = b.long in
    let on : IsLineMade (p.start + p.length) line b.behind.rest =
    subst (λ (n : ℕ). IsLineMade (p.start + n) line b.behind.rest) count b.behind.made in
    let last : AllZip (IsCellRecorded own) rest (b.behind.rest ++ six) =
    behind b.behind.rest
    (omega (arith, long, le, within, count, all_long, parts_long, silent_long, rest_long, front_long, mine_long)) on in
    let split : ms ++ six ≡ silent ++ (b.front ++ (b.behind.rest ++ six)) =
    ap (λ (l : List (Option (List ℕ))). l ++ six) a.split ∙ append_assoc silent a.rest six
    ∙ ap (λ (l : List (Option (List ℕ))). silent ++ l)
    (ap (λ (l : List (Option (List ℕ))). l ++ six) b.behind.split ∙ append_assoc b.front b.behind.rest six) in
    subst (AllZip (IsCellRecorded own) (replicate gap (unsaid Silent) ++ (cells own t ++ rest))) (sym split)
    (zip_append (IsCellRecorded own) (replicate gap (unsaid Silent)) silent (cells own t ++ rest)
    (b.front ++ (b.behind.rest ++ six)) (silences_recorded own gap)
    (zip_append (IsCellRecorded own) (cells own t) b.front rest (b.behind.rest ++ six)
    (placed_recorded own all p t b.front w c b.made_front) last))

-- the frames of a transmission
placed_line : (own : ℕ) (all : List NumberedStatement) (p : PlacedTransmission) (t : Transmission) → IsWellPlaced own all p
    → (c : IsInChannel own all p t)
    → IsPlacedLine own all p (map (λ slot. (colour_of own c.transmit.sender, slot)) c.sent.slots)
placed_line own all p t w c = record {
  transmit = c.transmit;
  there = c.there;
  sent = c.sent;
  sends = c.sends;
  count = channel_count own all p t w c;
  is = refl;
}

-- nothing stands behind the last
end_recorded : (own frames from : ℕ) → from ≤ frames
    → IsRestRecorded own frames from [] (replicate (frames - from + 6) (unsaid Silent) ++ [])
end_recorded own frames from le ms long made =
    let n : ℕ = frames - from + 6 in
    let six : List (Option (List ℕ)) = replicate 6 None in
    let same : ms ++ six ≡ replicate n None =
    ap (λ (l : List (Option (List ℕ))). l ++ six) (none_behind from ms made)
    ∙ replicate_more (length ms) 6 n None (omega (arith, long, le)) in
    subst (AllZip (IsCellRecorded own) (replicate n (unsaid Silent) ++ [])) (sym same)
    (subst (λ (l : List Cell). AllZip (IsCellRecorded own) l (replicate n None)) (sym (append-nil (replicate n (unsaid Silent))))
    (silences_recorded own n))

-- the line of a slot in which something is placed
line_listed : (own : ℕ) (all : List NumberedStatement) (frames from : ℕ) (p : PlacedTransmission) (placed : List PlacedTransmission)
    → (list : List (Transmission × ℕ)) → AllByRecursion (IsWellPlaced own all) (p ∷ placed) → IsOrdered from (p ∷ placed)
    → All (EndsBy frames) (p ∷ placed) → IsListOf own all frames (p ∷ placed) list
    → IsLineListed own all frames from p.start (p ∷ placed) list
line_listed own all frames from p [] list w o ends l =
    let t : Transmission = l.0 in
    let c : IsInChannel own all p t = l.1 in
    let end : ℕ = p.start + p.length in
    let n : ℕ = frames - end + 6 in
    let within : end ≤ frames = All-head (EndsBy frames) p [] ends in
    let mine : SlotFrames = map (λ slot. (colour_of own c.transmit.sender, slot)) c.sent.slots in
    let line : SlotFrames = replicate (p.start - from) (own, Silent) ++ (mine ++ []) in
    let rest : List Cell = replicate n (unsaid Silent) ++ [] in
    let same : list_cells own list ≡ cells own t ++ rest =
    ap (λ (x : List (Transmission × ℕ)). list_cells own x) l.2 ∙ plain_front own t n [] in
    record {
      line = line;
      is = (mine, [], o.0, placed_line own all p t w.0 c, refl, refl);
      recorded = λ ms long made.
          subst (λ (x : List Cell). AllZip (IsCellRecorded own) (replicate (p.start - from) (unsaid Silent) ++ x)
          (ms ++ replicate 6 None)) (sym same)
          (front_recorded own all frames from p t [] rest w.0 c o.0 within (end_recorded own frames end within) ms long made);
    }
line_listed own all frames from p (q ∷ placed) list w o ends l =
    let t : Transmission = l.0 in
    let c : IsInChannel own all p t = l.2 in
    let end : ℕ = p.start + p.length in
    let n : ℕ = q.start - end in
    let within : end ≤ frames = All-head (EndsBy frames) p (q ∷ placed) ends in
    let mine : SlotFrames = map (λ slot. (colour_of own c.transmit.sender, slot)) c.sent.slots in
    let b : IsLineListed own all frames end q.start (q ∷ placed) l.1 =
    line_listed own all frames end q placed l.1 w.1 o.2 (All-tail (EndsBy frames) p (q ∷ placed) ends) l.3 in
    let rest : List Cell = replicate n (unsaid Silent) ++ list_cells own l.1 in
    let same : list_cells own list ≡ cells own t ++ rest =
    ap (λ (x : List (Transmission × ℕ)). list_cells own x) l.4 ∙ cells_in_front own t n l.1 in
    record {
      line = replicate (p.start - from) (own, Silent) ++ (mine ++ b.line);
      is = (mine, b.line, o.0, placed_line own all p t w.0 c, b.is, refl);
      recorded = λ ms long made.
          subst (λ (x : List Cell). AllZip (IsCellRecorded own) (replicate (p.start - from) (unsaid Silent) ++ x)
          (ms ++ replicate 6 None)) (sym same)
          (front_recorded own all frames from p t b.line rest w.0 c o.0 within b.recorded ms long made);
    }

-- 5. A recording.

-- A line of a slot: whatever goes out for it in as many frames as a recording has is a recording of the list.
pub record IsListRecorded (own : ℕ) (all : List NumberedStatement) (frames : ℕ) (placed : List PlacedTransmission)
    (list : List (Transmission × ℕ)) : Type 0 where
  pub line : SlotFrames
  pub is : IsLineOfSlot own all 0 placed line
  pub recorded : (ms : List (Option (List ℕ))) → length ms ≡ frames
      → ((k : ℕ) (m : Option (List ℕ)) → slice_get ms k ≡ Some m → StandsAt (IsMadeIn k m) (m ≡ None) line k)
      → IsDamagedRecordingOf own (sent_list own (silences_in_front frames placed) list) ms

-- There is such a line, of the transmissions of the list.
pub list_recorded : (own : ℕ) (all : List NumberedStatement) (frames : ℕ) (placed : List PlacedTransmission)
    → (list : List (Transmission × ℕ)) → AllByRecursion (IsWellPlaced own all) placed → IsOrdered 0 placed
    → All (EndsBy frames) placed → IsListOf own all frames placed list → IsListRecorded own all frames placed list
list_recorded own all frames [] list w o ends l = record {
  line = [];
  is = refl;
  recorded = λ ms long made.
      let none : ms ≡ replicate (length ms) None = none_behind 0 ms (from_start [] ms made) in
      let same : sent_list own frames list ≡ replicate frames (unsaid Silent) =
      ap (λ (x : List (Transmission × ℕ)). replicate frames (unsaid Silent) ++ list_cells own x) l
      ∙ append-nil (replicate frames (unsaid Silent)) in
      let slots : ms ++ replicate 0 None ≡ replicate frames None =
      append-nil ms ∙ none ∙ ap (λ (n : ℕ). replicate n None) long in (
        0,
        subst (λ (x : List Cell). AllZip (IsCellRecorded own) x (ms ++ replicate 0 None)) (sym same)
            (subst (AllZip (IsCellRecorded own) (replicate frames (unsaid Silent))) (sym slots) (silences_recorded own frames)),
      );
}
list_recorded own all frames (p ∷ placed) list w o ends l =
    let b : IsLineListed own all frames 0 p.start (p ∷ placed) list = line_listed own all frames 0 p placed list w o ends l in
    let whole : p.start - 0 ≡ p.start = omega arith in
    record {
      line = b.line;
      is = b.is;
      recorded = λ ms long made. (
        6,
        subst (λ (n : ℕ). AllZip (IsCellRecorded own) (replicate n (unsaid Silent) ++ list_cells own list)
            (ms ++ replicate 6 None)) whole (b.recorded ms (omega (arith, long)) (from_start b.line ms made)),
      );
    }
