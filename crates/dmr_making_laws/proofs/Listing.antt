-- The list of a slot is well formed.
use Rattle.std.proofs.Common.{◌≡◌, ℕ, zero, suc, ◌+◌, ◌-◌, ◌≤◌, ◌⊎◌, inl, inr, ◌==◌, ◌≢◌, Bool, true, false, nat_lt}
use Rattle.std.proofs.Common.{List, [], ◌∷◌, ◌++◌}
use Rattle.std.proofs.Common.{arith, refl, ap, subst, sym, Option, Some, None, map, if◌then◌else◌}
use Rattle.std.proofs.lemmas.List.{length-append}
use Rattle.std.specs.List.{AllByRecursion}
use Rattle.dmr_making.proofs.Seen.{all_append}
use Rattle.dmr_link.specs.declared.full_lc.FullLc.{FullLc}
use Rattle.dmr_making.specs.Calls.{CallForms, call_ending, headed_call, lead_of, started_call, superframes_from}
use Rattle.dmr_making.specs.Controls.{csbk_control, lone_control}
use Rattle.dmr_making.specs.Playing.{packet_in, transmit_in}
use Rattle.dmr_making.specs.Sends.{SendsAgain, SendsSaid, Transmitted}
use Rattle.dmr_making.specs.declared.playing.PlacedTransmission.{PlacedTransmission}
use Rattle.dmr_planning.proofs.Forming.{said_well}
use Rattle.dmr_making_laws.specs.Lists.{IsInChannel, IsListOf, heard_by, in_front_of, parts_from}
use Rattle.dmr_making.proofs.SeenTries.{all_seen_as}
use Rattle.dmr_making.specs.Senders.{colour_of}
use Rattle.dmr_making_laws.proofs.OneRecorded.{foreign_told}
use Rattle.dmr_making_laws.proofs.OtherColours.{IsOtherThan}
use Rattle.dmr_making_laws.proofs.Told.{parts_foreign}
use Rattle.dmr_making_laws.proofs.WellSaid.{IsWellPlaced, IsWellSaid}
use Rattle.dmr_planning.specs.Pauses.{IsEnough, IsEnoughBetween, before_behind, before_behind_said, begins_with_data, is_row}
use Rattle.dmr_planning.specs.Pauses.{says_data}
use Rattle.dmr_planning.specs.Pauses.{before_behind_call, before_behind_places, before_behind_start, sends_data, starts_with_data}
use Rattle.dmr_planning.specs.declared.slot_state.Before.{Before}
use Rattle.dmr_planning.specs.declared.slot_state.Before.TheVariants as before
use Rattle.dmr_script.specs.declared.shape.CallShape.{CallShape}
use Rattle.dmr_script.specs.declared.shape.Headers.{Headers}
use Rattle.dmr_script.specs.declared.statement.Sender.{Sender}
use Rattle.dmr_planning.specs.Pausing.{ArePausedBetween}
use Rattle.dmr_script.specs.declared.call.Call.{Call}
use Rattle.dmr_script.specs.declared.packet.Again.{Again}
use Rattle.dmr_script.specs.declared.packet.Again.TheVariants as again
use Rattle.dmr_script.specs.declared.packet.PacketTry.{PacketTry}
use Rattle.dmr_script.specs.declared.shape.CallStart.{CallStart}
use Rattle.dmr_script.specs.declared.shape.CallStart.TheVariants as start
use Rattle.dmr_script.specs.declared.statement.NumberedStatement.{NumberedStatement}
use Rattle.dmr_script.specs.declared.statement.Sender.TheVariants as sender
use Rattle.dmr_script.specs.declared.statement.Transmission.{Transmission as Said}
use Rattle.dmr_script.specs.declared.statement.Transmission.TheVariants as said
use Rattle.dmr_script.specs.declared.statement.Transmit.{Transmit}
use Rattle.dmr_voice.specs.CallMeaning.{Control, Foreign, Lead, Superframe}
use Rattle.dmr_voice.specs.CallMeaning.{Transmission, VoiceCall, HeadersAlone, LateCall, Controls, DataTry, ForeignParts}
use Rattle.dmr_voice.specs.CallMeaning.{Silenced, Terminated}
use Rattle.dmr_voice.specs.WellFormed.{BeginsWithData, IsPause, IsTransmission, IsWellFormed}

-- 1. Pauses.

-- six silences and more are a pause behind anything
six_pause : (t : Transmission) (n : ℕ) (rest : List (Transmission × ℕ)) → 6 ≤ n → IsPause t n rest
six_pause (VoiceCall lc header leads gap ss Silenced) n rest le = le
six_pause (VoiceCall lc header leads gap ss (Terminated information more)) n rest le = omega arith
six_pause (HeadersAlone lc header leads Silenced) n rest le = inl le
six_pause (HeadersAlone lc header leads (Terminated information more)) n rest le = omega arith
six_pause (LateCall lc tail ss Silenced) n rest le = le
six_pause (LateCall lc tail ss (Terminated information more)) n rest le = omega arith
six_pause (Controls bursts) n rest le = omega arith
six_pause (DataTry csbks header blocks) n rest le = omega arith
six_pause (ForeignParts parts) n rest le = omega arith

-- behind headers alone, by the number of terminators
headers_pause : (forms : CallForms) (lc : FullLc) (header : List Bool) (leads : List Lead) (n g : ℕ) (begins : Bool)
    → (itself : Before) (rest : List (Transmission × ℕ))
    → IsEnough (if nat_lt 0 n then before.Other else before.SilencedHeaders) begins itself (suc g)
    → (begins ≡ true → BeginsWithData rest) → IsPause (HeadersAlone lc header leads (call_ending forms n)) (suc g) rest
headers_pause forms lc header leads zero g true itself rest h d = inr (omega arith, d refl)
headers_pause forms lc header leads zero g false itself rest h d = inl h
headers_pause forms lc header leads (suc m) g begins itself rest h d = omega arith

-- and behind a call
voice_pause : (forms : CallForms) (lc : FullLc) (header : List Bool) (leads : List Lead) (gap : ℕ) (ss : List Superframe)
    → (n g : ℕ) (begins : Bool) (itself : Before) (rest : List (Transmission × ℕ))
    → IsEnough (if nat_lt 0 n then before.Other else before.SilencedCall) begins itself (suc g)
    → IsPause (VoiceCall lc header leads gap ss (call_ending forms n)) (suc g) rest
voice_pause forms lc header leads gap ss zero g begins itself rest h = h
voice_pause forms lc header leads gap ss (suc m) g begins itself rest h = omega arith

late_pause : (forms : CallForms) (lc : FullLc) (tail : List Bool) (ss : List Superframe) (n g : ℕ) (begins : Bool)
    → (itself : Before) (rest : List (Transmission × ℕ))
    → IsEnough (if nat_lt 0 n then before.Other else before.SilencedCall) begins itself (suc g)
    → IsPause (LateCall lc tail ss (call_ending forms n)) (suc g) rest
late_pause forms lc tail ss zero g begins itself rest h = h
late_pause forms lc tail ss (suc m) g begins itself rest h = omega arith

headed_pause : (call : Call) (forms : CallForms) (h : Headers) (places : List Bool) (g : ℕ) (begins : Bool) (itself : Before)
    → (rest : List (Transmission × ℕ))
    → IsEnough (if nat_lt 0 call.shape.terminators then before.Other else before_behind_places places) begins itself (suc g)
    → (begins ≡ true → BeginsWithData rest) → IsPause (headed_call call forms h places) (suc g) rest
headed_pause call forms h [] g begins itself rest e d =
    headers_pause forms call.link_control forms.header (map (lead_of forms) h.more.items) call.shape.terminators g begins itself
    rest e d
headed_pause call forms h (p ∷ places) g begins itself rest e d =
    voice_pause forms call.link_control forms.header (map (lead_of forms) h.more.items) h.silences
    (superframes_from call forms.fields 0 (p ∷ places)) call.shape.terminators g begins itself rest e

started_pause : (call : Call) (forms : CallForms) (s : CallStart) (g : ℕ) (begins : Bool) (itself : Before)
    → (rest : List (Transmission × ℕ))
    → IsEnough (if nat_lt 0 call.shape.terminators
    then before.Other
    else before_behind_start s call.shape.places.items) begins itself (suc g)
    → (begins ≡ true → BeginsWithData rest) → IsPause (started_call call forms s) (suc g) rest
started_pause call forms (start.Headers h) g begins itself rest e d =
    headed_pause call forms h call.shape.places.items g begins itself rest e d
started_pause call forms (start.Late tail) g begins itself rest e d =
    late_pause forms call.link_control tail.items (superframes_from call forms.fields 0 call.shape.places.items)
    call.shape.terminators g begins itself rest e

-- behind a try one silence is
again_pause : (p : PacketTry) (a : Again) (sent : Transmitted) (g : ℕ) (rest : List (Transmission × ℕ)) → SendsAgain p a sent
    → IsPause sent.transmission (suc g) rest
again_pause p (again.Full None) sent g rest s =
    subst (λ (y : Transmitted). IsPause y.transmission (suc g) rest) (sym s.2.is) (omega arith)
again_pause p (again.Full (Some shape)) sent g rest s =
    subst (λ (y : Transmitted). IsPause y.transmission (suc g) rest) (sym s.2.is) (omega arith)
again_pause p (again.Partial partial) sent g rest s =
    subst (λ (y : Transmitted). IsPause y.transmission (suc g) rest) (sym s.2.is) (omega arith)

said_pause : (own : ℕ) (last : Option PacketTry) (t : Said) (sent : Transmitted) (g : ℕ) (begins : Bool) (itself : Before)
    → (rest : List (Transmission × ℕ)) → SendsSaid own last t sent
    → IsEnough (before_behind_said own sender.Own t) begins itself (suc g) → (begins ≡ true → BeginsWithData rest)
    → IsPause sent.transmission (suc g) rest
said_pause own last (said.Call c) sent g begins itself rest s e d =
    subst (λ (y : Transmitted). IsPause y.transmission (suc g) rest) (sym s.is)
    (started_pause c s.forms c.shape.start g begins itself rest e d)
said_pause own last (said.Packet p) sent g begins itself rest s e d =
    subst (λ (y : Transmitted). IsPause y.transmission (suc g) rest) (sym s.2.is) (omega arith)
said_pause own None (said.Again a) sent g begins itself rest s e d = absurd s
said_pause own (Some p) (said.Again a) sent g begins itself rest s e d = again_pause p a sent g rest s
said_pause own last (said.ShortData x) sent g begins itself rest s e d =
    subst (λ (y : Transmitted). IsPause y.transmission (suc g) rest) (sym s.2.is) (omega arith)
said_pause own last (said.Status x) sent g begins itself rest s e d =
    subst (λ (y : Transmitted). IsPause y.transmission (suc g) rest) (sym s.is) (omega arith)
said_pause own last (said.Answer a) sent g begins itself rest s e d =
    subst (λ (y : Transmitted). IsPause y.transmission (suc g) rest) (sym s.2.is) (omega arith)
said_pause own last (said.Control csbk) sent g begins itself rest s e d =
    subst (λ (y : Transmitted). IsPause y.transmission (suc g) rest) (sym s.2) (omega arith)
said_pause own last (said.Burst lone) sent g begins itself rest s e d =
    subst (λ (y : Transmitted). IsPause y.transmission (suc g) rest) (sym s.2) (omega arith)

-- 2. What begins with data, and rows.

call_data : (call : Call) (forms : CallForms) (s : CallStart) → starts_with_data s ≡ true
    → BeginsWithData ((started_call call forms s, 0) ∷ [])
call_data call forms (start.Late tail) e = absurd (cc)
call_data call forms (start.Headers h) e = by call.shape.places.items
  where
    by : (places : List Bool) → BeginsWithData ((headed_call call forms h places, 0) ∷ [])
    by [] = tt
    by (p ∷ places) = tt

again_data : (p : PacketTry) (a : Again) (sent : Transmitted) → SendsAgain p a sent → BeginsWithData ((sent.transmission, 0) ∷ [])
again_data p (again.Full None) sent s = subst (λ (y : Transmitted). BeginsWithData ((y.transmission, 0) ∷ [])) (sym s.2.is) tt
again_data p (again.Full (Some shape)) sent s =
    subst (λ (y : Transmitted). BeginsWithData ((y.transmission, 0) ∷ [])) (sym s.2.is) tt
again_data p (again.Partial partial) sent s = subst (λ (y : Transmitted). BeginsWithData ((y.transmission, 0) ∷ [])) (sym s.2.is) tt

said_data : (own : ℕ) (last : Option PacketTry) (t : Said) (sent : Transmitted) → SendsSaid own last t sent → says_data t ≡ true
    → BeginsWithData ((sent.transmission, 0) ∷ [])
said_data own last (said.Call c) sent s e =
    subst (λ (y : Transmitted). BeginsWithData ((y.transmission, 0) ∷ [])) (sym s.is) (call_data c s.forms c.shape.start e)
said_data own last (said.Packet p) sent s e =
    subst (λ (y : Transmitted). BeginsWithData ((y.transmission, 0) ∷ [])) (sym s.2.is) tt
said_data own None (said.Again a) sent s e = absurd s
said_data own (Some p) (said.Again a) sent s e = again_data p a sent s
said_data own last (said.ShortData x) sent s e =
    subst (λ (y : Transmitted). BeginsWithData ((y.transmission, 0) ∷ [])) (sym s.2.is) tt
said_data own last (said.Status x) sent s e =
    subst (λ (y : Transmitted). BeginsWithData ((y.transmission, 0) ∷ [])) (sym s.is) tt
said_data own last (said.Answer a) sent s e =
    subst (λ (y : Transmitted). BeginsWithData ((y.transmission, 0) ∷ [])) (sym s.2.is) tt
said_data own last (said.Control csbk) sent s e =
    subst (λ (y : Transmitted). BeginsWithData ((y.transmission, 0) ∷ [])) (sym s.2) (omega arith)
said_data own last (said.Burst lone) sent s e =
    subst (λ (y : Transmitted). BeginsWithData ((y.transmission, 0) ∷ [])) (sym s.2) (omega arith)

-- a transmission in front begins as it does by itself
front_data : (t : Transmission) (n : ℕ) (list : List (Transmission × ℕ)) → BeginsWithData ((t, 0) ∷ [])
    → BeginsWithData (in_front_of t n list)
front_data (VoiceCall lc header leads gap ss ending) n list d = d
front_data (HeadersAlone lc header leads ending) n list d = d
front_data (LateCall lc tail ss ending) n list d = absurd d
front_data (DataTry csbks header blocks) n list d = d
front_data (ForeignParts parts) n list d = absurd d
front_data (Controls some) (suc n) list d = d
front_data (Controls some) zero [] d = d
front_data (Controls some) zero ((VoiceCall lc header leads gap ss ending, m) ∷ list) d = d
front_data (Controls some) zero ((HeadersAlone lc header leads ending, m) ∷ list) d = d
front_data (Controls some) zero ((LateCall lc tail ss ending, m) ∷ list) d = d
front_data (Controls some) zero ((DataTry csbks header blocks, m) ∷ list) d = d
front_data (Controls some) zero ((ForeignParts parts, m) ∷ list) d = d
front_data (Controls some) zero ((Controls more, m) ∷ list) d = let all = length-append some more in omega (arith, all, d)

-- a list begins with a row
abbrev BeginsWithRow : List (Transmission × ℕ) → Type 0
BeginsWithRow list =
    (more : List Control) × (n : ℕ) × (tail : List (Transmission × ℕ)) × (list ≡ (Controls more, n) ∷ tail)

front_row : (some : List Control) (n : ℕ) (list : List (Transmission × ℕ)) → BeginsWithRow (in_front_of (Controls some) n list)
front_row some (suc n) list = (some, suc n, list, refl)
front_row some zero [] = (some, 0, [], refl)
front_row some zero ((VoiceCall lc header leads gap ss ending, m) ∷ list) =
    (some, 0, (VoiceCall lc header leads gap ss ending, m) ∷ list, refl)
front_row some zero ((HeadersAlone lc header leads ending, m) ∷ list) =
    (some, 0, (HeadersAlone lc header leads ending, m) ∷ list, refl)
front_row some zero ((LateCall lc tail ss ending, m) ∷ list) = (some, 0, (LateCall lc tail ss ending, m) ∷ list, refl)
front_row some zero ((DataTry csbks header blocks, m) ∷ list) = (some, 0, (DataTry csbks header blocks, m) ∷ list, refl)
front_row some zero ((ForeignParts parts, m) ∷ list) = (some, 0, (ForeignParts parts, m) ∷ list, refl)
front_row some zero ((Controls more, m) ∷ list) = (some ++ more, m, list, refl)

-- no silence is enough behind a row alone
never_start : (s : CallStart) (places : List Bool) (begins : Bool) (itself : Before)
    → IsEnough (before_behind_start s places) begins itself 0 → ⊥
never_start (start.Headers h) [] true itself e = omega arith
never_start (start.Headers h) [] false itself e = omega arith
never_start (start.Headers h) (p ∷ places) begins itself e = omega arith
never_start (start.Late tail) places begins itself e = omega arith

never_call : (s : CallShape) (begins : Bool) (itself : Before) → IsEnough (before_behind_call s) begins itself 0 → ⊥
never_call s begins itself e = by (nat_lt 0 s.terminators) e
  where
    by : (ended : Bool)
        → IsEnough (if ended then before.Other else before_behind_start s.start s.places.items) begins itself 0 → ⊥
    by true e = omega arith
    by false e = never_start s.start s.places.items begins itself e

not_row_start : (colour : ℕ) (s : CallStart) (places : List Bool) → is_row colour (before_behind_start s places) ≡ true → ⊥
not_row_start colour (start.Headers h) [] e = cc
not_row_start colour (start.Headers h) (p ∷ places) e = cc
not_row_start colour (start.Late tail) places e = cc

not_row_call : (colour : ℕ) (s : CallShape) → is_row colour (before_behind_call s) ≡ true → ⊥
not_row_call colour s e = by (nat_lt 0 s.terminators) e
  where
    by : (ended : Bool)
        → is_row colour (if ended then before.Other else before_behind_start s.start s.places.items) ≡ true → ⊥
    by true e = cc
    by false e = not_row_start colour s.start s.places.items e

-- it is sent as data bursts
abbrev IsRowSent : Transmission → Type 0
IsRowSent t = (bursts : List Control) × (t ≡ Controls bursts)

row_of : (own : ℕ) (itself : Before) → (1 ≤ 0) ⊎ ((◌≡◌ {A = ℕ} 0 0) × (is_row own itself ≡ true)) → is_row own itself ≡ true
row_of own itself (inl x) = absurd (omega arith)
row_of own itself (inr y) = y.1

-- what has no silence behind it is a row, and so is what follows
row_in_front : (own : ℕ) (last : Option PacketTry) (t : Said) (sent : Transmitted) (begins : Bool) (itself : Before)
    → SendsSaid own last t sent → IsEnough (before_behind_said own sender.Own t) begins itself 0
    → IsRowSent sent.transmission × (is_row own itself ≡ true)
row_in_front own last (said.Call c) sent begins itself s e = absurd (never_call c.shape begins itself e)
row_in_front own last (said.Packet p) sent begins itself s e = absurd (omega arith)
row_in_front own last (said.Again a) sent begins itself s e = absurd (omega arith)
row_in_front own last (said.ShortData x) sent begins itself s e = absurd (omega arith)
row_in_front own last (said.Status x) sent begins itself s e = absurd (omega arith)
row_in_front own last (said.Answer a) sent begins itself s e = absurd (omega arith)
row_in_front own last (said.Control csbk) sent begins itself s e =
    ((csbk_control s.0 ∷ [], ap (λ (y : Transmitted). y.transmission) s.2), row_of own itself e)
row_in_front own last (said.Burst lone) sent begins itself s e =
    ((lone_control lone s.0 ∷ [], ap (λ (y : Transmitted). y.transmission) s.2), row_of own itself e)

row_behind : (own : ℕ) (last : Option PacketTry) (t : Said) (sent : Transmitted) → SendsSaid own last t sent
    → is_row own (before_behind_said own sender.Own t) ≡ true → IsRowSent sent.transmission
row_behind own last (said.Call c) sent s e = absurd (not_row_call own c.shape e)
row_behind own last (said.Packet p) sent s e = absurd (cc)
row_behind own last (said.Again a) sent s e = absurd (cc)
row_behind own last (said.ShortData x) sent s e = absurd (cc)
row_behind own last (said.Status x) sent s e = absurd (cc)
row_behind own last (said.Answer a) sent s e = absurd (cc)
row_behind own last (said.Control csbk) sent s e = (csbk_control s.0 ∷ [], ap (λ (y : Transmitted). y.transmission) s.2)
row_behind own last (said.Burst lone) sent s e = (lone_control lone s.0 ∷ [], ap (λ (y : Transmitted). y.transmission) s.2)

-- 3. Senders.

-- it is sent as data bursts, or as parts where the colour code is another one
abbrev IsRowBy : Sender → Transmission → Type 0
IsRowBy sender.Own t = IsRowSent t
IsRowBy (sender.Foreign colour) t = (parts : List Foreign) × (t ≡ ForeignParts parts)

heard_well : (own : ℕ) (last : Option PacketTry) (p : PlacedTransmission) (from : Sender) (t : Said) (sent : Transmitted)
    → IsWellSaid own last p (record { sender = from; transmission = t }) → SendsSaid (colour_of own from) last t sent
    → IsTransmission own (heard_by from sent)
heard_well own last p sender.Own t sent w s = said_well own last t sent w.fits.transmission s
heard_well own last p (sender.Foreign colour) t sent w s =
    parts_foreign own colour None sent.slots w.other (foreign_told colour last t sent w.sendable w.fits.sender.1 s)
    (all_seen_as colour last t sent w.sendable s).may_be_sent

heard_pause : (own : ℕ) (last : Option PacketTry) (from : Sender) (t : Said) (sent : Transmitted) (g : ℕ) (begins : Bool)
    → (itself : Before) (rest : List (Transmission × ℕ)) → SendsSaid (colour_of own from) last t sent
    → IsEnough (before_behind_said own from t) begins itself (suc g) → (begins ≡ true → BeginsWithData rest)
    → IsPause (heard_by from sent) (suc g) rest
heard_pause own last sender.Own t sent g begins itself rest s e d = said_pause own last t sent g begins itself rest s e d
heard_pause own last (sender.Foreign colour) t sent g begins itself rest s e d = omega arith

heard_data : (own : ℕ) (last : Option PacketTry) (from : Sender) (t : Said) (sent : Transmitted)
    → SendsSaid (colour_of own from) last t sent → sends_data from t ≡ true → BeginsWithData ((heard_by from sent, 0) ∷ [])
heard_data own last sender.Own t sent s e = said_data own last t sent s e
heard_data own last (sender.Foreign colour) t sent s e = absurd (cc)

-- what has no silence behind it is a row, and so is what follows
heard_rows : (own : ℕ) (last : Option PacketTry) (from : Sender) (t : Said) (sent : Transmitted) (begins : Bool) (itself : Before)
    → SendsSaid (colour_of own from) last t sent → IsEnough (before_behind_said own from t) begins itself 0
    → IsRowBy from (heard_by from sent) × (is_row (colour_of own from) itself ≡ true)
heard_rows own last sender.Own t sent begins itself s e = row_in_front own last t sent begins itself s e
heard_rows own last (sender.Foreign colour) (said.Call c) sent begins itself s e = absurd (omega arith)
heard_rows own last (sender.Foreign colour) (said.Packet p) sent begins itself s e = absurd (omega arith)
heard_rows own last (sender.Foreign colour) (said.Again a) sent begins itself s e = absurd (omega arith)
heard_rows own last (sender.Foreign colour) (said.ShortData x) sent begins itself s e = absurd (omega arith)
heard_rows own last (sender.Foreign colour) (said.Status x) sent begins itself s e = absurd (omega arith)
heard_rows own last (sender.Foreign colour) (said.Answer a) sent begins itself s e = absurd (omega arith)
heard_rows own last (sender.Foreign colour) (said.Control csbk) sent begins itself s e =
    ((parts_from None sent.slots, refl), row_of colour itself e)
heard_rows own last (sender.Foreign colour) (said.Burst lone) sent begins itself s e =
    ((parts_from None sent.slots, refl), row_of colour itself e)

-- colour codes that differ make no row
not_same : (a b : ℕ) → (a == b) ≡ true → (b ≢ a) → ⊥
not_same a b e other = other (grind arith)

foreign_row : (own colour : ℕ) (t : Said) → colour ≢ own → is_row own (before_behind_said own (sender.Foreign colour) t) ≡ true → ⊥
foreign_row own colour (said.Call c) other e = cc
foreign_row own colour (said.Packet p) other e = cc
foreign_row own colour (said.Again a) other e = cc
foreign_row own colour (said.ShortData x) other e = cc
foreign_row own colour (said.Status x) other e = cc
foreign_row own colour (said.Answer a) other e = cc
foreign_row own colour (said.Control csbk) other e = not_same own colour e other
foreign_row own colour (said.Burst lone) other e = not_same own colour e other

own_row : (own colour : ℕ) (t : Said) → colour ≢ own → is_row colour (before_behind_said own sender.Own t) ≡ true → ⊥
own_row own colour (said.Call c) other e = not_row_call colour c.shape e
own_row own colour (said.Packet p) other e = cc
own_row own colour (said.Again a) other e = cc
own_row own colour (said.ShortData x) other e = cc
own_row own colour (said.Status x) other e = cc
own_row own colour (said.Answer a) other e = cc
own_row own colour (said.Control csbk) other e = not_same colour own e (λ same. other (sym same))
own_row own colour (said.Burst lone) other e = not_same colour own e (λ same. other (sym same))

heard_behind : (own : ℕ) (last : Option PacketTry) (from next : Sender) (t : Said) (sent : Transmitted) → IsOtherThan own from
    → IsOtherThan own next → SendsSaid (colour_of own next) last t sent
    → is_row (colour_of own from) (before_behind_said own next t) ≡ true → IsRowBy from (heard_by next sent)
heard_behind own last sender.Own sender.Own t sent a b s e = row_behind own last t sent s e
heard_behind own last sender.Own (sender.Foreign colour) t sent a b s e = absurd (foreign_row own colour t b e)
heard_behind own last (sender.Foreign colour) sender.Own t sent a b s e = absurd (own_row own colour t a e)
heard_behind own last (sender.Foreign colour) (sender.Foreign next) t sent a b s e = (parts_from None sent.slots, refl)

-- 4. Lists.

front_some : (t : Transmission) (g : ℕ) (list : List (Transmission × ℕ)) → in_front_of t (suc g) list ≡ (t, suc g) ∷ list
front_some (VoiceCall lc header leads gap ss ending) g list = refl
front_some (HeadersAlone lc header leads ending) g list = refl
front_some (LateCall lc tail ss ending) g list = refl
front_some (Controls bursts) g list = refl
front_some (DataTry csbks header blocks) g list = refl
front_some (ForeignParts parts) g list = refl

-- a list begins with parts of another colour code
abbrev BeginsWithParts : List (Transmission × ℕ) → Type 0
BeginsWithParts list =
    (more : List Foreign) × (n : ℕ) × (tail : List (Transmission × ℕ)) × (list ≡ (ForeignParts more, n) ∷ tail)

front_parts : (some : List Foreign) (n : ℕ) (list : List (Transmission × ℕ))
    → BeginsWithParts (in_front_of (ForeignParts some) n list)
front_parts some (suc n) list = (some, suc n, list, refl)
front_parts some zero [] = (some, 0, [], refl)
front_parts some zero ((VoiceCall lc header leads gap ss ending, m) ∷ list) =
    (some, 0, (VoiceCall lc header leads gap ss ending, m) ∷ list, refl)
front_parts some zero ((HeadersAlone lc header leads ending, m) ∷ list) =
    (some, 0, (HeadersAlone lc header leads ending, m) ∷ list, refl)
front_parts some zero ((LateCall lc tail ss ending, m) ∷ list) = (some, 0, (LateCall lc tail ss ending, m) ∷ list, refl)
front_parts some zero ((DataTry csbks header blocks, m) ∷ list) = (some, 0, (DataTry csbks header blocks, m) ∷ list, refl)
front_parts some zero ((Controls more, m) ∷ list) = (some, 0, (Controls more, m) ∷ list, refl)
front_parts some zero ((ForeignParts more, m) ∷ list) = (some ++ more, m, list, refl)

-- a list begins as this sender goes on
abbrev BeginsBy : Sender → List (Transmission × ℕ) → Type 0
BeginsBy sender.Own list = BeginsWithRow list
BeginsBy (sender.Foreign colour) list = BeginsWithParts list

front_by : (from : Sender) (t : Transmission) (n : ℕ) (list : List (Transmission × ℕ)) → IsRowBy from t
    → BeginsBy from (in_front_of t n list)
front_by sender.Own t n list row =
    subst (λ (x : Transmission). BeginsWithRow (in_front_of x n list)) (sym row.1) (front_row row.0 n list)
front_by (sender.Foreign colour) t n list row =
    subst (λ (x : Transmission). BeginsWithParts (in_front_of x n list)) (sym row.1) (front_parts row.0 n list)

alone_by : (from : Sender) (t : Transmission) (n : ℕ) → IsRowBy from t → BeginsBy from ((t, n) ∷ [])
alone_by sender.Own t n row =
    subst (λ (x : Transmission). BeginsWithRow ((x, n) ∷ [])) (sym row.1) (row.0, n, [], refl)
alone_by (sender.Foreign colour) t n row =
    subst (λ (x : Transmission). BeginsWithParts ((x, n) ∷ [])) (sym row.1) (row.0, n, [], refl)

-- rows in a row are one
join_rows : (own : ℕ) (some : List Control) (list : List (Transmission × ℕ)) → BeginsWithRow list
    → IsTransmission own (Controls some) → IsWellFormed own list → IsWellFormed own (in_front_of (Controls some) zero list)
join_rows own some list b w f =
    let g : IsWellFormed own ((Controls b.0, b.1) ∷ b.2) = subst (IsWellFormed own) b.3 f in
    subst (λ (l : List (Transmission × ℕ)). IsWellFormed own (in_front_of (Controls some) zero l)) (sym b.3)
    (all_append _ some b.0 w g.0, g.1, g.2)

join_parts : (own : ℕ) (some : List Foreign) (list : List (Transmission × ℕ)) → BeginsWithParts list
    → IsTransmission own (ForeignParts some) → IsWellFormed own list → IsWellFormed own (in_front_of (ForeignParts some) zero list)
join_parts own some list b w f =
    let g : IsWellFormed own ((ForeignParts b.0, b.1) ∷ b.2) = subst (IsWellFormed own) b.3 f in
    subst (λ (l : List (Transmission × ℕ)). IsWellFormed own (in_front_of (ForeignParts some) zero l)) (sym b.3)
    (all_append _ some b.0 w g.0, g.1, g.2)

join : (own : ℕ) (from : Sender) (t : Transmission) (list : List (Transmission × ℕ)) → IsRowBy from t → BeginsBy from list
    → IsTransmission own t → IsWellFormed own list → IsWellFormed own (in_front_of t zero list)
join own sender.Own t list row b w f =
    subst (λ (x : Transmission). IsWellFormed own (in_front_of x zero list)) (sym row.1)
    (join_rows own row.0 list b (subst (IsTransmission own) row.1 w) f)
join own (sender.Foreign colour) t list row b w f =
    subst (λ (x : Transmission). IsWellFormed own (in_front_of x zero list)) (sym row.1)
    (join_parts own row.0 list b (subst (IsTransmission own) row.1 w) f)

-- 5. Transmissions of a channel.

-- a transmission is one
same_transmit : (all : List NumberedStatement) (at : ℕ) (t u : Transmit) → transmit_in all at ≡ Some t → transmit_in all at ≡ Some u
    → t ≡ u
same_transmit all at t u p q = cc (p, q)

channel_well : (own : ℕ) (all : List NumberedStatement) (p : PlacedTransmission) (t : Transmission) → IsWellPlaced own all p
    → IsInChannel own all p t → IsTransmission own t
channel_well own all p t w c =
    subst (IsTransmission own) (sym c.is)
    (heard_well own (packet_in all p.packet) p c.transmit.sender c.transmit.transmission c.sent (w c.transmit c.there) c.sends)

channel_pause : (own : ℕ) (all : List NumberedStatement) (p : PlacedTransmission) (t : Transmission) (next : Transmit) (g : ℕ)
    → (rest : List (Transmission × ℕ)) (c : IsInChannel own all p t) → IsEnoughBetween own c.transmit next (suc g)
    → (begins_with_data next ≡ true → BeginsWithData rest) → IsPause t (suc g) rest
channel_pause own all p t next g rest c enough d =
    subst (λ (x : Transmission). IsPause x (suc g) rest) (sym c.is)
    (heard_pause own (packet_in all p.packet) c.transmit.sender c.transmit.transmission c.sent g (begins_with_data next)
    (before_behind own next) rest c.sends enough d)

channel_rows : (own : ℕ) (all : List NumberedStatement) (p : PlacedTransmission) (t : Transmission) (next : Transmit)
    → (c : IsInChannel own all p t) → IsEnoughBetween own c.transmit next 0
    → IsRowBy c.transmit.sender t × (is_row (colour_of own c.transmit.sender) (before_behind own next) ≡ true)
channel_rows own all p t next c enough =
    let rows : IsRowBy c.transmit.sender (heard_by c.transmit.sender c.sent)
    × (is_row (colour_of own c.transmit.sender) (before_behind own next) ≡ true) =
    heard_rows own (packet_in all p.packet) c.transmit.sender c.transmit.transmission c.sent (begins_with_data next)
    (before_behind own next) c.sends enough in
    (subst (IsRowBy c.transmit.sender) (sym c.is) rows.0, rows.1)

channel_data : (own : ℕ) (all : List NumberedStatement) (q : PlacedTransmission) (t : Transmission) (next : Transmit)
    → IsInChannel own all q t → transmit_in all q.statement ≡ Some next → begins_with_data next ≡ true
    → BeginsWithData ((t, 0) ∷ [])
channel_data own all q t next c there e =
    let same : next ≡ c.transmit = same_transmit all q.statement next c.transmit there c.there in
    let mine : begins_with_data c.transmit ≡ true = subst (λ (x : Transmit). begins_with_data x ≡ true) same e in
    subst (λ (x : Transmission). BeginsWithData ((x, 0) ∷ [])) (sym c.is)
    (heard_data own (packet_in all q.packet) c.transmit.sender c.transmit.transmission c.sent c.sends mine)

channel_behind : (own : ℕ) (all : List NumberedStatement) (q : PlacedTransmission) (t : Transmission) (next : Transmit)
    → (from : Sender) → IsOtherThan own from → IsWellPlaced own all q → IsInChannel own all q t
    → transmit_in all q.statement ≡ Some next → is_row (colour_of own from) (before_behind own next) ≡ true → IsRowBy from t
channel_behind own all q t next from other w c there e =
    let same : next ≡ c.transmit = same_transmit all q.statement next c.transmit there c.there in
    let mine : is_row (colour_of own from) (before_behind own c.transmit) ≡ true =
    subst (λ (x : Transmit). is_row (colour_of own from) (before_behind own x) ≡ true) same e in
    subst (IsRowBy from) (sym c.is)
    (heard_behind own (packet_in all q.packet) from c.transmit.sender c.transmit.transmission c.sent other
    (w c.transmit c.there).other c.sends mine)

-- which transmission is the first
first_of : (own : ℕ) (all : List NumberedStatement) (frames : ℕ) (q : PlacedTransmission) (placed : List PlacedTransmission)
    → (list : List (Transmission × ℕ)) → IsListOf own all frames (q ∷ placed) list
    → (next : Transmit) × (transmit_in all q.statement ≡ Some next)
first_of own all frames q [] list l = (l.1.transmit, l.1.there)
first_of own all frames q (r ∷ placed) list l = (l.2.transmit, l.2.there)

-- what holds of the first of a list of a slot
first_data : (own : ℕ) (all : List NumberedStatement) (frames : ℕ) (q : PlacedTransmission) (placed : List PlacedTransmission)
    → (list : List (Transmission × ℕ)) (next : Transmit) → IsListOf own all frames (q ∷ placed) list
    → transmit_in all q.statement ≡ Some next → begins_with_data next ≡ true → BeginsWithData list
first_data own all frames q [] list next l there e =
    subst BeginsWithData (sym l.2) (channel_data own all q l.0 next l.1 there e)
first_data own all frames q (r ∷ placed) list next l there e =
    subst BeginsWithData (sym l.4) (front_data l.0 (r.start - (q.start + q.length)) l.1
    (channel_data own all q l.0 next l.2 there e))

first_by : (own : ℕ) (all : List NumberedStatement) (frames : ℕ) (q : PlacedTransmission) (placed : List PlacedTransmission)
    → (list : List (Transmission × ℕ)) (next : Transmit) (from : Sender) → IsOtherThan own from → IsWellPlaced own all q
    → IsListOf own all frames (q ∷ placed) list → transmit_in all q.statement ≡ Some next
    → is_row (colour_of own from) (before_behind own next) ≡ true → BeginsBy from list
first_by own all frames q [] list next from other w l there e =
    subst (BeginsBy from) (sym l.2) (alone_by from l.0 (frames - (q.start + q.length) + 6)
    (channel_behind own all q l.0 next from other w l.1 there e))
first_by own all frames q (r ∷ placed) list next from other w l there e =
    subst (BeginsBy from) (sym l.4) (front_by from l.0 (r.start - (q.start + q.length)) l.1
    (channel_behind own all q l.0 next from other w l.2 there e))

-- The list of a slot is well formed.
pub listed : (own : ℕ) (all : List NumberedStatement) (frames : ℕ) (placed : List PlacedTransmission)
    → (list : List (Transmission × ℕ)) → AllByRecursion (IsWellPlaced own all) placed → ArePausedBetween all own placed
    → IsListOf own all frames placed list → IsWellFormed own list
listed own all frames [] list w pauses l = subst (IsWellFormed own) (sym l) tt
listed own all frames (p ∷ []) list w pauses l =
    subst (IsWellFormed own) (sym l.2)
    (channel_well own all p l.0 w.0 l.1, six_pause l.0 (frames - (p.start + p.length) + 6) [] (omega arith), tt)
listed own all frames (p ∷ q ∷ placed) list w pauses l =
    let wf : IsWellFormed own l.1 = listed own all frames (q ∷ placed) l.1 w.1 pauses.1 l.3 in
    let next : Transmit = (first_of own all frames q placed l.1 l.3).0 in
    let there : transmit_in all q.statement ≡ Some next = (first_of own all frames q placed l.1 l.3).1 in
    subst (IsWellFormed own) (sym l.4) (by next there (q.start - (p.start + p.length))
    (pauses.0 l.2.transmit next l.2.there there) wf)
  where
    by : (next : Transmit) → transmit_in all q.statement ≡ Some next → (gap : ℕ)
        → IsEnoughBetween own l.2.transmit next gap → IsWellFormed own l.1 → IsWellFormed own (in_front_of l.0 gap l.1)
    by next there (suc g) enough wf =
        subst (IsWellFormed own) (sym (front_some l.0 g l.1)) (
          channel_well own all p l.0 w.0 l.2,
          channel_pause own all p l.0 next g l.1 l.2 enough (first_data own all frames q placed l.1 next l.3 there),
          wf,
        )
    by next there zero enough wf =
        let from : Sender = l.2.transmit.sender in
        let rows = channel_rows own all p l.0 next l.2 enough in
        let other : IsOtherThan own from = (w.0 l.2.transmit l.2.there).other in
        join own from l.0 l.1 rows.0 (first_by own all frames q placed l.1 next from other w.1.0 l.3 there rows.1)
        (channel_well own all p l.0 w.0 l.2) wf
