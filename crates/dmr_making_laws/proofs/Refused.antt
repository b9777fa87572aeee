-- Scripts that are refused.
use Rattle.std.proofs.Common.{◌≡◌, ℕ, zero, suc, ◌<◌, ◌≤◌, inl, inr, nat_lt, Bool, true, false, List, [], ◌∷◌}
use Rattle.std.proofs.Common.{arith, refl, subst, Option, Some, None, map, if◌then◌else◌}
use Rattle.dmr_link.specs.declared.full_lc.FullLc.{FullLc}
use Rattle.dmr_making.specs.Calls.{CallForms, call_ending, headed_call, lead_of, started_call, superframes_from}
use Rattle.dmr_making.specs.Senders.{colour_of}
use Rattle.dmr_making.specs.Sends.{SendsAgain, SendsSaid, Transmitted}
use Rattle.dmr_making_laws.proofs.Existing.{list_somehow}
use Rattle.dmr_making_laws.proofs.Listing.{listed}
use Rattle.dmr_making_laws.proofs.OtherColours.{other_colours}
use Rattle.dmr_making_laws.proofs.Placing.{AreOthers, AreWellPlaced, planned_well}
use Rattle.dmr_making_laws.specs.Lists.{heard_by}
use Rattle.dmr_making_laws.specs.Refused.{FewSilencesAreNoPause, FrontsAreWellFormed}
use Rattle.dmr_planning.proofs.Pausing.{pauses}
use Rattle.dmr_planning.proofs.Planned.{IsAllFit, planned_fits}
use Rattle.dmr_planning.specs.Pauses.{before_behind, before_behind_places, before_behind_said, before_behind_start}
use Rattle.dmr_planning.specs.Pauses.{begins_with_data, needed_behind, sends_data, starts_with_data}
use Rattle.dmr_planning.specs.Planning.{own_colour}
use Rattle.dmr_planning.specs.declared.slot_state.Before.{Before}
use Rattle.dmr_planning.specs.declared.slot_state.Before.TheVariants as before
use Rattle.dmr_script.specs.Order.{said_nothing}
use Rattle.dmr_script.specs.declared.call.Call.{Call}
use Rattle.dmr_script.specs.declared.packet.Again.{Again}
use Rattle.dmr_script.specs.declared.packet.Again.TheVariants as again
use Rattle.dmr_script.specs.declared.packet.PacketTry.{PacketTry}
use Rattle.dmr_script.specs.declared.shape.CallStart.{CallStart}
use Rattle.dmr_script.specs.declared.shape.CallStart.TheVariants as start
use Rattle.dmr_script.specs.declared.shape.Headers.{Headers}
use Rattle.dmr_script.specs.declared.statement.NumberedStatement.{NumberedStatement}
use Rattle.dmr_script.specs.declared.statement.Sender.{Sender}
use Rattle.dmr_script.specs.declared.statement.Sender.TheVariants as sender
use Rattle.dmr_script.specs.declared.statement.Transmission.{Transmission as Said}
use Rattle.dmr_script.specs.declared.statement.Transmission.TheVariants as said
use Rattle.dmr_voice.specs.CallMeaning.{Lead, Superframe}
use Rattle.dmr_voice.specs.CallMeaning.{Transmission, VoiceCall, HeadersAlone, LateCall}
use Rattle.dmr_voice.specs.WellFormed.{BeginsWithData, IsPause}

-- 1. Fronts.

-- What stands in front of a line has well-formed lists.
pub fronts_are_well_formed : FrontsAreWellFormed
fronts_are_well_formed script taken at frames planned fits follow are =
    let all : List NumberedStatement = script.statements.items in
    let own : ℕ = own_colour all in
    let others : AreOthers own all = λ n t e. other_colours said_nothing all n t follow e in
    let placed : AreWellPlaced own all planned = planned_well own all taken at planned others fits are in
    let fit : IsAllFit all planned = planned_fits all own taken at planned fits are in
    let paused = pauses all own taken at planned are in
    let (first, first_slot) = list_somehow own all frames planned.first.placed placed.first fit.first.placed in
    let (second, second_slot) = list_somehow own all frames planned.second.placed placed.second fit.second.placed in
    record {
      first = first;
      second = second;
      first_slot = first_slot;
      second_slot = second_slot;
      first_well = listed own all frames planned.first.placed first placed.first paused.0 first_slot;
      second_well = listed own all frames planned.second.placed second placed.second paused.1 second_slot;
    }

-- 2. Too few silences.

-- behind terminators one is needed
one_behind_terminators : (m g : ℕ) (b : Before) (begins : Bool) (itself : Before)
    → g < needed_behind (if nat_lt 0 (suc m) then before.Other else b) (Some g) begins itself → g < 1
one_behind_terminators m g b begins itself few = by (nat_lt 0 (suc m)) refl few
  where
    by : (ended : Bool) → nat_lt 0 (suc m) ≡ ended
        → g < needed_behind (if ended then before.Other else b) (Some g) begins itself → g < 1
    by true test few = few
    by false test few = let le : suc m ≤ 0 = grind arith in absurd (omega (arith, le))

-- behind headers alone, by the number of terminators
few_behind_headers : (forms : CallForms) (lc : FullLc) (header : List Bool) (leads : List Lead) (n g : ℕ) (begins : Bool)
    → (itself : Before) (rest : List (Transmission × ℕ))
    → g < needed_behind (if nat_lt 0 n then before.Other else before.SilencedHeaders) (Some g) begins itself
    → (begins ≡ false → BeginsWithData rest → ⊥) → IsPause (HeadersAlone lc header leads (call_ending forms n)) g rest → ⊥
few_behind_headers forms lc header leads zero g true itself rest few d (inl six) = omega (arith, few, six)
few_behind_headers forms lc header leads zero g true itself rest few d (inr one) = let le = one.0 in omega (arith, few, le)
few_behind_headers forms lc header leads zero g false itself rest few d (inl six) = omega (arith, few, six)
few_behind_headers forms lc header leads zero g false itself rest few d (inr one) = d refl one.1
few_behind_headers forms lc header leads (suc m) g begins itself rest few d p =
    let one : g < 1 = one_behind_terminators m g before.SilencedHeaders begins itself few in omega (arith, one, p)

-- and behind a call
few_behind_voice : (forms : CallForms) (lc : FullLc) (header : List Bool) (leads : List Lead) (gap : ℕ) (ss : List Superframe)
    → (n g : ℕ) (begins : Bool) (itself : Before) (rest : List (Transmission × ℕ))
    → g < needed_behind (if nat_lt 0 n then before.Other else before.SilencedCall) (Some g) begins itself
    → IsPause (VoiceCall lc header leads gap ss (call_ending forms n)) g rest → ⊥
few_behind_voice forms lc header leads gap ss zero g begins itself rest few p = omega (arith, few, p)
few_behind_voice forms lc header leads gap ss (suc m) g begins itself rest few p =
    let one : g < 1 = one_behind_terminators m g before.SilencedCall begins itself few in omega (arith, one, p)

few_behind_late : (forms : CallForms) (lc : FullLc) (tail : List Bool) (ss : List Superframe) (n g : ℕ) (begins : Bool)
    → (itself : Before) (rest : List (Transmission × ℕ))
    → g < needed_behind (if nat_lt 0 n then before.Other else before.SilencedCall) (Some g) begins itself
    → IsPause (LateCall lc tail ss (call_ending forms n)) g rest → ⊥
few_behind_late forms lc tail ss zero g begins itself rest few p = omega (arith, few, p)
few_behind_late forms lc tail ss (suc m) g begins itself rest few p =
    let one : g < 1 = one_behind_terminators m g before.SilencedCall begins itself few in omega (arith, one, p)

few_behind_headed : (call : Call) (forms : CallForms) (h : Headers) (places : List Bool) (g : ℕ) (begins : Bool) (itself : Before)
    → (rest : List (Transmission × ℕ))
    → g < needed_behind (if nat_lt 0 call.shape.terminators then before.Other else before_behind_places places) (Some g) begins
    itself
    → (begins ≡ false → BeginsWithData rest → ⊥) → IsPause (headed_call call forms h places) g rest → ⊥
few_behind_headed call forms h [] g begins itself rest few d p =
    few_behind_headers forms call.link_control forms.header (map (lead_of forms) h.more.items) call.shape.terminators g begins
    itself rest few d p
few_behind_headed call forms h (place ∷ places) g begins itself rest few d p =
    few_behind_voice forms call.link_control forms.header (map (lead_of forms) h.more.items) h.silences
    (superframes_from call forms.fields 0 (place ∷ places)) call.shape.terminators g begins itself rest few p

few_behind_started : (call : Call) (forms : CallForms) (s : CallStart) (g : ℕ) (begins : Bool) (itself : Before)
    → (rest : List (Transmission × ℕ))
    → g < needed_behind (if nat_lt 0 call.shape.terminators
    then before.Other
    else before_behind_start s call.shape.places.items) (Some g) begins itself
    → (begins ≡ false → BeginsWithData rest → ⊥) → IsPause (started_call call forms s) g rest → ⊥
few_behind_started call forms (start.Headers h) g begins itself rest few d p =
    few_behind_headed call forms h call.shape.places.items g begins itself rest few d p
few_behind_started call forms (start.Late tail) g begins itself rest few d p =
    few_behind_late forms call.link_control tail.items (superframes_from call forms.fields 0 call.shape.places.items)
    call.shape.terminators g begins itself rest few p

-- behind a try no silence is too few
few_behind_again : (p : PacketTry) (a : Again) (sent : Transmitted) (g : ℕ) (rest : List (Transmission × ℕ))
    → SendsAgain p a sent → g < 1 → IsPause sent.transmission g rest → ⊥
few_behind_again p (again.Full None) sent g rest s few pause =
    let q = subst (λ (y : Transmitted). IsPause y.transmission g rest) s.2.is pause in omega (arith, few, q)
few_behind_again p (again.Full (Some shape)) sent g rest s few pause =
    let q = subst (λ (y : Transmitted). IsPause y.transmission g rest) s.2.is pause in omega (arith, few, q)
few_behind_again p (again.Partial partial) sent g rest s few pause =
    let q = subst (λ (y : Transmitted). IsPause y.transmission g rest) s.2.is pause in omega (arith, few, q)

few_behind_said : (own : ℕ) (last : Option PacketTry) (t : Said) (sent : Transmitted) (g : ℕ) (begins : Bool) (itself : Before)
    → (rest : List (Transmission × ℕ)) → SendsSaid own last t sent
    → g < needed_behind (before_behind_said own sender.Own t) (Some g) begins itself
    → (begins ≡ false → BeginsWithData rest → ⊥) → IsPause sent.transmission g rest → ⊥
few_behind_said own last (said.Call c) sent g begins itself rest s few d p =
    few_behind_started c s.forms c.shape.start g begins itself rest few d
    (subst (λ (y : Transmitted). IsPause y.transmission g rest) s.is p)
few_behind_said own last (said.Packet packet) sent g begins itself rest s few d p =
    let q = subst (λ (y : Transmitted). IsPause y.transmission g rest) s.2.is p in omega (arith, few, q)
few_behind_said own None (said.Again a) sent g begins itself rest s few d p = s
few_behind_said own (Some packet) (said.Again a) sent g begins itself rest s few d p =
    few_behind_again packet a sent g rest s few p
few_behind_said own last (said.ShortData x) sent g begins itself rest s few d p =
    let q = subst (λ (y : Transmitted). IsPause y.transmission g rest) s.2.is p in omega (arith, few, q)
few_behind_said own last (said.Status x) sent g begins itself rest s few d p =
    let q = subst (λ (y : Transmitted). IsPause y.transmission g rest) s.is p in omega (arith, few, q)
few_behind_said own last (said.Answer a) sent g begins itself rest s few d p =
    let q = subst (λ (y : Transmitted). IsPause y.transmission g rest) s.2.is p in omega (arith, few, q)
few_behind_said own last (said.Control csbk) sent g begins itself rest s few d p =
    let q = subst (λ (y : Transmitted). IsPause y.transmission g rest) s.2 p in omega (arith, few, q)
few_behind_said own last (said.Burst lone) sent g begins itself rest s few d p =
    let q = subst (λ (y : Transmitted). IsPause y.transmission g rest) s.2 p in omega (arith, few, q)

-- of another colour code one silence is needed
one_behind_foreign : (own colour g : ℕ) (t : Said) (begins : Bool) (itself : Before)
    → g < needed_behind (before_behind_said own (sender.Foreign colour) t) (Some g) begins itself → g < 1
one_behind_foreign own colour g (said.Call c) begins itself few = few
one_behind_foreign own colour g (said.Packet p) begins itself few = few
one_behind_foreign own colour g (said.Again a) begins itself few = few
one_behind_foreign own colour g (said.ShortData x) begins itself few = few
one_behind_foreign own colour g (said.Status x) begins itself few = few
one_behind_foreign own colour g (said.Answer a) begins itself few = few
one_behind_foreign own colour g (said.Control csbk) begins itself few = few
one_behind_foreign own colour g (said.Burst lone) begins itself few = few

few_behind : (own : ℕ) (last : Option PacketTry) (from : Sender) (t : Said) (sent : Transmitted) (g : ℕ) (begins : Bool)
    → (itself : Before) (rest : List (Transmission × ℕ)) → SendsSaid (colour_of own from) last t sent
    → g < needed_behind (before_behind_said own from t) (Some g) begins itself
    → (begins ≡ false → BeginsWithData rest → ⊥) → IsPause (heard_by from sent) g rest → ⊥
few_behind own last sender.Own t sent g begins itself rest s few d p =
    few_behind_said own last t sent g begins itself rest s few d p
few_behind own last (sender.Foreign colour) t sent g begins itself rest s few d p =
    let one : g < 1 = one_behind_foreign own colour g t begins itself few in omega (arith, one, p)

-- what doesn't begin with a data burst is no list that does
no_data : (own : ℕ) (last : Option PacketTry) (from : Sender) (t : Said) (sent : Transmitted) (n : ℕ)
    → (list : List (Transmission × ℕ)) → SendsSaid (colour_of own from) last t sent → sends_data from t ≡ false
    → BeginsWithData ((heard_by from sent, n) ∷ list) → ⊥
no_data own last (sender.Foreign colour) t sent n list s e d = d
no_data own last sender.Own (said.Call c) sent n list s e d =
    by s.forms c.shape.start e (subst (λ (y : Transmitted). BeginsWithData ((y.transmission, n) ∷ list)) s.is d)
  where
    by : (forms : CallForms) (start : CallStart) → starts_with_data start ≡ false
        → BeginsWithData ((started_call c forms start, n) ∷ list) → ⊥
    by forms (start.Headers h) e d = absurd (cc)
    by forms (start.Late tail) e d = d
no_data own last sender.Own (said.Packet p) sent n list s e d = absurd (cc)
no_data own last sender.Own (said.Again a) sent n list s e d = absurd (cc)
no_data own last sender.Own (said.ShortData x) sent n list s e d = absurd (cc)
no_data own last sender.Own (said.Status x) sent n list s e d = absurd (cc)
no_data own last sender.Own (said.Answer a) sent n list s e d = absurd (cc)
no_data own last sender.Own (said.Control csbk) sent n list s e d = absurd (cc)
no_data own last sender.Own (said.Burst lone) sent n list s e d = absurd (cc)

-- Fewer silences than a script needs are no pause.
pub few_silences_are_no_pause : FewSilencesAreNoPause
few_silences_are_no_pause own g behind t next last later sent following list s f few w =
    few_behind own last t.sender t.transmission sent g (begins_with_data next) (before_behind own next)
    ((heard_by next.sender following, behind) ∷ list) s few
    (λ e d. no_data own later next.sender next.transmission following behind list f e d) w.1
