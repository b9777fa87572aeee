-- How the transmission of a call grows, frame by frame.
use Rattle.std.proofs.Common.{◌≡◌, ℕ, ◌+◌, ◌-◌, ◌<◌, ◌≤◌, ◌^◌, ◌↔◌, ◌||◌, ◌⊎◌, Bool, true, false, cond, not, List, [], ◌∷◌, ◌++◌}
use Rattle.std.proofs.Common.{length, map}
use Rattle.std.proofs.Common.{Option, Some, None, option_to_list, option_map, IsTrue, refl, sym, ap, ◌∙◌, subst, arith, inl, inr}
use Rattle.std.proofs.Common.{Contains, nat_lt}
use Rattle.std.specs.Option.{option_or}
use Rattle.dmr_link.specs.declared.full_lc.FullLc.{FullLc}
use Rattle.dmr_log.specs.Pieces.{AreFollowed, RepeatedFrame}
use Rattle.dmr_log.specs.Transmissions.{HasInCommon, IsStep, begun_in, belongs, call_with, ended_by, is_before_voice, is_burst}
use Rattle.dmr_log.specs.Transmissions.{is_terminated, plus_one, transmission_with, with}
use Rattle.dmr_log.specs.declared.checks.Checks.{Checks}
use Rattle.dmr_log.specs.declared.repeated.Repeated.{Repeated}
use Rattle.dmr_log.specs.declared.repeated.Repeated.TheVariants as repeated
use Rattle.dmr_log.specs.declared.transmission.Call.{Call}
use Rattle.dmr_log.specs.declared.transmission.CallStage.{CallStage}
use Rattle.dmr_log.specs.declared.transmission.CallStage.TheVariants.{Headers, Places, Terminated}
use Rattle.dmr_log.specs.declared.transmission.Ended.{Ended}
use Rattle.dmr_log.specs.declared.transmission.Packet.{Packet}
use Rattle.dmr_log.specs.declared.transmission.Span.{Span}
use Rattle.dmr_log.specs.declared.transmission.Subject.{Subject}
use Rattle.dmr_log.specs.declared.transmission.Subject.TheVariants as subject
use Rattle.dmr_log.specs.declared.transmission.Transmission.{Transmission as Entry}
use Rattle.dmr_log_laws.proofs.Shapes.{lc_told}

-- what frames repeat
abbrev pub repeats_of : List RepeatedFrame → List Repeated
repeats_of frames = map (λ (frame : RepeatedFrame). frame.0) frames

-- 1. Frames that are of a call.

-- These come in the order of a call that stands there.
abbrev pub InOrder : CallStage → List Repeated → Type 0
InOrder stage [] = Unit {0}
InOrder stage (repeated.CallHeader lc ∷ rs) = (stage ≡ Headers) × InOrder stage rs
InOrder stage (repeated.Place lc is_filled ∷ rs) = (is_terminated stage ≡ false) × InOrder Places rs
InOrder stage (repeated.Terminator lc ∷ rs) =
    ((is_terminated stage ≡ false) ⊎ (stage ≡ Terminated lc)) × InOrder (Terminated lc) rs
InOrder stage (r ∷ rs) = ⊥

or_true : (a : Bool) → (a || true) ≡ true
or_true true = refl
or_true false = refl

belongs_so : (c : Call) (r : Repeated) (rs : List Repeated) (same : Bool) → InOrder c.stage (r ∷ rs)
    → (IsTrue same ↔ HasInCommon (subject.Call c) r) → belongs same (subject.Call c) r ≡ true
belongs_so c repeated.Nothing rs same order so = absurd order
belongs_so c (repeated.CallHeader lc) rs same order so = ap is_before_voice order.0
belongs_so c (repeated.Place lc is_filled) rs same order so = ap not order.0
belongs_so c (repeated.Terminator lc) rs same (inl e, order) so = ap (λ (b : Bool). not b || same) e
belongs_so c (repeated.Terminator lc) rs same (inr e, order) so =
    ap (λ (b : Bool). not (is_terminated c.stage) || b) (so.1 e) ∙ or_true (not (is_terminated c.stage))
belongs_so c (repeated.DataHeader head) rs same order so = absurd order
belongs_so c (repeated.Block type) rs same order so = absurd order
belongs_so c (repeated.Control kind) rs same order so = absurd order

order_behind : (c : Call) (r : Repeated) (rs : List Repeated) → InOrder c.stage (r ∷ rs) → InOrder (call_with c r).stage rs
order_behind c repeated.Nothing rs order = absurd order
order_behind c (repeated.CallHeader lc) rs order = order.1
order_behind c (repeated.Place lc is_filled) rs order = order.1
order_behind c (repeated.Terminator lc) rs order = order.1
order_behind c (repeated.DataHeader head) rs order = absurd order
order_behind c (repeated.Block type) rs order = absurd order
order_behind c (repeated.Control kind) rs order = absurd order

-- a transmission of a call with these frames more
abbrev pub grown_call : Call → List Repeated → Call
grown_call c [] = c
grown_call c (r ∷ rs) = grown_call (call_with c r) rs

-- the entry of a call
abbrev pub call_entry : Span → Call → Entry
call_entry span c = record { span = span; subject = subject.Call c }

-- the same with its frames, each of which repeats a burst
pub record IsGrown (first count : ℕ) (c : Call) (t : Entry) : Type 0 where
  pub begins : t.span.first ≡ first
  pub frames : t.span.frames ≡ count
  pub bursts : t.span.bursts ≡ count
  pub tells : t.subject ≡ subject.Call c

one_more : (n : ℕ) → n < 2 ^ 32 - 1 → plus_one true n ≡ n + 1
one_more n below = omega arith

pair_true : {A B : Type 0} (b : Bool) (x y u : A) (v w z : B) → b ≡ true
    → ◌≡◌ {A = A × B} (x, v) (cond b (y, w) (u, z)) → (x ≡ y) × (v ≡ w)
pair_true {A = A} {B = B} true x y u v w z e p = (ap (λ (q : A × B). q.0) p, ap (λ (q : A × B). q.1) p)
pair_true {A = A} {B = B} false x y u v w z e p = cc

-- frames in order stay in one transmission, and nothing ends in them
pub record Stays (first count : ℕ) (c : Call) (more : List RepeatedFrame) (n : ℕ) (ended : List Entry) (last : Option Entry)
    : Type 0 where
  pub entry : Entry
  pub grown : IsGrown first count c entry
  pub followed : AreFollowed (Some entry) n more ended last

order_bursts : (stage : CallStage) (r : Repeated) (rs : List Repeated) → InOrder stage (r ∷ rs) → is_burst r ≡ true
order_bursts stage repeated.Nothing rs order = absurd order
order_bursts stage (repeated.CallHeader lc) rs order = refl
order_bursts stage (repeated.Place lc is_filled) rs order = refl
order_bursts stage (repeated.Terminator lc) rs order = refl
order_bursts stage (repeated.DataHeader head) rs order = absurd order
order_bursts stage (repeated.Block type) rs order = absurd order
order_bursts stage (repeated.Control kind) rs order = absurd order

-- frames in order grow a call
pub stays_by : (frames more : List RepeatedFrame) (first count n total at : ℕ) (span : Span) (c : Call) (ended : List Entry)
    (last : Option Entry) → span.first ≡ first → span.frames ≡ count → span.bursts ≡ count → total ≡ count + length frames
    → at ≡ n + length frames → total < 2 ^ 32 → InOrder c.stage (repeats_of frames)
    → AreFollowed (Some (call_entry span c)) n (frames ++ more) ended last
    → Stays first total (grown_call c (repeats_of frames)) more at ended last
stays_by [] more first count n total at span c ended last begins frames bursts sum place below order followed =
    let same : at ≡ n = omega (arith, place) in
    let all : total ≡ count = omega (arith, sum) in
    record {
      entry = call_entry span c;
      grown = record { begins = begins; frames = frames ∙ sym all; bursts = bursts ∙ sym all; tells = refl };
      followed = subst (λ (k : ℕ). AreFollowed (Some (call_entry span c)) k more ended last) (sym same) followed;
    }
stays_by (f ∷ fs) more first count n total at span c ended last begins frames bursts sum place below order
    (one, next, rest, (same, so, step), told, later) =
    let is = pair_true (belongs same (subject.Call c) f.0) one None
    (Some (record { transmission = call_entry span c; by = ended_by f.0 })) next
    (Some (transmission_with (call_entry span c) f.0 f.1)) (begun_in n f.0 f.1)
    (belongs_so c f.0 (repeats_of fs) same order so) step in
    let rest_is : ended ≡ rest =
    told ∙ ap (λ (x : Option Ended). option_to_list (option_map (λ (e : Ended). e.transmission) x) ++ rest) is.0 in
    let burst = order_bursts c.stage f.0 (repeats_of fs) order in
    let grown = (transmission_with (call_entry span c) f.0 f.1).span in
    let more_frames : grown.frames ≡ count + 1 =
    ap (plus_one true) frames ∙ one_more count (omega (arith, sum, below)) in
    let more_bursts : grown.bursts ≡ count + 1 =
    ap (λ (b : Bool). plus_one b span.bursts) burst ∙ ap (plus_one true) bursts ∙ one_more count (omega (arith, sum, below)) in
    subst (λ (l : List Entry). Stays first total (grown_call (call_with c f.0) (repeats_of fs)) more at l last) (sym rest_is)
    (stays_by fs more first (count + 1) (n + 1) total at grown (call_with c f.0) rest last begins more_frames more_bursts
    (omega (arith, sum)) (omega (arith, place)) below (order_behind c f.0 (repeats_of fs) order)
    (subst (λ (x : Option Entry). AreFollowed x (n + 1) (fs ++ more) rest last) is.1 later))

-- 2. Where no call is open.

-- it is no call
abbrev pub IsNoCallSubject : Subject → Type 0
IsNoCallSubject (subject.Call c) = ⊥
IsNoCallSubject (subject.Packet p) = Unit {0}
IsNoCallSubject (subject.Controls k) = Unit {0}

-- There is no entry, or one that is no call.
abbrev pub IsNoCall : Option Entry → Type 0
IsNoCall None = Unit {0}
IsNoCall (Some t) = IsNoCallSubject t.subject

none_begun : (n : ℕ) (checks : Checks) → IsNoCall (begun_in n repeated.Nothing checks)
none_begun n checks = tt

packet_goes_on : (b : Bool) (t : Entry) (p : Packet) (n : ℕ) (checks : Checks) (one : Option Ended) (next : Option Entry)
    → t.subject ≡ subject.Packet p
    → ◌≡◌ {A = Option Ended × Option Entry} (one, next) (cond b (None, Some (transmission_with t repeated.Nothing checks))
    (Some (record { transmission = t; by = ended_by repeated.Nothing }), begun_in n repeated.Nothing checks)) → IsNoCall next
packet_goes_on false t p n checks one next is step =
    subst IsNoCall (sym (ap (λ (q : Option Ended × Option Entry). q.1) step)) tt
packet_goes_on true t p n checks one next is step =
    subst IsNoCall (sym (ap (λ (q : Option Ended × Option Entry). q.1) step))
    (subst (λ (x : Subject). IsNoCall (Some (record {
      span = (transmission_with t repeated.Nothing checks).span;
      subject = with x repeated.Nothing;
    }))) (sym is) tt)

nothing_behind : (span : Span) (s : Subject) (n : ℕ) (checks : Checks) (one : Option Ended) (next : Option Entry)
    → IsStep (Some (record { span = span; subject = s })) n repeated.Nothing checks one next → IsNoCall next
nothing_behind span (subject.Call c) n checks one next (same, so, step) =
    subst IsNoCall (sym (ap (λ (q : Option Ended × Option Entry). q.1) step)) tt
nothing_behind span (subject.Packet p) n checks one next (same, so, step) =
    packet_goes_on (nat_lt 0 p.left) (record { span = span; subject = subject.Packet p }) p n checks one next refl step
nothing_behind span (subject.Controls k) n checks one next (same, so, step) =
    subst IsNoCall (sym (ap (λ (q : Option Ended × Option Entry). q.1) step)) tt

-- a frame that repeats nothing leaves no call open
pub nothing_ends : (current : Option Entry) (n : ℕ) (checks : Checks) (one : Option Ended) (next : Option Entry)
    → IsStep current n repeated.Nothing checks one next → IsNoCall next
nothing_ends None n checks one next step = subst IsNoCall (sym step.1) tt
nothing_ends (Some t) n checks one next step = nothing_behind t.span t.subject n checks one next step

-- a voice LC header or a place
abbrev pub BeginsCall : Repeated → Type 0
BeginsCall (repeated.CallHeader lc) = Unit {0}
BeginsCall (repeated.Place lc is_filled) = Unit {0}
BeginsCall r = ⊥

call_behind_other : (span : Span) (s : Subject) (n : ℕ) (r : Repeated) (checks : Checks) (one : Option Ended)
    (next : Option Entry) → IsNoCallSubject s → BeginsCall r
    → IsStep (Some (record { span = span; subject = s })) n r checks one next → next ≡ begun_in n r checks
call_behind_other span (subject.Call c) n r checks one next none begins step = absurd none
call_behind_other span (subject.Packet p) n (repeated.CallHeader lc) checks one next none begins (same, so, step) =
    ap (λ (q : Option Ended × Option Entry). q.1) step
call_behind_other span (subject.Packet p) n (repeated.Place lc f) checks one next none begins (same, so, step) =
    ap (λ (q : Option Ended × Option Entry). q.1) step
call_behind_other span (subject.Packet p) n r checks one next none begins step = absurd begins
call_behind_other span (subject.Controls k) n (repeated.CallHeader lc) checks one next none begins (same, so, step) =
    ap (λ (q : Option Ended × Option Entry). q.1) step
call_behind_other span (subject.Controls k) n (repeated.Place lc f) checks one next none begins (same, so, step) =
    ap (λ (q : Option Ended × Option Entry). q.1) step
call_behind_other span (subject.Controls k) n r checks one next none begins step = absurd begins

-- where no call is open, it begins one
pub call_begins : (current : Option Entry) (n : ℕ) (r : Repeated) (checks : Checks) (one : Option Ended) (next : Option Entry)
    → IsNoCall current → BeginsCall r → IsStep current n r checks one next → next ≡ begun_in n r checks
call_begins None n r checks one next none begins step = step.1
call_begins (Some t) n r checks one next none begins step =
    call_behind_other t.span t.subject n r checks one next none begins step

-- 3. Where a call ends.

-- no frame, or one that repeats nothing
abbrev pub IsQuiet : List RepeatedFrame → Type 0
IsQuiet [] = Unit {0}
IsQuiet (f ∷ fs) = f.0 ≡ repeated.Nothing

-- The first of a list is in it.
pub first_among : {X : Type 0} (x : X) (xs : List X) → Contains (x ∷ xs) x
first_among x xs = (0, omega arith, refl)

-- an open call is among what has ended or is open behind what is quiet
pub open_is_told : (span : Span) (c : Call) (fs : List RepeatedFrame) (n : ℕ) (ended : List Entry) (last : Option Entry)
    → IsQuiet fs → AreFollowed (Some (call_entry span c)) n fs ended last
    → Contains (ended ++ option_to_list last) (call_entry span c)
open_is_told span c [] n ended last quiet (none, same) =
    subst (λ (l : List Entry). Contains (l ++ option_to_list last) (call_entry span c)) (sym none)
    (subst (λ (x : Option Entry). Contains (option_to_list x) (call_entry span c)) (sym same) (first_among (call_entry span c) []))
open_is_told span c (f ∷ fs) n ended last quiet (one, next, rest, step, told, later) =
    let quiet_step = subst (λ (r : Repeated). IsStep (Some (call_entry span c)) n r f.1 one next) quiet step in
    let is : one ≡ Some (record { transmission = call_entry span c; by = ended_by repeated.Nothing }) =
    ap (λ (q : Option Ended × Option Entry). q.0) quiet_step.2 in
    let ended_is : ended ≡ call_entry span c ∷ rest =
    told ∙ ap (λ (x : Option Ended). option_to_list (option_map (λ (e : Ended). e.transmission) x) ++ rest) is in
    subst (λ (l : List Entry). Contains (l ++ option_to_list last) (call_entry span c)) (sym ended_is)
    (first_among (call_entry span c) (rest ++ option_to_list last))

-- 4. What a call has behind its frames.

-- how many of these are places, and how many of them are filled
abbrev pub places_in : List Repeated → ℕ
places_in [] = 0
places_in (repeated.Place lc is_filled ∷ rs) = 1 + places_in rs
places_in (r ∷ rs) = places_in rs

-- how many places were filled
abbrev pub filled_in : List Repeated → ℕ
filled_in [] = 0
filled_in (repeated.Place lc is_filled ∷ rs) = cond is_filled 1 0 + filled_in rs
filled_in (r ∷ rs) = filled_in rs

-- the first link control that these tell
abbrev pub first_told : List Repeated → Option FullLc
first_told [] = None
first_told (r ∷ rs) = option_or (lc_told r) (first_told rs)

-- where a call stands behind these
abbrev pub stage_behind : CallStage → List Repeated → CallStage
stage_behind stage [] = stage
stage_behind stage (repeated.Place lc is_filled ∷ rs) = stage_behind Places rs
stage_behind stage (repeated.Terminator lc ∷ rs) = stage_behind (Terminated lc) rs
stage_behind stage (r ∷ rs) = stage_behind stage rs

or_assoc : (a b c : Option FullLc) → option_or (option_or a b) c ≡ option_or a (option_or b c)
or_assoc None b c = refl
or_assoc (Some x) b c = refl

or_none : (a : Option FullLc) → option_or a None ≡ a
or_none None = refl
or_none (Some x) = refl

one_if_more : (b : Bool) (n : ℕ) → n < 2 ^ 32 - 1 → plus_one b n ≡ n + cond b 1 0
one_if_more true n below = omega arith
one_if_more false n below = omega arith

one_at_most : (b : Bool) → cond b 1 0 ≤ 1
one_at_most true = omega arith
one_at_most false = omega arith

-- a call behind its frames: where it stands, what its link control is, and how many places it has
pub record IsCallBehind (c : Call) (rs : List Repeated) (end : Call) : Type 0 where
  pub stage : end.stage ≡ stage_behind c.stage rs
  pub link_control : end.link_control ≡ option_or c.link_control (first_told rs)
  pub late : end.is_late ≡ c.is_late
  pub places : end.places ≡ c.places + places_in rs
  pub filled : end.filled ≡ c.filled + filled_in rs

-- it is so behind any frames that are in order
pub call_behind : (c : Call) (rs : List Repeated) → c.places + length rs < 2 ^ 32 → c.filled + length rs < 2 ^ 32
    → InOrder c.stage rs → IsCallBehind c rs (grown_call c rs)
call_behind c [] few few' order = record {
  stage = refl;
  link_control = sym (or_none c.link_control);
  late = refl;
  places = omega arith;
  filled = omega arith;
}
call_behind c (repeated.Nothing ∷ rs) few few' order = absurd order
call_behind c (repeated.CallHeader lc ∷ rs) few few' order =
    let more = call_behind (call_with c (repeated.CallHeader lc)) rs (omega (arith, few)) (omega (arith, few')) order.1 in
    record {
      stage = more.stage;
      link_control = more.link_control ∙ or_assoc c.link_control lc (first_told rs);
      late = more.late;
      places = more.places;
      filled = more.filled;
    }
call_behind c (repeated.Place lc f ∷ rs) few few' order =
    let p = one_if_more true c.places (omega (arith, few)) in
    let q = one_if_more f c.filled (omega (arith, few')) in
    let r = one_at_most f in
    let more = call_behind (call_with c (repeated.Place lc f)) rs (omega (arith, few, p)) (omega (arith, few', q, r)) order.1 in
    let places = more.places in
    let filled = more.filled in
    record {
      stage = more.stage;
      link_control = more.link_control ∙ or_assoc c.link_control lc (first_told rs);
      late = more.late;
      places = omega (arith, p, places);
      filled = omega (arith, q, filled);
    }
call_behind c (repeated.Terminator lc ∷ rs) few few' order =
    let more = call_behind (call_with c (repeated.Terminator lc)) rs (omega (arith, few)) (omega (arith, few')) order.1 in
    record {
      stage = more.stage;
      link_control = more.link_control ∙ or_assoc c.link_control lc (first_told rs);
      late = more.late;
      places = more.places;
      filled = more.filled;
    }
call_behind c (repeated.DataHeader head ∷ rs) few few' order = absurd order
call_behind c (repeated.Block type ∷ rs) few few' order = absurd order
call_behind c (repeated.Control kind ∷ rs) few few' order = absurd order
