-- Each call of what was sent in a slot is told.
use Rattle.std.proofs.Common.{◌≡◌, ℕ, zero, suc, ◌+◌, ◌-◌, ◌<◌, ◌≤◌, ◌^◌, ◌⊎◌, inl, inr, Bool, List}
use Rattle.std.proofs.Common.{[], ◌∷◌}
use Rattle.std.proofs.Common.{◌++◌, length, flat_map, replicate, Option, Some, None, option_to_list}
use Rattle.std.proofs.Common.{option_map}
use Rattle.std.proofs.Common.{refl, sym, ap, ◌∙◌, subst, arith, append_assoc, Contains, IfSome}
use Rattle.std.proofs.lemmas.List.{length-append, length-map}
use Rattle.std.proofs.lemmas.List.Elements.{Contains-append_right}
use Rattle.std.specs.List.{AllZip}
use Rattle.dmr_hearing.specs.Slots.{Silent}
use Rattle.dmr_log.specs.Pieces.{AreFollowed, RepeatedFrame}
use Rattle.dmr_log.specs.Transmissions.{IsStep, begun_in, begun_subject, in_frame, one_frame}
use Rattle.dmr_log.specs.declared.checks.Checks.{Checks}
use Rattle.dmr_log.specs.declared.repeated.Repeated.{Repeated}
use Rattle.dmr_log.specs.declared.repeated.Repeated.TheVariants as repeated
use Rattle.dmr_log.specs.declared.transmission.Call.{Call}
use Rattle.dmr_log.specs.declared.transmission.Ended.{Ended}
use Rattle.dmr_log.specs.declared.transmission.Subject.{Subject}
use Rattle.dmr_log.specs.declared.transmission.Subject.TheVariants as subject
use Rattle.dmr_log.specs.declared.transmission.Transmission.{Transmission as Entry}
use Rattle.dmr_log_laws.proofs.Decided.{AreShown}
use Rattle.dmr_log_laws.proofs.Growing.{InOrder, IsCallBehind, IsNoCall, IsQuiet, call_begins, call_behind, call_entry}
use Rattle.dmr_log_laws.proofs.Growing.{grown_call, nothing_ends, open_is_told, repeats_of, stays_by}
use Rattle.dmr_log_laws.proofs.Shapes.{AreShownAs, IsShownAs, unsaid_shown}
use Rattle.dmr_log_laws.proofs.CallShapes.{EndsTrue, IsCallShape, IsLoud, shape_of}
use Rattle.dmr_log_laws.specs.CallEntries.{AreCallsTold, TellsCall, call_due, slots_before}
use Rattle.dmr_voice.specs.CallMeaning.{Cell, Terminated, Silenced, Transmission, VoiceCall, HeadersAlone, LateCall, Controls}
use Rattle.dmr_voice.specs.CallMeaning.{DataTry, ForeignParts, cells, unsaid}
use Rattle.dmr_voice.specs.WellFormed.{IsPause, IsTransmission, IsWellFormed}

-- 1. Frames in two parts.

-- frames followed one another up to one of them, and from it on
pub record AreFollowedInTwo (current : Option Entry) (n : ℕ) (front rest : List RepeatedFrame) (ended : List Entry)
    (last : Option Entry) : Type 0 where
  pub before : List Entry
  pub after : List Entry
  pub going : Option Entry
  pub first : AreFollowed current n front before going
  pub second : AreFollowed going (n + length front) rest after last
  pub all : ended ≡ before ++ after

-- What is followed over a front and a rest is followed in two.
pub in_two : (current : Option Entry) (n : ℕ) (front rest : List RepeatedFrame) (ended : List Entry) (last : Option Entry)
    → AreFollowed current n (front ++ rest) ended last → AreFollowedInTwo current n front rest ended last
in_two current n [] rest ended last followed =
    let here : n + 0 ≡ n = omega arith in
    record {
      before = [];
      after = ended;
      going = current;
      first = (refl, refl);
      second = subst (λ (k : ℕ). AreFollowed current k rest ended last) (sym here) followed;
      all = refl;
    }
in_two current n (f ∷ front) rest ended last (one, next, more, step, told, later) =
    let two = in_two next (n + 1) front rest more last later in
    let here : n + 1 + length front ≡ n + length (f ∷ front) = omega arith in
    let head = option_to_list (option_map (λ (e : Ended). e.transmission) one) in
    record {
      before = head ++ two.before;
      after = two.after;
      going = two.going;
      first = (one, next, two.before, step, refl, two.first);
      second = subst (λ (k : ℕ). AreFollowed two.going k rest two.after last) here two.second;
      all = told ∙ ap (λ (l : List Entry). head ++ l) two.all ∙ sym (append_assoc head two.before two.after);
    }

-- frames that show cells and those behind them, in two
pub record AreShownInTwo (colour : ℕ) (cs ds : List Cell) (frames : List RepeatedFrame) : Type 0 where
  pub front : List RepeatedFrame
  pub rest : List RepeatedFrame
  pub split : frames ≡ front ++ rest
  pub shown : AreShown colour cs (repeats_of front)
  pub behind : AreShown colour ds (repeats_of rest)
  pub whole : (length front ≡ length cs) ⊎ (rest ≡ [])

-- where no frame is left, all cells are silent, of both lists
pub none_behind : (colour : ℕ) (cs ds : List Cell) → AreShown colour (cs ++ ds) [] → AreShown colour cs [] × AreShown colour ds []
none_behind colour [] ds shown = (tt, shown)
none_behind colour (c ∷ cs) ds shown = let more = none_behind colour cs ds shown.1 in ((shown.0, more.0), more.1)

one_longer : (f : RepeatedFrame) (front : List RepeatedFrame) (c : Cell) (cs : List Cell) (rest : List RepeatedFrame)
    → (length front ≡ length cs) ⊎ (rest ≡ []) → (length (f ∷ front) ≡ length (c ∷ cs)) ⊎ (rest ≡ [])
one_longer f front c cs rest (inl e) = inl (omega (arith, e))
one_longer f front c cs rest (inr e) = inr e

-- frames that show two lists of cells show one behind the other
pub shown_in_two : (colour : ℕ) (cs ds : List Cell) (frames : List RepeatedFrame) → AreShown colour (cs ++ ds) (repeats_of frames)
    → AreShownInTwo colour cs ds frames
shown_in_two colour [] ds frames shown =
    record { front = []; rest = frames; split = refl; shown = tt; behind = shown; whole = inl refl }
shown_in_two colour (c ∷ cs) ds [] shown =
    let none = none_behind colour (c ∷ cs) ds shown in
    record { front = []; rest = []; split = refl; shown = none.0; behind = none.1; whole = inr refl }
shown_in_two colour (c ∷ cs) ds (f ∷ frames) shown =
    let more = shown_in_two colour cs ds frames shown.1 in
    record {
      front = f ∷ more.front;
      rest = more.rest;
      split = ap (λ (l : List RepeatedFrame). f ∷ l) more.split;
      shown = (shown.0, more.shown);
      behind = more.behind;
      whole = one_longer f more.front c cs more.rest more.whole;
    }

-- 2. Cells that are shown whole.

-- cells that end with one that is there are not all silent
pub not_silent : (colour : ℕ) (cs ds : List Cell) (bs : List Bool) → AllZip IsLoud cs bs → EndsTrue bs
    → AreShown colour (cs ++ ds) [] → ⊥
not_silent colour [] ds [] loud ends shown = ends
not_silent colour [] ds (b ∷ bs) loud ends shown = absurd loud
not_silent colour (c ∷ cs) ds [] loud ends shown = absurd loud
not_silent colour (c ∷ []) ds (b ∷ []) loud ends shown = let e = loud.0 shown.0 in cc
not_silent colour (c ∷ []) ds (b ∷ d ∷ bs) loud ends shown = absurd loud.1
not_silent colour (c ∷ x ∷ cs) ds (b ∷ []) loud ends shown = absurd loud.1
not_silent colour (c ∷ x ∷ cs) ds (b ∷ d ∷ bs) loud ends shown = not_silent colour (x ∷ cs) ds (d ∷ bs) loud.1 ends shown.1

-- frames that show all of some cells, and those behind them
pub record AreWhole (colour : ℕ) (es : List Repeated) (ds : List Cell) (frames : List RepeatedFrame) : Type 0 where
  pub front : List RepeatedFrame
  pub rest : List RepeatedFrame
  pub split : frames ≡ front ++ rest
  pub repeats : repeats_of front ≡ es
  pub behind : AreShown colour ds (repeats_of rest)

cons_repeats : (a b : Repeated) (xs bs : List Repeated) → a ≡ b → xs ≡ bs → a ∷ xs ≡ b ∷ bs
cons_repeats a b xs bs p q = cc

ends_behind : (c : Cell) (cs : List Cell) (b : Bool) (bs : List Bool) → AllZip IsLoud cs bs → (c ∷ cs ≡ []) ⊎ EndsTrue (b ∷ bs)
    → (cs ≡ []) ⊎ EndsTrue bs
ends_behind c cs b bs loud (inl none) = cc
ends_behind c [] b bs loud (inr ends) = inl refl
ends_behind c (x ∷ cs) b [] loud (inr ends) = absurd loud
ends_behind c (x ∷ cs) b (y ∷ bs) loud (inr ends) = inr ends

whole_behind : (colour : ℕ) (cs ds : List Cell) (es : List Repeated) (bs : List Bool) (frames : List RepeatedFrame)
    → AreShownAs colour cs es → AllZip IsLoud cs bs → (cs ≡ []) ⊎ EndsTrue bs → AreShown colour (cs ++ ds) (repeats_of frames)
    → AreWhole colour es ds frames
whole_behind colour [] ds [] bs frames xs loud ends shown =
    record { front = []; rest = frames; split = refl; repeats = refl; behind = shown }
whole_behind colour [] ds (e ∷ es) bs frames xs loud ends shown = absurd xs
whole_behind colour (c ∷ cs) ds [] bs frames xs loud ends shown = absurd xs
whole_behind colour (c ∷ cs) ds (e ∷ es) [] frames xs loud ends shown = absurd loud
whole_behind colour (c ∷ cs) ds (e ∷ es) (b ∷ bs) [] xs loud (inl none) shown = cc
whole_behind colour (c ∷ cs) ds (e ∷ es) (b ∷ bs) [] xs loud (inr ends) shown =
    absurd (not_silent colour (c ∷ cs) ds (b ∷ bs) loud ends shown)
whole_behind colour (c ∷ cs) ds (e ∷ es) (b ∷ bs) (f ∷ frames) xs loud ends shown =
    let more = whole_behind colour cs ds es bs frames xs.1 loud.1 (ends_behind c cs b bs loud.1 ends) shown.1 in
    record {
      front = f ∷ more.front;
      rest = more.rest;
      split = ap (λ (l : List RepeatedFrame). f ∷ l) more.split;
      repeats = cons_repeats f.0 e (repeats_of more.front) es (xs.0.shown f.0 shown.0) more.repeats;
      behind = more.behind;
    }

-- 3. Frames that repeat nothing.

abbrev pub AreNothing : List RepeatedFrame → Type 0
AreNothing [] = Unit {0}
AreNothing (f ∷ fs) = (f.0 ≡ repeated.Nothing) × AreNothing fs

-- where no call is open, none is behind frames that repeat nothing
pub stays_closed : (current : Option Entry) (n : ℕ) (frames : List RepeatedFrame) (ended : List Entry) (last : Option Entry)
    → IsNoCall current → AreNothing frames → AreFollowed current n frames ended last → IsNoCall last
stays_closed current n [] ended last closed nothing (none, same) = subst IsNoCall (sym same) closed
stays_closed current n (f ∷ fs) ended last closed nothing (one, next, rest, step, told, later) =
    stays_closed next (n + 1) fs rest last
    (nothing_ends current n f.1 one next (subst (λ (r : Repeated). IsStep current n r f.1 one next) nothing.0 step)) nothing.1
    later

is_closed : (current : Option Entry) (n : ℕ) (frames : List RepeatedFrame) (ended : List Entry) (last : Option Entry)
    → 1 ≤ length frames → AreNothing frames → AreFollowed current n frames ended last → IsNoCall last
is_closed current n [] ended last some nothing followed = absurd (omega (arith, some))
is_closed current n (f ∷ fs) ended last some nothing (one, next, rest, step, told, later) =
    stays_closed next (n + 1) fs rest last
    (nothing_ends current n f.1 one next (subst (λ (r : Repeated). IsStep current n r f.1 one next) nothing.0 step)) nothing.1
    later

-- what shows silences repeats nothing
pub pause_shown : (colour k : ℕ) (frames : List RepeatedFrame) → AreShown colour (replicate k (unsaid Silent)) (repeats_of frames)
    → AreNothing frames
pause_shown colour zero [] shown = tt
pause_shown colour zero (f ∷ fs) shown = absurd shown
pause_shown colour (suc k) [] shown = tt
pause_shown colour (suc k) (f ∷ fs) shown = (unsaid_shown colour Silent f.0 shown.0, pause_shown colour k fs shown.1)

nothing_told : (k : ℕ) (frames : List RepeatedFrame) → repeats_of frames ≡ replicate k repeated.Nothing → AreNothing frames
nothing_told zero [] e = tt
nothing_told zero (f ∷ fs) e = cc
nothing_told (suc k) [] e = tt
nothing_told (suc k) (f ∷ fs) e =
    let head : f.0 ≡ repeated.Nothing = cc in
    let tail : repeats_of fs ≡ replicate k repeated.Nothing = cc in (head, nothing_told k fs tail)

-- 4. Lists in two.

zip_long : {A B : Type 0} (R : A → B → Type 0) (xs : List A) (ys : List B) → AllZip R xs ys → length xs ≡ length ys
zip_long R [] [] p = refl
zip_long R [] (y ∷ ys) p = absurd p
zip_long R (x ∷ xs) [] p = absurd p
zip_long R (x ∷ xs) (y ∷ ys) p = let more = zip_long R xs ys p.1 in omega (arith, more)

-- so many are so many
pub replicate_long : {A : Type 0} (n : ℕ) (x : A) → length (replicate n x) ≡ n
replicate_long zero x = refl
replicate_long (suc n) x = let more = replicate_long n x in omega (arith, more)

-- frames that repeat two lists, in two
record AreTwo (frames : List RepeatedFrame) (xs bs : List Repeated) : Type 0 where
  front : List RepeatedFrame
  rest : List RepeatedFrame
  split : frames ≡ front ++ rest
  first : repeats_of front ≡ xs
  second : repeats_of rest ≡ bs

two_of : (frames : List RepeatedFrame) (xs bs : List Repeated) → repeats_of frames ≡ xs ++ bs → AreTwo frames xs bs
two_of frames [] bs e = record { front = []; rest = frames; split = refl; first = refl; second = e }
two_of [] (a ∷ xs) bs e = cc
two_of (f ∷ fs) (a ∷ xs) bs e =
    let head : f.0 ≡ a = cc in
    let tail : repeats_of fs ≡ xs ++ bs = cc in
    let more = two_of fs xs bs tail in
    record {
      front = f ∷ more.front;
      rest = more.rest;
      split = ap (λ (l : List RepeatedFrame). f ∷ l) more.split;
      first = cons_repeats f.0 a (repeats_of more.front) xs head more.first;
      second = more.second;
    }

-- 5. One transmission.

-- frames went on over a transmission, and what is due of it is told
record IsPassedOver (colour n : ℕ) (t : Transmission) (due : Option Call) (ds : List Cell) (ended : List Entry)
    (last : Option Entry) : Type 0 where
  tells : IfSome due (λ call. TellsCall (ended ++ option_to_list last) (n + slots_before t)
      (length (cells colour t) - slots_before t) call)
  rest : List RepeatedFrame
  before : List Entry
  after : List Entry
  going : Option Entry
  place : ℕ
  behind : AreShown colour ds (repeats_of rest)
  followed : AreFollowed going place rest after last
  all : ended ≡ before ++ after
  whole : (place ≡ n + length (cells colour t)) ⊎ (rest ≡ [])
  few : place + length rest < 2 ^ 32

-- what shows a silence first repeats nothing first
pub quiet_behind : (colour : ℕ) (ds : List Cell) (frames : List RepeatedFrame)
    → AreShown colour (unsaid Silent ∷ ds) (repeats_of frames) → IsQuiet frames
quiet_behind colour ds [] shown = tt
quiet_behind colour ds (f ∷ fs) shown = unsaid_shown colour Silent f.0 shown.0

-- a call is open behind its first frame
begun_so : (n : ℕ) (r : Repeated) (checks : Checks) (c : Call) → begun_subject r ≡ Some (subject.Call c)
    → begun_in n r checks ≡ Some (call_entry (one_frame n checks) c)
begun_so n r checks c e = ap (in_frame n checks) e

-- the frames of a call, from its first
record IsOneCall (first count : ℕ) (call : Call) (rest : List RepeatedFrame) (at : ℕ) (ended : List Entry) (last : Option Entry)
    : Type 0 where
  before : List Entry
  after : List Entry
  going : Option Entry
  followed : AreFollowed going at rest after last
  all : ended ≡ before ++ after
  tells : TellsCall (ended ++ option_to_list last) first count call

one_call : (colour : ℕ) (t : Transmission) (call : Call) (shape : IsCallShape colour t call) (current : Option Entry) (m at : ℕ)
    (f : RepeatedFrame) (fs rest : List RepeatedFrame) (ended : List Entry) (last : Option Entry) → IsNoCall current
    → f.0 ≡ shape.begin → repeats_of fs ≡ shape.more → IsQuiet rest → at ≡ m + 1 + length fs → at < 2 ^ 32
    → AreFollowed current m (f ∷ (fs ++ rest)) ended last
    → IsOneCall m (1 + length fs) call rest at ended last
one_call colour t call shape current m at f fs rest ended last none is are quiet place below
    (one, next, more, step, told, later) =
    let c = shape.first in
    let step_is = subst (λ (r : Repeated). IsStep current m r f.1 one next) is step in
    let begun : next ≡ Some (call_entry (one_frame m f.1) c) =
    call_begins current m shape.begin f.1 one next none shape.begins step_is ∙ begun_so m shape.begin f.1 c shape.begun in
    let order = subst (λ (l : List Repeated). InOrder c.stage l) (sym are) shape.order in
    let stay = stays_by fs rest m 1 (m + 1) (1 + length fs) at (one_frame m f.1) c more last refl refl refl refl place
    (omega (arith, place, below)) order
    (subst (λ (x : Option Entry). AreFollowed x (m + 1) (fs ++ rest) more last) begun later) in
    let end = grown_call c (repeats_of fs) in
    let long = length-map fs (λ (g : RepeatedFrame). g.0) in
    let few = shape.few.0 in
    let few_filled = shape.few.1 in
    let so = call_behind c (repeats_of fs) (omega (arith, few, long, place, below)) (omega (arith, few_filled, long, place, below))
    order in
    let call_is : end ≡ call = shape.behind end (subst (λ (l : List Repeated). IsCallBehind c l end) are so) in
    let entry_is : stay.entry ≡ call_entry stay.entry.span end =
    ap (λ (x : Subject). let e : Entry = record { span = stay.entry.span; subject = x } in e) stay.grown.tells in
    let among = open_is_told stay.entry.span end rest at more last quiet
    (subst (λ (x : Entry). AreFollowed (Some x) at rest more last) entry_is stay.followed) in
    let head = option_to_list (option_map (λ (e : Ended). e.transmission) one) in
    let all : ended ++ option_to_list last ≡ head ++ (more ++ option_to_list last) =
    ap (λ (l : List Entry). l ++ option_to_list last) told ∙ append_assoc head more (option_to_list last) in
    record {
      before = head;
      after = more;
      going = Some stay.entry;
      followed = stay.followed;
      all = told;
      tells = record {
        entry = stay.entry;
        among = subst (λ (l : List Entry). Contains l stay.entry) (sym all)
            (Contains-append_right head (more ++ option_to_list last) stay.entry
            (subst (λ (x : Entry). Contains (more ++ option_to_list last) x) (sym entry_is) among));
        begins = stay.grown.begins;
        frames = stay.grown.frames;
        bursts = stay.grown.bursts;
        tells = stay.grown.tells ∙ ap (λ (x : Call). subject.Call x) call_is;
      };
    }

two_are_all : (before between after ended : List Entry) (last : Option Entry) → ended ≡ before ++ (between ++ after)
    → ended ≡ (before ++ between) ++ after
two_are_all before between after ended last e = e ∙ sym (append_assoc before between after)

more_told : (before es : List Entry) (first count : ℕ) (call : Call) → TellsCall es first count call
    → TellsCall (before ++ es) first count call
more_told before es first count call t = record {
  entry = t.entry;
  among = Contains-append_right before es t.entry t.among;
  begins = t.begins;
  frames = t.frames;
  bursts = t.bursts;
  tells = t.tells;
}

call_passed : (colour n : ℕ) (t : Transmission) (call : Call) (shape : IsCallShape colour t call) (ds : List Cell)
    (current : Option Entry) (quiet body rest : List RepeatedFrame) (ended : List Entry) (last : Option Entry)
    → IsNoCall current → repeats_of quiet ≡ replicate (slots_before t) repeated.Nothing
    → repeats_of body ≡ shape.begin ∷ shape.more → AreShown colour (unsaid Silent ∷ ds) (repeats_of rest)
    → n + length (quiet ++ (body ++ rest)) < 2 ^ 32 → AreFollowed current n (quiet ++ (body ++ rest)) ended last
    → IsPassedOver colour n t (Some call) (unsaid Silent ∷ ds) ended last
call_passed colour n t call shape ds current quiet [] rest ended last none nothing are behind below followed = cc
call_passed colour n t call shape ds current quiet (f ∷ fs) rest ended last none nothing are behind below followed =
    let two = in_two current n quiet (f ∷ (fs ++ rest)) ended last followed in
    let closed = stays_closed current n quiet two.before two.going none (nothing_told (slots_before t) quiet nothing) two.first in
    let head : f.0 ≡ shape.begin = cc in
    let tail : repeats_of fs ≡ shape.more = cc in
    let long_quiet : length quiet ≡ slots_before t =
    sym (length-map quiet (λ (g : RepeatedFrame). g.0)) ∙ ap length nothing ∙ replicate_long (slots_before t) repeated.Nothing in
    let long_fs : length fs ≡ length shape.more = sym (length-map fs (λ (g : RepeatedFrame). g.0)) ∙ ap length tail in
    let all_long = length-append quiet (f ∷ (fs ++ rest)) in
    let rest_long = length-append fs rest in
    let cells_long : length (cells colour t) ≡ slots_before t + (1 + length fs) =
    zip_long (IsShownAs colour) (cells colour t) _ shape.shown
    ∙ length-append (replicate (slots_before t) repeated.Nothing) (shape.begin ∷ shape.more)
    ∙ omega (arith, long_fs, replicate_long (slots_before t) repeated.Nothing) in
    let at = n + length quiet + 1 + length fs in
    let one = one_call colour t call shape two.going (n + length quiet) at f fs rest two.after last closed head tail
    (quiet_behind colour ds rest behind) refl (omega (arith, below, all_long, rest_long)) two.second in
    let lifted = more_told two.before (two.after ++ option_to_list last) (n + length quiet) (1 + length fs) call one.tells in
    let all : two.before ++ (two.after ++ option_to_list last) ≡ ended ++ option_to_list last =
    sym (append_assoc two.before two.after (option_to_list last))
    ∙ ap (λ (l : List Entry). l ++ option_to_list last) (sym two.all) in
    let place : n + length quiet ≡ n + slots_before t = omega (arith, long_quiet) in
    let count : 1 + length fs ≡ length (cells colour t) - slots_before t = omega (arith, cells_long) in
    record {
      tells = subst (λ (k : ℕ). TellsCall (ended ++ option_to_list last) (n + slots_before t) k call) count
          (subst (λ (k : ℕ). TellsCall (ended ++ option_to_list last) k (1 + length fs) call) place
          (subst (λ (l : List Entry). TellsCall l (n + length quiet) (1 + length fs) call) all lifted));
      rest = rest;
      before = two.before ++ one.before;
      after = one.after;
      going = one.going;
      place = at;
      behind = behind;
      followed = one.followed;
      all = two_are_all two.before one.before one.after ended last (two.all ∙ ap (λ (l : List Entry). two.before ++ l) one.all);
      whole = inl (omega (arith, cells_long, long_quiet));
      few = omega (arith, below, all_long, rest_long);
    }

whole_place : (n a b : ℕ) (rest : List RepeatedFrame) → (a ≡ b) ⊎ (rest ≡ []) → (n + a ≡ n + b) ⊎ (rest ≡ [])
whole_place n a b rest (inl e) = inl (omega (arith, e))
whole_place n a b rest (inr e) = inr e

one_transmission : (colour n : ℕ) (t : Transmission) (due : Option Call) → IfSome due (λ call. IsCallShape colour t call)
    → (ds : List Cell) (frames : List RepeatedFrame) (current : Option Entry) (ended : List Entry) (last : Option Entry)
    → AreShown colour (cells colour t ++ unsaid Silent ∷ ds) (repeats_of frames) → IsNoCall current
    → n + length frames < 2 ^ 32 → AreFollowed current n frames ended last
    → IsPassedOver colour n t due (unsaid Silent ∷ ds) ended last
one_transmission colour n t None shape ds frames current ended last shown none below followed =
    let part = shown_in_two colour (cells colour t) (unsaid Silent ∷ ds) frames shown in
    let two = in_two current n part.front part.rest ended last
    (subst (λ (l : List RepeatedFrame). AreFollowed current n l ended last) part.split followed) in
    let long : length frames ≡ length part.front + length part.rest =
    ap length part.split ∙ length-append part.front part.rest in
    record {
      tells = tt;
      rest = part.rest;
      before = two.before;
      after = two.after;
      going = two.going;
      place = n + length part.front;
      behind = part.behind;
      followed = two.second;
      all = two.all;
      whole = whole_place n (length part.front) (length (cells colour t)) part.rest part.whole;
      few = omega (arith, below, long);
    }
one_transmission colour n t (Some call) shape ds frames current ended last shown none below followed =
    let part = whole_behind colour (cells colour t) (unsaid Silent ∷ ds) _ shape.louds frames shape.shown shape.loud
    (inr shape.ends) shown in
    let two = two_of part.front (replicate (slots_before t) repeated.Nothing) (shape.begin ∷ shape.more) part.repeats in
    let split : frames ≡ two.front ++ (two.rest ++ part.rest) =
    part.split ∙ ap (λ (l : List RepeatedFrame). l ++ part.rest) two.split ∙ append_assoc two.front two.rest part.rest in
    call_passed colour n t call shape ds current two.front two.rest part.rest ended last none two.first two.second part.behind
    (subst (λ (l : List RepeatedFrame). n + length l < 2 ^ 32) split below)
    (subst (λ (l : List RepeatedFrame). AreFollowed current n l ended last) split followed)

-- 6. All transmissions.

-- what a slot sends from a transmission on
abbrev pub sent_from : ℕ → List (Transmission × ℕ) → List Cell
sent_from colour ts = flat_map (λ (t : Transmission × ℕ). cells colour t.0 ++ replicate t.1 (unsaid Silent)) ts

no_shape : (colour : ℕ) (t : Transmission) (due : Option Call) (ds : List Cell) (first count : ℕ) (es : List Entry)
    → IfSome due (λ call. IsCallShape colour t call) → AreShown colour (cells colour t ++ ds) []
    → IfSome due (λ call. TellsCall es first count call)
no_shape colour t None ds first count es shape shown = tt
no_shape colour t (Some call) ds first count es shape shown =
    absurd (not_silent colour (cells colour t) ds shape.louds shape.loud shape.ends shown)

-- where no frame is left, no call is due
pub none_left : (colour n : ℕ) (ts : List (Transmission × ℕ)) (es : List Entry) → IsWellFormed colour ts
    → AreShown colour (sent_from colour ts) [] → AreCallsTold colour n ts es
none_left colour n [] es well shown = tt
none_left colour n (t ∷ ts) es well shown =
    let parts = none_behind colour (cells colour t.0 ++ replicate t.1 (unsaid Silent)) (sent_from colour ts) shown in (
      no_shape colour t.0 (call_due colour t.0) (replicate t.1 (unsaid Silent)) _ _ es (shape_of colour t.0 well.0) parts.0,
      none_left colour (n + length (cells colour t.0) + t.1) ts es well.2 parts.1,
    )

more_due : (due : Option Call) (before es : List Entry) (first count : ℕ) → IfSome due (λ call. TellsCall es first count call)
    → IfSome due (λ call. TellsCall (before ++ es) first count call)
more_due None before es first count told = tt
more_due (Some call) before es first count told = more_told before es first count call told

-- calls among entries are so among more
pub more_calls : (colour n : ℕ) (ts : List (Transmission × ℕ)) (before es : List Entry) → AreCallsTold colour n ts es
    → AreCallsTold colour n ts (before ++ es)
more_calls colour n [] before es told = tt
more_calls colour n (t ∷ ts) before es told = (
  more_due (call_due colour t.0) before es (n + slots_before t.0) (length (cells colour t.0) - slots_before t.0) told.0,
  more_calls colour (n + length (cells colour t.0) + t.1) ts before es told.1,
)

-- the calls of transmissions are told, wherever they begin
AllTold : ℕ → List (Transmission × ℕ) → Type 0
AllTold colour ts =
    (n : ℕ) (frames : List RepeatedFrame) (current : Option Entry) (ended : List Entry) (last : Option Entry)
    → AreShown colour (sent_from colour ts) (repeats_of frames) → IsNoCall current → n + length frames < 2 ^ 32
    → AreFollowed current n frames ended last → AreCallsTold colour n ts (ended ++ option_to_list last)

after_pause : (colour n k : ℕ) (ts : List (Transmission × ℕ)) (t : Transmission) (ended : List Entry) (last : Option Entry)
    → IsWellFormed colour ts → AllTold colour ts → (rest : List RepeatedFrame) (before after : List Entry) (going : Option Entry)
    (place : ℕ) → AreFollowed going place rest after last → ended ≡ before ++ after
    → place ≡ n + length (cells colour t) → place + length rest < 2 ^ 32
    → (front more : List RepeatedFrame) → rest ≡ front ++ more
    → AreShown colour (replicate (suc k) (unsaid Silent)) (repeats_of front)
    → AreShown colour (sent_from colour ts) (repeats_of more)
    → (length front ≡ length (replicate (suc k) (unsaid Silent))) ⊎ (more ≡ [])
    → AreCallsTold colour (n + length (cells colour t) + suc k) ts (ended ++ option_to_list last)
unfolding AllTold
after_pause colour n k ts t ended last well all rest before after going place followed is at few front more split shown behind
    (inr none) =
    none_left colour _ ts _ well
    (subst (λ (l : List RepeatedFrame). AreShown colour (sent_from colour ts) (repeats_of l)) none behind)
after_pause colour n k ts t ended last well all rest before after going place followed is at few front more split shown behind
    (inl whole) =
    let long : length front ≡ suc k = whole ∙ replicate_long (suc k) (unsaid Silent) in
    let two = in_two going place front more after last
    (subst (λ (l : List RepeatedFrame). AreFollowed going place l after last) split followed) in
    let closed = is_closed going place front two.before two.going (omega (arith, long)) (pause_shown colour (suc k) front shown)
    two.first in
    let longer : length rest ≡ length front + length more = ap length split ∙ length-append front more in
    let told = all (place + length front) more two.going two.after last behind closed (omega (arith, few, longer)) two.second in
    let same : place + length front ≡ n + length (cells colour t) + suc k = omega (arith, long, at) in
    let all_are : before ++ (two.before ++ (two.after ++ option_to_list last)) ≡ ended ++ option_to_list last =
    ap (λ (l : List Entry). before ++ l) (sym (append_assoc two.before two.after (option_to_list last))
    ∙ ap (λ (l : List Entry). l ++ option_to_list last) (sym two.all))
    ∙ sym (append_assoc before after (option_to_list last)) ∙ ap (λ (l : List Entry). l ++ option_to_list last) (sym is) in
    subst (λ (m : ℕ). AreCallsTold colour m ts (ended ++ option_to_list last)) same
    (subst (λ (l : List Entry). AreCallsTold colour (place + length front) ts l) all_are
    (more_calls colour (place + length front) ts before _ (more_calls colour (place + length front) ts two.before _ told)))

pause_ends : (colour n k : ℕ) (ts : List (Transmission × ℕ)) (t : Transmission) (ended : List Entry) (last : Option Entry)
    → IsWellFormed colour ts → AllTold colour ts → (rest : List RepeatedFrame) (before after : List Entry) (going : Option Entry)
    (place : ℕ) → AreShown colour (replicate (suc k) (unsaid Silent) ++ sent_from colour ts) (repeats_of rest)
    → AreFollowed going place rest after last → ended ≡ before ++ after
    → (place ≡ n + length (cells colour t)) ⊎ (rest ≡ []) → place + length rest < 2 ^ 32
    → AreCallsTold colour (n + length (cells colour t) + suc k) ts (ended ++ option_to_list last)
pause_ends colour n k ts t ended last well all rest before after going place shown followed is (inr none) few =
    none_left colour _ ts _ well
    (none_behind colour (replicate (suc k) (unsaid Silent)) (sent_from colour ts)
    (subst (λ (l : List RepeatedFrame). AreShown colour (replicate (suc k) (unsaid Silent) ++ sent_from colour ts) (repeats_of l))
    none shown)).1
pause_ends colour n k ts t ended last well all rest before after going place shown followed is (inl at) few =
    let part = shown_in_two colour (replicate (suc k) (unsaid Silent)) (sent_from colour ts) rest shown in
    after_pause colour n k ts t ended last well all rest before after going place followed is at few part.front part.rest part.split
    part.shown part.behind part.whole

behind_pause : (colour n k : ℕ) (ts : List (Transmission × ℕ)) (t : Transmission) (ended : List Entry) (last : Option Entry)
    → IsWellFormed colour ts → AllTold colour ts → (due : Option Call)
    → IsPassedOver colour n t due (replicate (suc k) (unsaid Silent) ++ sent_from colour ts) ended last
    → AreCallsTold colour (n + length (cells colour t) + suc k) ts (ended ++ option_to_list last)
unfolding AllTold
behind_pause colour n k ts t ended last well all due p =
    pause_ends colour n k ts t ended last well all p.rest p.before p.after p.going p.place p.behind p.followed p.all p.whole p.few

-- at least one silence stands behind each transmission
pub pause_is : (t : Transmission) (n : ℕ) (ts : List (Transmission × ℕ)) → IsPause t n ts → 1 ≤ n
pause_is (VoiceCall lc header leads gap ss (Terminated information more)) n ts p = p
pause_is (VoiceCall lc header leads gap ss Silenced) n ts p = omega (arith, p)
pause_is (HeadersAlone lc header leads (Terminated information more)) n ts p = p
pause_is (HeadersAlone lc header leads Silenced) n ts (inl p) = omega (arith, p)
pause_is (HeadersAlone lc header leads Silenced) n ts (inr p) = p.0
pause_is (LateCall lc tail ss (Terminated information more)) n ts p = p
pause_is (LateCall lc tail ss Silenced) n ts p = omega (arith, p)
pause_is (Controls bursts) n ts p = p
pause_is (DataTry csbks header blocks) n ts p = p
pause_is (ForeignParts parts) n ts p = p

all_told_behind : (colour : ℕ) (t : Transmission) (k : ℕ) (ts : List (Transmission × ℕ)) → IsTransmission colour t → 1 ≤ k
    → IsWellFormed colour ts → AllTold colour ts → AllTold colour ((t, k) ∷ ts)
unfolding AllTold
all_told_behind colour t zero ts is some well all n frames current ended last shown none below followed =
    absurd (omega (arith, some))
all_told_behind colour t (suc k) ts is some well all n frames current ended last shown none below followed =
    let pause = replicate (suc k) (unsaid Silent) in
    let regrouped = subst (λ (l : List Cell). AreShown colour l (repeats_of frames))
    (append_assoc (cells colour t) pause (sent_from colour ts)) shown in
    let p = one_transmission colour n t (call_due colour t) (shape_of colour t is)
    (replicate k (unsaid Silent) ++ sent_from colour ts) frames current ended last regrouped none below followed in
    (p.tells, behind_pause colour n k ts t ended last well all (call_due colour t) p)

all_told : (colour : ℕ) (ts : List (Transmission × ℕ)) → IsWellFormed colour ts → AllTold colour ts
unfolding AllTold
all_told colour [] well n frames current ended last shown none below followed = tt
all_told colour (t ∷ ts) well n frames current ended last shown none below followed =
    all_told_behind colour t.0 t.1 ts well.0 (pause_is t.0 t.1 ts well.1) well.2 (all_told colour ts well.2) n frames current ended
    last shown none below followed

-- the calls of well-formed transmissions are told, from any frame on in which no call is open
pub told_from : (colour : ℕ) (ts : List (Transmission × ℕ)) → IsWellFormed colour ts
    → (n : ℕ) (frames : List RepeatedFrame) (current : Option Entry) (ended : List Entry) (last : Option Entry)
    → AreShown colour (sent_from colour ts) (repeats_of frames) → IsNoCall current → n + length frames < 2 ^ 32
    → AreFollowed current n frames ended last → AreCallsTold colour n ts (ended ++ option_to_list last)
unfolding AllTold
told_from colour ts well = all_told colour ts well
