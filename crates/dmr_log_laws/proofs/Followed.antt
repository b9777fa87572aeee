-- What one slot of a log tells: which transmissions end in it.
use Rattle.std.proofs.Common.{◌≡◌, ℕ, ◌+◌, ◌-◌, ◌==◌, ◌||◌, Bool, true, false, cond, List, [], ◌∷◌, ◌++◌, length, map, count_by}
use Rattle.std.proofs.Common.{take}
use Rattle.std.proofs.Common.{Option, Some, None, option_to_list, option_map, refl, sym, ap, ◌∙◌, subst, arith, is_some}
use Rattle.std.proofs.Common.{append_assoc, replicate}
use Rattle.std.proofs.Math.Seq.{take-append_seam}
use Rattle.std.proofs.lemmas.List.{length-append, length-map}
use Rattle.dmr_burst.specs.declared.burst.Burst.{Burst}
use Rattle.dmr_burst.specs.declared.burst.Burst.TheVariants as burst
use Rattle.dmr_hearing.specs.Slots.{silence}
use Rattle.dmr_hearing.specs.declared.heard.Heard.{Heard}
use Rattle.dmr_link.specs.declared.full_lc.FullLc.{FullLc}
use Rattle.dmr_listing.specs.declared.contents.Contents.{Contents}
use Rattle.dmr_listing.specs.declared.contents.Contents.TheVariants.{ControlBlock, DataHeader, OtherFormat}
use Rattle.dmr_log.specs.Pieces.{AreFollowed, RepeatedFrame}
use Rattle.dmr_log.specs.Repeated.{block_told, data_told, header_told, pi_header_told}
use Rattle.dmr_log.specs.SlotTracks.{IsPassed, SlotTrack, counted_bits, repeated_of, silent_track, told_at_end, ended_with}
use Rattle.dmr_log.specs.Transmissions.{IsStep, is_burst}
use Rattle.dmr_log.specs.declared.arrived.Arrived.{Arrived}
use Rattle.dmr_log.specs.declared.checks.Checks.{Checks}
use Rattle.dmr_log.specs.declared.repeated.Repeated.{Repeated}
use Rattle.dmr_log.specs.declared.repeated.Repeated.TheVariants as repeated
use Rattle.dmr_log.specs.declared.slot_log.SlotTold.{SlotTold}
use Rattle.dmr_log.specs.declared.transmission.Ended.{Ended}
use Rattle.dmr_log.specs.declared.transmission.Transmission.{Transmission}
use Rattle.dmr_slot.specs.Bursts.{IsSlotOut}
use Rattle.dmr_slot.specs.LineMeaning.{Free}
use Rattle.dmr_slot.specs.LineRules.{LineMemory, IsPush, ArePushed}
use Rattle.dmr_slot.specs.declared.line.SlotOut.{SlotOut}
use Rattle.dmr_voice.specs.declared.track.Track.TheVariants.{Idle}
use Rattle.dmr_log_laws.proofs.Pushes.{bursts_of_outs}
use Rattle.dmr_log_laws.proofs.Slots.{ArePassed, counted_cons}
use Rattle.dmr_log_laws.specs.WholeLogs.{entries_told, repeated_in}

-- 1. What repeats a burst.

either : (b : Bool) (x y : Repeated) → is_burst x ≡ true → is_burst y ≡ true → is_burst (cond b x y) ≡ true
either true x y p q = p
either false x y p q = q

block_is_burst : (contents : Option Contents) → is_burst (block_told contents) ≡ true
block_is_burst None = refl
block_is_burst (Some (ControlBlock b)) = refl
block_is_burst (Some c) = refl

header_is_burst : (contents : Option Contents) → is_burst (header_told contents) ≡ true
header_is_burst None = refl
header_is_burst (Some (DataHeader h)) = refl
header_is_burst (Some (OtherFormat octets)) = refl
header_is_burst (Some c) = refl

pi_is_burst : (lc : Option FullLc) → is_burst (pi_header_told lc) ≡ true
pi_is_burst None = refl
pi_is_burst (Some lc) = refl

data_is_burst : (type : ℕ) (lc : Option FullLc) (contents : Option Contents) → is_burst (data_told type lc contents) ≡ true
data_is_burst type lc contents =
    either (type == 0) _ _ (pi_is_burst lc)
    (either (type == 1) _ _ refl
    (either (type == 2) _ _ refl
    (either (type == 3) _ _ (block_is_burst contents)
    (either (type == 6) _ _ (header_is_burst contents)
    (either ((type == 7) || ((type == 8) || (type == 10))) _ _ refl refl)))))

-- a frame is told to repeat a burst where one goes out
burst_where_one_goes_out : (b : Option Burst) (lc : Option FullLc) (arrived : Arrived)
    → is_burst (repeated_of b lc arrived) ≡ is_some b
burst_where_one_goes_out None lc arrived = refl
burst_where_one_goes_out (Some (burst.Data colour kind information)) lc arrived = data_is_burst kind lc arrived.contents
burst_where_one_goes_out (Some (burst.VoiceSync vocoder)) lc arrived = refl
burst_where_one_goes_out (Some (burst.Voice emb field vocoder)) lc arrived = refl

-- 2. What the line of the slot gives.

-- the slots are pushed into the line, and the bursts are those that it repeats
pub record IsPushedBy (track : SlotTrack) (slots : List (Option (List ℕ))) (bursts : List (Option Burst)) (after : SlotTrack)
    : Type 0 where
  pub outs : List SlotOut
  pub pushed : ArePushed track.line slots outs after.line
  pub same : bursts ≡ bursts_of_outs outs

-- Slots that were passed were pushed, and gave these bursts.
pub pushed_by : (track : SlotTrack) (n : ℕ) (slots : List (Option (List ℕ))) (told : List SlotTold) (bursts : List (Option Burst))
    (after : SlotTrack) → ArePassed track n slots told bursts after → IsPushedBy track slots bursts after
pushed_by track n [] [] [] after same = record { outs = []; pushed = ap (λ (t : SlotTrack). t.line) same; same = refl }
pushed_by track n [] [] (b ∷ bursts) after p = absurd p
pushed_by track n [] (t ∷ told) bursts after p = absurd p
pushed_by track n (slot ∷ slots) [] bursts after p = absurd p
pushed_by track n (slot ∷ slots) (t ∷ told) [] after p = absurd p
pushed_by track n (slot ∷ slots) (t ∷ told) (b ∷ bursts) after (next, p, rest) =
    let more = pushed_by next (n + 1) slots told bursts after rest in
    record {
      outs = p.out ∷ more.outs;
      pushed = (next.line, p.pushed, more.pushed);
      same = ap (λ (x : Option Burst). x ∷ bursts) p.repeats ∙ ap (λ (l : List (Option Burst)). p.out.repeated ∷ l) more.same;
    }

-- 3. What is told of frames.

-- what frames are told to repeat
abbrev pub told_to_repeat : List SlotTold → List Repeated
told_to_repeat told = map (λ (t : SlotTold). t.repeated) told

-- frames follow one another, and what is told of each is what its transmissions are
pub record IsFollowedSo (current : Option Transmission) (n : ℕ) (told : List SlotTold) (bursts : List (Option Burst))
    (last : Option Transmission) : Type 0 where
  pub frames : List RepeatedFrame
  pub repeats : map (λ (frame : RepeatedFrame). frame.0) frames ≡ told_to_repeat told
  pub followed : AreFollowed current n frames (entries_told told) last
  pub counted : count_by is_burst (told_to_repeat told) ≡ count_by is_some bursts

one_more_counted : (t : Repeated) (b : Option Burst) (ts : List Repeated) (bs : List (Option Burst)) → is_burst t ≡ is_some b
    → count_by is_burst ts ≡ count_by is_some bs → count_by is_burst (t ∷ ts) ≡ count_by is_some (b ∷ bs)
one_more_counted t b ts bs p q =
    counted_cons is_burst t ts ∙ ap (λ (x : Bool). cond x 1 0 + count_by is_burst ts) p
    ∙ ap (λ (n : ℕ). cond (is_some b) 1 0 + n) q ∙ sym (counted_cons is_some b bs)

pub followed_so : (track : SlotTrack) (n m : ℕ) (slots : List (Option (List ℕ))) (told : List SlotTold)
    (bursts : List (Option Burst)) (after : SlotTrack) → m ≡ n + 5 → ArePassed track m slots told bursts after
    → IsFollowedSo track.current n told bursts after.current
followed_so track n m [] [] [] after at same = record {
  frames = [];
  repeats = refl;
  followed = (refl, ap (λ (t : SlotTrack). t.current) same);
  counted = refl;
}
followed_so track n m [] [] (b ∷ bursts) after at p = absurd p
followed_so track n m [] (t ∷ told) bursts after at p = absurd p
followed_so track n m (slot ∷ slots) [] bursts after at p = absurd p
followed_so track n m (slot ∷ slots) (t ∷ told) [] after at p = absurd p
followed_so track n m (slot ∷ slots) (t ∷ told) (b ∷ bursts) after at (next, p, rest) =
    let more = followed_so next (n + 1) (m + 1) slots told bursts after (omega (arith, at)) rest in
    let here : m - 5 ≡ n = omega (arith, at) in
    let checks : Checks = counted_bits p.out.repeated p.decided in
    record {
      frames = (t.repeated, checks) ∷ more.frames;
      repeats = ap (λ (l : List Repeated). t.repeated ∷ l) more.repeats;
      followed = (
        t.ended,
        next.current,
        entries_told told,
        subst (λ (k : ℕ). IsStep track.current k t.repeated checks t.ended next.current) here p.step,
        refl,
        more.followed,
      );
      counted = one_more_counted t.repeated b (told_to_repeat told) bursts
          (ap is_burst p.repeated ∙ burst_where_one_goes_out p.out.repeated p.out.lc p.decided
          ∙ ap (λ (x : Option Burst). is_some x) (sym p.repeats)) more.counted;
    }

-- 4. The first five slots.

-- a line that waits for the first slot that it heard
abbrev waiting : ℕ → List Heard → LineMemory
waiting colour window = record { colour = colour; call_hang = 0; window = window; state = Idle; left = 0; lc = None }

-- nothing is told, and nothing is open
record Waits (colour : ℕ) (told : SlotTold) (burst : Option Burst) (window : List Heard) (after : SlotTrack) : Type 0 where
  ended : told.ended ≡ None
  repeated : told.repeated ≡ repeated.Nothing
  silent : burst ≡ None
  heard : Heard
  line : after.line ≡ waiting colour (window ++ heard ∷ [])
  current : after.current ≡ None

waits : (colour : ℕ) (x : Heard) (window : List Heard) (track : SlotTrack) (slot : Option (List ℕ)) (at : ℕ) (told : SlotTold)
    (burst : Option Burst) (after : SlotTrack) → track.line ≡ waiting colour (x ∷ silence ∷ window) → track.current ≡ None
    → IsPassed track slot at told burst after → Waits colour told burst (silence ∷ window) after
waits colour x window track slot at told burst after line none p =
    let push = subst (λ (m : LineMemory). IsPush m slot p.out after.line) line p.pushed in
    let free : IsSlotOut colour Free p.out = push.gives in
    let nothing : told.repeated ≡ repeated.Nothing =
    p.repeated ∙ ap (λ (o : SlotOut). repeated_of o.repeated o.lc p.decided) free in
    let checks : Checks = counted_bits p.out.repeated p.decided in
    let step : IsStep None at repeated.Nothing checks told.ended after.current =
    subst (λ (r : Repeated). IsStep None at r checks told.ended after.current) nothing
    (subst (λ (c : Option Transmission). IsStep c at told.repeated checks told.ended after.current) none p.step) in
    record {
      ended = step.0;
      repeated = nothing;
      silent = p.repeats ∙ ap (λ (o : SlotOut). o.repeated) free;
      heard = push.heard;
      line = push.remembers;
      current = step.1;
    }

-- five slots that come first, and those behind them
pub record AreFive (slots : List (Option (List ℕ))) : Type 0 where
  pub a : Option (List ℕ)
  pub b : Option (List ℕ)
  pub c : Option (List ℕ)
  pub d : Option (List ℕ)
  pub e : Option (List ℕ)
  pub rest : List (Option (List ℕ))
  pub split : slots ++ replicate 5 None ≡ a ∷ b ∷ c ∷ d ∷ e ∷ rest
  pub long : length rest ≡ length slots

five : (slots : List (Option (List ℕ))) → AreFive slots
five [] = record { a = None; b = None; c = None; d = None; e = None; rest = []; split = refl; long = refl }
five (a ∷ []) = record { a = a; b = None; c = None; d = None; e = None; rest = None ∷ []; split = refl; long = refl }
five (a ∷ b ∷ []) =
    record { a = a; b = b; c = None; d = None; e = None; rest = None ∷ None ∷ []; split = refl; long = refl }
five (a ∷ b ∷ c ∷ []) =
    record { a = a; b = b; c = c; d = None; e = None; rest = None ∷ None ∷ None ∷ []; split = refl; long = refl }
five (a ∷ b ∷ c ∷ d ∷ []) =
    record { a = a; b = b; c = c; d = d; e = None; rest = None ∷ None ∷ None ∷ None ∷ []; split = refl; long = refl }
five (a ∷ b ∷ c ∷ d ∷ e ∷ rest) =
    let long : length (rest ++ None ∷ None ∷ None ∷ None ∷ None ∷ []) ≡ length (a ∷ b ∷ c ∷ d ∷ e ∷ rest) =
    length-append rest (None ∷ None ∷ None ∷ None ∷ None ∷ []) ∙ omega arith in
    record { a = a; b = b; c = c; d = d; e = e; rest = rest ++ replicate 5 None; split = refl; long = long }

-- a slot that waits, in front of others
record IsFirst (colour n : ℕ) (window : List Heard) (slots : List (Option (List ℕ))) (told : List SlotTold)
    (bursts : List (Option Burst)) (after : SlotTrack) : Type 0 where
  one : SlotTold
  others : List SlotTold
  told_is : told ≡ one ∷ others
  ended : one.ended ≡ None
  rest : List (Option Burst)
  bursts_are : bursts ≡ None ∷ rest
  track : SlotTrack
  heard : Heard
  line : track.line ≡ waiting colour (window ++ heard ∷ [])
  current : track.current ≡ None
  passed : ArePassed track (n + 1) slots others rest after

first_waits : (colour n : ℕ) (x : Heard) (window : List Heard) (track : SlotTrack) (slot : Option (List ℕ))
    (slots : List (Option (List ℕ))) (told : List SlotTold) (bursts : List (Option Burst)) (after : SlotTrack)
    → track.line ≡ waiting colour (x ∷ silence ∷ window) → track.current ≡ None
    → ArePassed track n (slot ∷ slots) told bursts after → IsFirst colour n (silence ∷ window) slots told bursts after
first_waits colour n x window track slot slots [] bursts after line none p = absurd p
first_waits colour n x window track slot slots (t ∷ told) [] after line none p = absurd p
first_waits colour n x window track slot slots (t ∷ told) (b ∷ bursts) after line none (next, p, rest) =
    let here = waits colour x window track slot (n - 5) t b next line none p in
    record {
      one = t;
      others = told;
      told_is = refl;
      ended = here.ended;
      rest = bursts;
      bursts_are = ap (λ (y : Option Burst). y ∷ bursts) here.silent;
      track = next;
      heard = here.heard;
      line = here.line;
      current = here.current;
      passed = rest;
    }

-- 5. A whole slot.

ended_none : (t : SlotTold) (told : List SlotTold) → t.ended ≡ None → entries_told (t ∷ told) ≡ entries_told told
ended_none t told e =
    ap (λ (x : Option Ended). option_to_list (option_map (λ (y : Ended). y.transmission) x) ++ entries_told told) e

entries_append : (xs ys : List SlotTold) → entries_told (xs ++ ys) ≡ entries_told xs ++ entries_told ys
entries_append [] ys = refl
entries_append (t ∷ xs) ys =
    let here = option_to_list (option_map (λ (y : Ended). y.transmission) t.ended) in
    ap (λ (l : List Transmission). here ++ l) (entries_append xs ys) ∙ sym (append_assoc here (entries_told xs) (entries_told ys))

entries_at_end : (current : Option Transmission) → entries_told (told_at_end (ended_with current) ∷ []) ≡ option_to_list current
entries_at_end None = refl
entries_at_end (Some t) = refl

-- As much is told as slots were passed.
pub passed_long : (track : SlotTrack) (n : ℕ) (slots : List (Option (List ℕ))) (told : List SlotTold) (bursts : List (Option Burst))
    (after : SlotTrack) → ArePassed track n slots told bursts after → length told ≡ length slots
passed_long track n [] [] [] after p = refl
passed_long track n [] [] (b ∷ bursts) after p = absurd p
passed_long track n [] (t ∷ told) bursts after p = absurd p
passed_long track n (slot ∷ slots) [] bursts after p = absurd p
passed_long track n (slot ∷ slots) (t ∷ told) [] after p = absurd p
passed_long track n (slot ∷ slots) (t ∷ told) (b ∷ bursts) after (next, p, rest) =
    let more = passed_long next (n + 1) slots told bursts after rest in omega (arith, more)

-- where nothing is repeated, nothing is counted
pub none_counted : (bs : List (Option Burst)) → count_by is_some (None ∷ bs) ≡ count_by is_some bs
none_counted bs = counted_cons is_some None bs ∙ omega arith

-- What a slot of a log tells of a whole recording: what it repeats in each frame, and which transmissions are ended or open.
pub record IsSlotLog (colour : ℕ) (slots : List (Option (List ℕ))) (told : List SlotTold) (bursts : List (Option Burst))
    : Type 0 where
  pub frames : List RepeatedFrame
  pub repeats : map (λ (frame : RepeatedFrame). frame.0) frames ≡ repeated_in (length slots) told
  pub long : length frames ≡ length slots
  pub ended : List Transmission
  pub last : Option Transmission
  pub followed : AreFollowed None 0 frames ended last
  pub all : entries_told told ≡ ended ++ option_to_list last
  pub counted : count_by is_burst (map (λ (frame : RepeatedFrame). frame.0) frames) ≡ count_by is_some bursts

slot_log_of : (colour : ℕ) (slots rest : List (Option (List ℕ))) (t u v w x : SlotTold) (told : List SlotTold)
    (bursts : List (Option Burst)) (track after : SlotTrack) → length rest ≡ length slots → track.current ≡ None
    → t.ended ≡ None → u.ended ≡ None → v.ended ≡ None → w.ended ≡ None → x.ended ≡ None
    → ArePassed track 5 rest told bursts after
    → IsSlotLog colour slots ((t ∷ u ∷ v ∷ w ∷ x ∷ told) ++ told_at_end (ended_with after.current) ∷ [])
    (None ∷ None ∷ None ∷ None ∷ None ∷ bursts)
slot_log_of colour slots rest t u v w x told bursts track after same none no_t no_u no_v no_w no_x passed =
    let so = followed_so track 0 5 rest told bursts after refl passed in
    let long = passed_long track 5 rest told bursts after passed in
    let end = told_at_end (ended_with after.current) in
    let whole : List SlotTold = told ++ end ∷ [] in
    let all : entries_told (told ++ end ∷ []) ≡ entries_told told ++ option_to_list after.current =
    entries_append told (end ∷ []) ∙ ap (λ (l : List Transmission). entries_told told ++ l) (entries_at_end after.current) in
    let front : take (length slots) (told ++ end ∷ []) ≡ told =
    ap (λ (n : ℕ). take n (told ++ end ∷ [])) (sym (long ∙ same)) ∙ take-append_seam told (end ∷ []) in
    let count = none_counted bursts in
    let counts : count_by is_some (None ∷ None ∷ None ∷ None ∷ None ∷ bursts) ≡ count_by is_some bursts =
    none_counted (None ∷ None ∷ None ∷ None ∷ bursts) ∙ none_counted (None ∷ None ∷ None ∷ bursts)
    ∙ none_counted (None ∷ None ∷ bursts) ∙ none_counted (None ∷ bursts) ∙ none_counted bursts in
    record {
      frames = so.frames;
      repeats = so.repeats ∙ ap told_to_repeat (sym front);
      long = sym (length-map so.frames (λ (frame : RepeatedFrame). frame.0)) ∙ ap length so.repeats
          ∙ length-map told (λ (s : SlotTold). s.repeated) ∙ long ∙ same;
      ended = entries_told told;
      last = after.current;
      followed = subst (λ (c : Option Transmission). AreFollowed c 0 so.frames (entries_told told) after.current) none so.followed;
      all = ended_none t (u ∷ v ∷ w ∷ x ∷ whole) no_t ∙ ended_none u (v ∷ w ∷ x ∷ whole) no_u ∙ ended_none v (w ∷ x ∷ whole) no_v
          ∙ ended_none w (x ∷ whole) no_w ∙ ended_none x whole no_x ∙ all;
      counted = ap (count_by is_burst) so.repeats ∙ so.counted ∙ sym counts;
    }

cons_told : (t : SlotTold) (a b : List SlotTold) → a ≡ b → t ∷ a ≡ t ∷ b
cons_told t a b e = ap (λ (l : List SlotTold). t ∷ l) e

cons_none : (a b : List (Option Burst)) → a ≡ b → None ∷ a ≡ None ∷ b
cons_none a b e = ap (λ (l : List (Option Burst)). None ∷ l) e

-- A slot of a log goes on from silence over the slots of a recording and five silent ones.
pub slot_log : (colour : ℕ) (slots : List (Option (List ℕ))) (of_frames : List SlotTold) (bursts : List (Option Burst))
    (after : SlotTrack) → ArePassed (silent_track colour) 0 (slots ++ replicate 5 None) of_frames bursts after
    → IsSlotLog colour slots (of_frames ++ told_at_end (ended_with after.current) ∷ []) bursts
slot_log colour slots of_frames bursts after passed =
    let f = five slots in
    let p = subst (λ (l : List (Option (List ℕ))). ArePassed (silent_track colour) 0 l of_frames bursts after) f.split passed in
    let t = first_waits colour 0 silence (silence ∷ silence ∷ silence ∷ silence ∷ []) (silent_track colour) f.a
    (f.b ∷ f.c ∷ f.d ∷ f.e ∷ f.rest) of_frames bursts after refl refl p in
    let u = first_waits colour 1 silence (silence ∷ silence ∷ silence ∷ t.heard ∷ []) t.track f.b
    (f.c ∷ f.d ∷ f.e ∷ f.rest) t.others t.rest after t.line t.current t.passed in
    let v = first_waits colour 2 silence (silence ∷ silence ∷ t.heard ∷ u.heard ∷ []) u.track f.c
    (f.d ∷ f.e ∷ f.rest) u.others u.rest after u.line u.current u.passed in
    let w = first_waits colour 3 silence (silence ∷ t.heard ∷ u.heard ∷ v.heard ∷ []) v.track f.d
    (f.e ∷ f.rest) v.others v.rest after v.line v.current v.passed in
    let x = first_waits colour 4 silence (t.heard ∷ u.heard ∷ v.heard ∷ w.heard ∷ []) w.track f.e
    f.rest w.others w.rest after w.line w.current w.passed in
    let all = slot_log_of colour slots f.rest t.one u.one v.one w.one x.one x.others x.rest x.track after f.long x.current
    t.ended u.ended v.ended w.ended x.ended x.passed in
    let told : of_frames ≡ t.one ∷ u.one ∷ v.one ∷ w.one ∷ x.one ∷ x.others =
    t.told_is ∙ cons_told t.one _ _ (u.told_is ∙ cons_told u.one _ _ (v.told_is ∙ cons_told v.one _ _ (w.told_is
    ∙ cons_told w.one _ _ x.told_is))) in
    let burst : bursts ≡ None ∷ None ∷ None ∷ None ∷ None ∷ x.rest =
    t.bursts_are ∙ cons_none _ _ (u.bursts_are ∙ cons_none _ _ (v.bursts_are ∙ cons_none _ _ (w.bursts_are
    ∙ cons_none _ _ x.bursts_are))) in
    subst (λ (b : List (Option Burst)). IsSlotLog colour slots (of_frames ++ told_at_end (ended_with after.current) ∷ []) b)
    (sym burst)
    (subst (λ (l : List SlotTold). IsSlotLog colour slots (l ++ told_at_end (ended_with after.current) ∷ [])
    (None ∷ None ∷ None ∷ None ∷ None ∷ x.rest)) (sym told) all)
