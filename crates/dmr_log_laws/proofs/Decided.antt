-- What a log tells of each slot is what its line gives and what came in it.
use Rattle.std.proofs.Common.{◌≡◌, ℕ, zero, suc, ◌+◌, List, [], ◌∷◌, ◌++◌, length, drop}
use Rattle.std.proofs.Common.{replicate}
use Rattle.std.proofs.Common.{Option, Some, None, refl, sym, ap, ◌∙◌, subst, arith, append_assoc, slice_index_or}
use Rattle.std.specs.List.{AllZip}
use Rattle.dmr_burst.specs.declared.burst.Burst.{Burst}
use Rattle.dmr_hearing.proofs.Damaged.{recorded_is_heard}
use Rattle.dmr_hearing.specs.Damage.{IsRecordedAs}
use Rattle.dmr_hearing.specs.Parts.{is_own}
use Rattle.dmr_hearing.specs.Slots.{IsHeardAs, Silent, silence, vocoder_of}
use Rattle.dmr_hearing.specs.declared.heard.Heard.{Heard}
use Rattle.dmr_log.specs.SlotTracks.{Arrives, SlotTrack, nothing_arrived, repeated_of, silent_track}
use Rattle.dmr_log.specs.declared.arrived.Arrived.{Arrived}
use Rattle.dmr_log.specs.declared.repeated.Repeated.{Repeated}
use Rattle.dmr_log.specs.declared.slot_log.SlotTold.{SlotTold}
use Rattle.dmr_slot.specs.Bursts.{IsSlotOut}
use Rattle.dmr_slot.specs.LineMeaning.{LineOut, Repeated as Gives, Free, lines}
use Rattle.dmr_slot.specs.LineRules.{ArePushed, IsPush, silent_line}
use Rattle.dmr_slot.specs.declared.line.SlotOut.{SlotOut}
use Rattle.dmr_slot.proofs.Recorded.{line_of_what_is_meant}
use Rattle.dmr_voice.proofs.Law.{repeats_what_is_meant}
use Rattle.dmr_voice.specs.CallMeaning.{Cell, Transmission, sent_list}
use Rattle.dmr_voice.specs.DamagedRecordings.{IsDamagedRecordingOf, meant}
use Rattle.dmr_voice.specs.WellFormed.{IsWellFormed}
use Rattle.dmr_voice.specs.Said.{Said, Nothing, Repeat}
use Rattle.dmr_log_laws.proofs.Followed.{told_to_repeat}
use Rattle.dmr_log_laws.proofs.Slots.{ArePassed}

-- 1. What is decided on.

-- Each is told to repeat what the line gives of what came.
abbrev pub AreDecided : List SlotOut → List Arrived → List SlotTold → Type 0
AreDecided [] came [] = Unit {0}
AreDecided [] came (t ∷ told) = ⊥
AreDecided (o ∷ outs) [] told = ⊥
AreDecided (o ∷ outs) (a ∷ came) [] = ⊥
AreDecided (o ∷ outs) (a ∷ came) (t ∷ told) = (t.repeated ≡ repeated_of o.repeated o.lc a) × AreDecided outs came told

-- what a slot of a log decides, where this is undecided before
record IsDone (track : SlotTrack) (waiting : List Arrived) (slots : List (Option (List ℕ))) (told : List SlotTold)
    (after : SlotTrack) : Type 0 where
  outs : List SlotOut
  came : List Arrived
  pushed : ArePushed track.line slots outs after.line
  arrives : AllZip (Arrives track.colour) slots came
  decided : AreDecided outs (waiting ++ came) told

record IsNext (waiting : List Arrived) (last : Arrived) : Type 0 where
  first : Arrived
  rest : List Arrived
  is : waiting ++ last ∷ [] ≡ first ∷ rest

next_of : (waiting : List Arrived) (last : Arrived) → IsNext waiting last
next_of [] last = record { first = last; rest = []; is = refl }
next_of (a ∷ waiting) last = record { first = a; rest = waiting ++ last ∷ []; is = refl }

done : (track : SlotTrack) (n : ℕ) (first : Arrived) (waiting : List Arrived) (slots : List (Option (List ℕ)))
    (told : List SlotTold) (bursts : List (Option Burst)) (after : SlotTrack) → track.undecided ≡ first ∷ waiting
    → ArePassed track n slots told bursts after → IsDone track (first ∷ waiting) slots told after
done track n first waiting [] [] [] after is same = record {
  outs = [];
  came = [];
  pushed = ap (λ (t : SlotTrack). t.line) same;
  arrives = tt;
  decided = tt;
}
done track n first waiting [] [] (b ∷ bursts) after is p = absurd p
done track n first waiting [] (t ∷ told) bursts after is p = absurd p
done track n first waiting (slot ∷ slots) [] bursts after is p = absurd p
done track n first waiting (slot ∷ slots) (t ∷ told) [] after is p = absurd p
done track n first waiting (slot ∷ slots) (t ∷ told) (b ∷ bursts) after is (next, p, rest) =
    let new = next_of waiting p.arrived in
    let waits : next.undecided ≡ new.first ∷ new.rest =
    p.waits ∙ ap (λ (l : List Arrived). drop 1 l ++ p.arrived ∷ []) is ∙ new.is in
    let more = done next (n + 1) new.first new.rest slots told bursts after waits rest in
    let behind : (new.first ∷ new.rest) ++ more.came ≡ waiting ++ (p.arrived ∷ more.came) =
    ap (λ (l : List Arrived). l ++ more.came) (sym new.is) ∙ append_assoc waiting (p.arrived ∷ []) more.came in
    let oldest : p.decided ≡ first = p.oldest ∙ ap (λ (l : List Arrived). slice_index_or l 0 nothing_arrived) is in
    record {
      outs = p.out ∷ more.outs;
      came = p.arrived ∷ more.came;
      pushed = (next.line, p.pushed, more.pushed);
      arrives = (
        p.arrives,
        subst (λ (c : ℕ). AllZip (Arrives c) slots more.came) p.same more.arrives,
      );
      decided = (
        p.repeated ∙ ap (λ (a : Arrived). repeated_of p.out.repeated p.out.lc a) oldest,
        subst (λ (l : List Arrived). AreDecided more.outs l told) behind more.decided,
      );
    }

-- 2. What cells show.

-- what a line without call hang gives
abbrev pub line_out : Said → LineOut
line_out Nothing = Free
line_out (Repeat content role) = Gives content role

-- What a log tells of a slot shows its cell.
pub record Shows (colour : ℕ) (c : Cell) (r : Repeated) : Type 0 where
  pub slot : Option (List ℕ)
  pub heard : Heard
  pub out : SlotOut
  pub arrived : Arrived
  pub recorded : IsRecordedAs colour c.sent slot
  pub arrives : Arrives colour slot arrived
  pub as_sent : IsHeardAs c.sent heard
  pub is_voice : arrived.is_voice ≡ heard.voice
  pub is_own : arrived.is_own ≡ is_own colour heard.emb
  pub gives : IsSlotOut colour (line_out (c.means (vocoder_of slot))) out
  pub told : r ≡ repeated_of out.repeated out.lc arrived

-- What a log tells of slots shows cells, up to some silent ones behind.
abbrev pub AreShown : ℕ → List Cell → List Repeated → Type 0
AreShown colour [] [] = Unit {0}
AreShown colour [] (r ∷ rs) = ⊥
AreShown colour (c ∷ cs) [] = (c.sent ≡ Silent) × AreShown colour cs []
AreShown colour (c ∷ cs) (r ∷ rs) = Shows colour c r × AreShown colour cs rs

missing_cells : (colour : ℕ) (cs : List Cell) (missing : ℕ)
    → AllZip (λ (c : Cell) slot. IsRecordedAs colour c.sent slot) cs (replicate missing None) → AreShown colour cs []
missing_cells colour [] zero p = tt
missing_cells colour [] (suc n) p = absurd p
missing_cells colour (c ∷ cs) zero p = absurd p
missing_cells colour (c ∷ cs) (suc n) p = (p.0.damaged, missing_cells colour cs n p.1)

next_line : (colour : ℕ) (back : List Said) (said : Said) (more : List Said) (out : SlotOut) (outs : List SlotOut)
    → AllZip (IsSlotOut colour) (lines 0 back (said ∷ more)) (out ∷ outs)
    → IsSlotOut colour (line_out said) out × AllZip (IsSlotOut colour) (lines 0 (said ∷ back) more) outs
next_line colour back Nothing more out outs p = p
next_line colour back (Repeat content role) more out outs p = p

-- a slot that comes was heard as what was sent in it
record IsHeardSo (colour : ℕ) (c : Cell) (slot : Option (List ℕ)) (arrived : Arrived) : Type 0 where
  heard : Heard
  as_sent : IsHeardAs c.sent heard
  is_voice : arrived.is_voice ≡ heard.voice
  is_own : arrived.is_own ≡ is_own colour heard.emb

heard_so : (colour : ℕ) (c : Cell) (slot : Option (List ℕ)) (arrived : Arrived) → IsRecordedAs colour c.sent slot
    → Arrives colour slot arrived → IsHeardSo colour c slot arrived
heard_so colour c None arrived recorded nothing = record {
  heard = silence;
  as_sent = recorded_is_heard colour None c.sent silence recorded refl;
  is_voice = ap (λ (a : Arrived). a.is_voice) nothing;
  is_own = ap (λ (a : Arrived). a.is_own) nothing;
}
heard_so colour c (Some octets) arrived recorded xs = record {
  heard = xs.heard;
  as_sent = recorded_is_heard colour (Some octets) c.sent xs.heard recorded xs.hears;
  is_voice = ap (λ (a : Arrived). a.is_voice) xs.value;
  is_own = ap (λ (a : Arrived). a.is_own) xs.value;
}

shown : (colour missing : ℕ) (cs : List Cell) (slots past : List (Option (List ℕ))) (back : List Said) (outs : List SlotOut)
    (came : List Arrived) (told : List SlotTold) → length told ≡ length slots
    → AllZip (λ (c : Cell) slot. IsRecordedAs colour c.sent slot) cs (slots ++ replicate missing None)
    → AllZip (Arrives colour) (slots ++ past) came → AllZip (IsSlotOut colour) (lines 0 back (meant cs slots)) outs
    → AreDecided outs came told → AreShown colour cs (told_to_repeat told)
shown colour missing cs [] past back outs came [] long recorded arrives gives decided = missing_cells colour cs missing recorded
shown colour missing cs [] past back outs came (t ∷ told) long recorded arrives gives decided = absurd (omega (arith, long))
shown colour missing cs (slot ∷ slots) past back outs came [] long recorded arrives gives decided = absurd (omega (arith, long))
shown colour missing [] (slot ∷ slots) past back outs came (t ∷ told) long recorded arrives gives decided = absurd recorded
shown colour missing (c ∷ cs) (slot ∷ slots) past back outs [] (t ∷ told) long recorded arrives gives decided = absurd arrives
shown colour missing (c ∷ cs) (slot ∷ slots) past back [] (a ∷ came) (t ∷ told) long recorded arrives gives decided =
    absurd decided
shown colour missing (c ∷ cs) (slot ∷ slots) past back (o ∷ outs) (a ∷ came) (t ∷ told) long recorded arrives gives decided =
    let heard = heard_so colour c slot a recorded.0 arrives.0 in
    let given = next_line colour back (c.means (vocoder_of slot)) (meant cs slots) o outs gives in (
      record {
        slot = slot;
        heard = heard.heard;
        out = o;
        arrived = a;
        recorded = recorded.0;
        arrives = arrives.0;
        as_sent = heard.as_sent;
        is_voice = heard.is_voice;
        is_own = heard.is_own;
        gives = given.0;
        told = decided.0;
      },
      shown colour missing cs slots past (c.means (vocoder_of slot) ∷ back) outs came told (omega (arith, long)) recorded.1
          arrives.1 given.1 decided.1,
    )

-- 3. A whole slot.

-- a line that gives nothing
abbrev free : SlotOut
free = record { repeated = None; hang = None; lc = None }

silent_push : (colour : ℕ) → IsPush (silent_line colour 0) None free (silent_line colour 0)
silent_push colour = record {
  heard = silence;
  carried = None;
  hears = refl;
  carries = record { read = λ e. cc; nothing = λ e. refl };
  gives = refl;
  remembers = refl;
}

-- the slots of a recording, as five that wait and those behind them
behind_five : (colour missing : ℕ) (cs : List Cell) (slots past : List (Option (List ℕ))) (outs : List SlotOut)
    (came : List Arrived) (told : List SlotTold) → length told ≡ length slots + 5
    → AllZip (λ (c : Cell) slot. IsRecordedAs colour c.sent slot) cs (slots ++ replicate missing None)
    → AllZip (Arrives colour) (slots ++ past) came
    → AllZip (IsSlotOut colour) (lines 0 [] (replicate 6 Nothing ++ meant cs slots)) (free ∷ outs)
    → AreDecided outs (replicate 5 nothing_arrived ++ came) told → AreShown colour cs (told_to_repeat (drop 5 told))
behind_five colour missing cs slots past [] came [] long recorded arrives gives decided = absurd (omega (arith, long))
behind_five colour missing cs slots past [] came (t ∷ told) long recorded arrives gives decided = absurd decided
behind_five colour missing cs slots past (o ∷ outs) came [] long recorded arrives gives decided = absurd decided
behind_five colour missing cs slots past (o ∷ []) came (t ∷ told) long recorded arrives gives decided = absurd gives.1.1
behind_five colour missing cs slots past (o ∷ p ∷ outs) came (t ∷ []) long recorded arrives gives decided = absurd decided.1
behind_five colour missing cs slots past (o ∷ p ∷ []) came (t ∷ u ∷ told) long recorded arrives gives decided =
    absurd gives.1.1.1
behind_five colour missing cs slots past (o ∷ p ∷ q ∷ outs) came (t ∷ u ∷ []) long recorded arrives gives decided =
    absurd decided.1.1
behind_five colour missing cs slots past (o ∷ p ∷ q ∷ []) came (t ∷ u ∷ v ∷ told) long recorded arrives gives decided =
    absurd gives.1.1.1.1
behind_five colour missing cs slots past (o ∷ p ∷ q ∷ r ∷ outs) came (t ∷ u ∷ v ∷ []) long recorded arrives gives decided =
    absurd decided.1.1.1
behind_five colour missing cs slots past (o ∷ p ∷ q ∷ r ∷ []) came (t ∷ u ∷ v ∷ w ∷ told) long recorded arrives gives decided =
    absurd gives.1.1.1.1.1
behind_five colour missing cs slots past (o ∷ p ∷ q ∷ r ∷ s ∷ outs) came (t ∷ u ∷ v ∷ w ∷ []) long recorded arrives gives decided =
    absurd decided.1.1.1.1
behind_five colour missing cs slots past (o ∷ p ∷ q ∷ r ∷ s ∷ outs) came (t ∷ u ∷ v ∷ w ∷ x ∷ told) long recorded arrives gives
    decided =
    shown colour missing cs slots past _ outs came told (omega (arith, long)) recorded arrives gives.1.1.1.1.1.1
    decided.1.1.1.1.1

-- What a log tells of the slots of a recording shows what was sent in them.
pub slot_shown : (colour lead : ℕ) (ts : List (Transmission × ℕ)) (slots : List (Option (List ℕ))) (of_frames : List SlotTold)
    (bursts : List (Option Burst)) (after : SlotTrack) → IsWellFormed colour ts
    → IsDamagedRecordingOf colour (sent_list colour lead ts) slots → length of_frames ≡ length slots + 5
    → ArePassed (silent_track colour) 0 (slots ++ replicate 5 None) of_frames bursts after
    → AreShown colour (sent_list colour lead ts) (told_to_repeat (drop 5 of_frames))
slot_shown colour lead ts slots of_frames bursts after well recorded long passed =
    let d = done (silent_track colour) 0 nothing_arrived (replicate 4 nothing_arrived) (slots ++ replicate 5 None) of_frames bursts
    after refl passed in
    let line = line_of_what_is_meant repeats_what_is_meant colour 0 lead ts slots (free ∷ d.outs) after.line well recorded
    (silent_line colour 0, silent_push colour, d.pushed) in
    behind_five colour recorded.0 (sent_list colour lead ts) slots (replicate 5 None) d.outs d.came of_frames long recorded.1
    d.arrives line d.decided
