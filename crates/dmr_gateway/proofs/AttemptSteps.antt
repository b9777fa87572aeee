-- In a frame the attempt that was begun goes on, or it is cut or replaced, or another begins.
use Rattle.std.proofs.Common.{◌≡◌, ℕ, ◌+◌, ◌-◌, ltb, Bool, true, false, cond, ◌⊎◌, inl, inr, List, [], ◌∷◌, length}
use Rattle.std.proofs.Common.{Option, Some, None, option_map, unwrap_or, refl, sym, ◌∙◌, ap, subst}
use Rattle.dmr_arq.proofs.Sound.{by_cond}
use Rattle.dmr_arq.specs.declared.answer.Verdict.{Verdict}
use Rattle.dmr_arq.specs.declared.answer.Verdict.TheVariants.{Ack, Failed, Selective}
use Rattle.dmr_arq.specs.declared.sender_state.Outcome.TheVariants.{Sent}
use Rattle.dmr_arq.specs.declared.serials.Selection.{Selection}
use Rattle.dmr_arq.specs.SenderRules as sender
use Rattle.dmr_gateway.specs.declared.answers.Due.{Due}
use Rattle.dmr_gateway.specs.declared.answers.HeardAnswer.{HeardAnswer}
use Rattle.dmr_gateway.specs.SlotBurst.{SlotBurst}
use Rattle.dmr_gateway.specs.declared.queue.Queued.{Queued}
use Rattle.dmr_gateway.specs.AttemptMeaning.{Answers, Tries, Attempt, Stage, Ready, Begun, Awaits, Hand, Owing, Ledger, Goes}
use Rattle.dmr_gateway.specs.AttemptMeaning.{bursts_of, goes, goes_on, try_stands}
use Rattle.dmr_gateway.specs.AttemptMeaning.{due_try, over, rests, waiting_goes, told, judged, waits, ledger_owes}
use Rattle.dmr_gateway.specs.AttemptMeaning.{ledger_takes}
use Rattle.dmr_gateway.specs.Courses.{is_answer, HasNothingDue}
use Rattle.dmr_gateway.proofs.AttemptBursts.{NotBegun, FitsBoth, BothHand, answer_from, cut_answer, cut_in_stage}
use Rattle.dmr_gateway.proofs.KeptByAttempts.{burst_at_place, is_fitting, try_bursts, answer_bursts}

-- 1. The attempt that is begun, in what is kept.

abbrev pub try_of : Hand → ℕ → Attempt
try_of h first = record { what = Tries h.packet h.route h.number h.selection; first = first }

abbrev pub answer_of : Due → ℕ → Attempt
answer_of due first = record { what = Answers due; first = first }

abbrev pub begun_answer : Option Owing → Option Attempt
begun_answer None = None
begun_answer (Some o) = option_map (answer_of o.due) o.begun

-- the answer or the try that has begun, by the stage of the packet in hand
abbrev pub begun_at : Stage → Hand → Option Owing → Option Attempt
begun_at Ready h owing = begun_answer owing
begun_at (Begun first) h owing = Some (try_of h first)
begun_at (Awaits ended) h owing = begun_answer owing

-- the answer or the try that has begun; an answer that begins goes first
abbrev pub begun_by : Option Hand → Option Owing → Option Attempt
begun_by None owing = begun_answer owing
begun_by (Some h) owing = begun_at h.stage h owing

-- an attempt that isn't all out after so many frames
abbrev pub unfinished : ℕ → ℕ → Option Attempt → Option Attempt
unfinished llid n None = None
unfinished llid n (Some a) = cond (ltb n (a.first + length (bursts_of llid a.what))) (Some a) None

-- the burst of frame f of what stands in it
abbrev pub burst_in : ℕ → ℕ → Option Attempt → Option SlotBurst
burst_in llid f None = None
burst_in llid f (Some a) = burst_at_place (bursts_of llid a.what) (f - a.first)

none_begun : (owing : Option Owing) → NotBegun owing → begun_answer owing ≡ None
none_begun None e = refl
none_begun (Some o) e = ap (λ b. option_map (answer_of o.due) b) e

cut_none : (owing : Option Owing) → begun_answer (cut_answer owing) ≡ None
cut_none None = refl
cut_none (Some o) = refl

-- 2. What goes on in a frame.

-- What a frame makes of the attempt that was begun.
pub record Moves (llid f : ℕ) (free : Bool) (begun : Option Attempt) (g : Goes) : Type 0 where
  pub sends : g.burst ≡ burst_in llid f g.stands
  pub kept : begun_by g.ledger.hand g.ledger.owing ≡ unfinished llid (f + 1) g.stands
  pub from : (a : Attempt) → g.stands ≡ Some a → (free ≡ true) × ((a.first ≡ f) ⊎ (begun ≡ Some a))
  pub on : (a : Attempt) → begun ≡ Some a → free ≡ true → g.stands ≡ Some a
  pub idle : free ≡ true → g.stands ≡ None → HasNothingDue g.ledger

-- a try
try_kept : (f first : ℕ) (h : Hand) (l : Ledger) (more confirmed : Bool) → NotBegun l.owing →
    begun_by (cond more (record l { hand = Some (record h { stage = Begun first }) })
    (cond confirmed (record l { hand = Some (record h { stage = Awaits f }) }) (over Sent l))).hand
    (cond more (record l { hand = Some (record h { stage = Begun first }) })
    (cond confirmed (record l { hand = Some (record h { stage = Awaits f }) }) (over Sent l))).owing
    ≡ cond more (Some (try_of h first)) None
try_kept f first h l true confirmed e = refl
try_kept f first h l false true e = none_begun l.owing e
try_kept f first h l false false e = none_begun l.owing e

try_moves : (llid f first : ℕ) (h : Hand) (l : Ledger) (begun : Option Attempt) → NotBegun l.owing →
    ((first ≡ f) ⊎ (begun ≡ Some (try_of h first))) → ((a : Attempt) → begun ≡ Some a → a ≡ try_of h first) →
    Moves llid f true begun (try_stands llid f first h l)
try_moves llid f first h l begun e from only =
    record {
      sends = refl;
      kept = try_kept f first h l (goes_on f first (try_bursts llid h.packet h.route h.number h.selection)) h.packet.confirmed e;
      from = λ a s. let same : try_of h first ≡ a = cc in
          (refl, subst (λ (x : Attempt). (x.first ≡ f) ⊎ (begun ≡ Some x)) same from);
      on = λ a s free. ap Some (sym (only a s));
      idle = λ free s. cc;
    }

-- an answer, with no try begun
abbrev pub IsNotBegun : Stage → Type 0
IsNotBegun Ready = Unit {0}
IsNotBegun (Begun first) = ⊥
IsNotBegun (Awaits ended) = Unit {0}

abbrev pub NoTry : Option Hand → Type 0
NoTry None = Unit {0}
NoTry (Some h) = IsNotBegun h.stage

at_rest : (stage : Stage) (h : Hand) (owing : Option Owing) → IsNotBegun stage → begun_at stage h owing ≡ begun_answer owing
at_rest Ready h owing n = refl
at_rest (Begun first) h owing n = absurd n
at_rest (Awaits ended) h owing n = refl

no_try : (hand : Option Hand) (owing : Option Owing) → NoTry hand → begun_by hand owing ≡ begun_answer owing
no_try None owing n = refl
no_try (Some h) owing n = at_rest h.stage h owing n

answer_kept : (first : ℕ) (o : Owing) (l : Ledger) (more : Bool) → NoTry l.hand →
    begun_by l.hand (cond more (Some (record o { begun = Some first })) None) ≡ cond more (Some (answer_of o.due first)) None
answer_kept first o l true n = no_try l.hand (Some (record o { begun = Some first })) n
answer_kept first o l false n = no_try l.hand None n

answer_moves : (llid f first : ℕ) (o : Owing) (l : Ledger) (begun : Option Attempt) → NoTry l.hand →
    ((first ≡ f) ⊎ (begun ≡ Some (answer_of o.due first))) → ((a : Attempt) → begun ≡ Some a → a ≡ answer_of o.due first) →
    Moves llid f true begun (answer_from f first o l)
answer_moves llid f first o l begun n from only =
    record {
      sends = refl;
      kept = answer_kept first o l (goes_on f first (answer_bursts o.due)) n;
      from = λ a s. let same : answer_of o.due first ≡ a = cc in
          (refl, subst (λ (x : Attempt). (x.first ≡ f) ⊎ (begun ≡ Some x)) same from);
      on = λ a s free. ap Some (sym (only a s));
      idle = λ free s. cc;
    }

held_moves : (llid f : ℕ) (due : Due) (begun : Option ℕ) (l : Ledger) → NoTry l.hand →
    Moves llid f true (option_map (answer_of due) begun)
    (answer_from f (unwrap_or begun f) (record { due = due; begun = begun }) l)
held_moves llid f due None l n =
    answer_moves llid f f (record { due = due; begun = None }) l None n (inl refl) (λ a s. cc)
held_moves llid f due (Some first) l n =
    answer_moves llid f first (record { due = due; begun = Some first }) l (Some (answer_of due first)) n (inr refl) (λ a s. cc)

-- nothing
rest_moves : (llid f : ℕ) (l : Ledger) → begun_by l.hand l.owing ≡ None → HasNothingDue l → Moves llid f true None (rests l)
rest_moves llid f l e due =
    record { sends = refl; kept = e; from = λ a s. cc; on = λ a s free. cc; idle = λ free s. due }

waits_moves : (llid f : ℕ) (owing : Option Owing) (stage : Stage) (h : Hand) (l : Ledger) → IsNotBegun stage →
    Moves llid f true (begun_answer owing)
    (waiting_goes owing llid f (record l { hand = Some (record h { stage = stage }); owing = owing }))
waits_moves llid f None Ready h l n =
    try_moves llid f f (record h { tries = h.tries + 1; stage = Ready })
    (record l { hand = Some (record h { stage = Ready }); owing = None }) None tt (inl refl) (λ a s. cc)
waits_moves llid f (Some o) Ready h l n =
    held_moves llid f o.due o.begun (record l { hand = Some (record h { stage = Ready }); owing = Some o }) tt
waits_moves llid f owing (Begun first) h l n = absurd n
waits_moves llid f None (Awaits ended) h l n =
    rest_moves llid f (record l { hand = Some (record h { stage = Awaits ended }); owing = None }) refl (refl, tt)
waits_moves llid f (Some o) (Awaits ended) h l n =
    held_moves llid f o.due o.begun (record l { hand = Some (record h { stage = Awaits ended }); owing = Some o }) tt

free_moves : (llid f : ℕ) (stage : Stage) (h : Hand) (l : Ledger) → FitsBoth stage l.owing →
    Moves llid f true (begun_at stage h l.owing) (goes true llid f (record l { hand = Some (record h { stage = stage }) }))
free_moves llid f Ready h l both = waits_moves llid f l.owing Ready h l tt
free_moves llid f (Begun first) h l both =
    try_moves llid f first (record h { stage = Begun first }) (record l { hand = Some (record h { stage = Begun first }) })
    (Some (try_of h first)) both (inr refl) (λ a s. cc)
free_moves llid f (Awaits ended) h l both = waits_moves llid f l.owing (Awaits ended) h l tt

idle_moves : (llid f : ℕ) (owing : Option Owing) (l : Ledger) →
    Moves llid f true (begun_answer owing) (goes true llid f (record l { hand = None; owing = owing }))
idle_moves llid f None l = rest_moves llid f (record l { hand = None; owing = None }) refl (refl, tt)
idle_moves llid f (Some o) l = held_moves llid f o.due o.begun (record l { hand = None; owing = Some o }) tt

-- a frame that isn't free
due_cut : (selection : Selection) (h : Hand) (l : Ledger) → begun_answer l.owing ≡ None →
    begun_by (due_try selection h l).hand (due_try selection h l).owing ≡ None
due_cut selection h l e =
    by_cond (λ (x : Ledger). begun_by x.hand x.owing ≡ None) (ltb h.tries 4) _ _ (λ again. e) (λ over. e)

cut_kept : (stage : Stage) (h : Hand) (l : Ledger) → begun_answer l.owing ≡ None →
    begun_by (cut_in_stage stage (record h { stage = stage }) (record l { hand = Some (record h { stage = stage }) })).hand
    (cut_in_stage stage (record h { stage = stage }) (record l { hand = Some (record h { stage = stage }) })).owing ≡ None
cut_kept Ready h l e = e
cut_kept (Begun first) h l e =
    due_cut h.selection (record h { stage = Begun first }) (record l { hand = Some (record h { stage = Begun first }) }) e
cut_kept (Awaits ended) h l e = e

cut_moves : (llid f : ℕ) (begun : Option Attempt) (l : Ledger) → begun_by l.hand l.owing ≡ None → Moves llid f false begun (rests l)
cut_moves llid f begun l e =
    record { sends = refl; kept = e; from = λ a s. cc; on = λ a s free. cc; idle = λ free s. cc }

-- any frame
pub goes_moves : (llid f : ℕ) (free : Bool) (hand : Option Hand) (l : Ledger) → BothHand hand l.owing →
    Moves llid f free (begun_by hand l.owing) (goes free llid f (record l { hand = hand }))
goes_moves llid f true None l both = idle_moves llid f l.owing l
goes_moves llid f true (Some h) l both = free_moves llid f h.stage h l both
goes_moves llid f false None l both =
    cut_moves llid f (begun_answer l.owing) (record l { hand = None; owing = cut_answer l.owing }) (cut_none l.owing)
goes_moves llid f false (Some h) l both =
    cut_moves llid f (begun_at h.stage h l.owing) (cut_in_stage h.stage h (record l { hand = Some h; owing = cut_answer l.owing }))
    (cut_kept h.stage h (record l { owing = cut_answer l.owing }) (cut_none l.owing))

-- 3. What happens before.

-- what is begun, where an answer that is due replaces another
abbrev pub replaced_by : Option Due → Option Attempt → Option Attempt
replaced_by None begun = begun
replaced_by (Some due) None = None
replaced_by (Some due) (Some a) = cond (is_answer a.what) None (Some a)

-- hearing and waiting leave it
due_begun : (selection : Selection) (h : Hand) (l : Ledger) (owing : Option Owing) →
    begun_by (due_try selection h l).hand owing ≡ begun_answer owing
due_begun selection h l owing =
    by_cond (λ (x : Ledger). begun_by x.hand owing ≡ begun_answer owing) (ltb h.tries 4) _ _ (λ again. refl) (λ over. refl)

judged_begun : (verdict : Verdict) (flags : ℕ) (h : Hand) (l : Ledger) (owing : Option Owing) →
    begun_by (judged verdict flags h l).hand owing ≡ begun_answer owing
judged_begun Ack flags h l owing = refl
judged_begun Failed flags h l owing = due_begun (sender.all_blocks h.packet) h l owing
judged_begun Selective flags h l owing =
    due_begun (sender.selection_of h.packet (sender.unset 0 (length h.packet.blocks) flags)) h l owing

told_stage : (llid : ℕ) (a : HeardAnswer) (stage : Stage) (h : Hand) (l : Ledger) (owing : Option Owing) →
    begun_by (told llid (Some a) (record l { hand = Some (record h { stage = stage }) })).hand owing
    ≡ begun_at stage h owing
told_stage llid a Ready h l owing = refl
told_stage llid a (Begun first) h l owing = refl
told_stage llid a (Awaits ended) h l owing =
    by_cond (λ (x : Ledger). begun_by x.hand owing ≡ begun_answer owing) (is_fitting llid h a) _ _
    (λ fits. judged_begun a.answer.verdict a.answer.flags (record h { stage = Awaits ended })
    (record l { hand = Some (record h { stage = Awaits ended }) }) owing)
    (λ other. refl)

-- the attempt that was begun stays the same where an answer is heard, or none
pub told_begun : (llid : ℕ) (answer : Option HeardAnswer) (hand : Option Hand) (l : Ledger) (owing : Option Owing) →
    begun_by (told llid answer (record l { hand = hand })).hand owing ≡ begun_by hand owing
told_begun llid None hand l owing = refl
told_begun llid (Some a) None l owing = refl
told_begun llid (Some a) (Some h) l owing = told_stage llid a h.stage h l owing

waits_stage : (f : ℕ) (stage : Stage) (h : Hand) (l : Ledger) (owing : Option Owing) →
    begun_by (waits f (record l { hand = Some (record h { stage = stage }) })).hand owing ≡ begun_at stage h owing
waits_stage f Ready h l owing = refl
waits_stage f (Begun first) h l owing = refl
waits_stage f (Awaits ended) h l owing =
    by_cond (λ (x : Ledger). begun_by x.hand owing ≡ begun_answer owing) (ltb f (ended + 20)) _ _ (λ more. refl)
    (λ late. due_begun (sender.all_blocks h.packet) (record h { stage = Awaits ended })
    (record l { hand = Some (record h { stage = Awaits ended }) }) owing)

-- the same, where the wait for an answer may be over
pub waits_begun : (f : ℕ) (hand : Option Hand) (l : Ledger) (owing : Option Owing) →
    begun_by (waits f (record l { hand = hand })).hand owing ≡ begun_by hand owing
waits_begun f None l owing = refl
waits_begun f (Some h) l owing = waits_stage f h.stage h l owing

-- a new answer
replaced_answer : (due held : Due) (begun : Option ℕ) → replaced_by (Some due) (option_map (answer_of held) begun) ≡ None
replaced_answer due held None = refl
replaced_answer due held (Some first) = refl

rests_owed : (due : Due) (hand : Option Hand) (owing : Option Owing) → NoTry hand →
    begun_by hand (Some (record { due = due; begun = None })) ≡ replaced_by (Some due) (begun_answer owing)
rests_owed due hand None n = no_try hand (Some (record { due = due; begun = None })) n
rests_owed due hand (Some o) n =
    no_try hand (Some (record { due = due; begun = None })) n ∙ sym (replaced_answer due o.due o.begun)

owes_stage : (due : Due) (stage : Stage) (h : Hand) (owing : Option Owing) →
    begun_at stage h (Some (record { due = due; begun = None })) ≡ replaced_by (Some due) (begun_at stage h owing)
owes_stage due Ready h owing = rests_owed due (Some (record h { stage = Ready })) owing tt
owes_stage due (Begun first) h owing = refl
owes_stage due (Awaits ended) h owing = rests_owed due (Some (record h { stage = Awaits ended })) owing tt

owes_hand : (due : Due) (hand : Option Hand) (owing : Option Owing) →
    begun_by hand (Some (record { due = due; begun = None })) ≡ replaced_by (Some due) (begun_by hand owing)
owes_hand due None owing = rests_owed due None owing tt
owes_hand due (Some h) owing = owes_stage due h.stage h owing

-- an answer that is due replaces one that was begun, and leaves a begun try as it was
pub owes_begun : (due : Option Due) (l : Ledger) →
    begun_by (ledger_owes due l).hand (ledger_owes due l).owing ≡ replaced_by due (begun_by l.hand l.owing)
owes_begun None l = refl
owes_begun (Some due) l = owes_hand due l.hand l.owing

-- a packet that is taken in hand
head_begun : (queue : List Queued) (l : Ledger) →
    begun_by (ledger_takes (record l { hand = None; queue = queue })).hand
    (ledger_takes (record l { hand = None; queue = queue })).owing ≡ begun_by None l.owing
head_begun [] l = refl
head_begun (q ∷ later) l = refl

-- the attempt that was begun stays the same where a packet may be taken in hand
pub taken_begun : (hand : Option Hand) (l : Ledger) →
    begun_by (ledger_takes (record l { hand = hand })).hand (ledger_takes (record l { hand = hand })).owing ≡ begun_by hand l.owing
taken_begun None l = head_begun l.queue l
taken_begun (Some h) l = refl
