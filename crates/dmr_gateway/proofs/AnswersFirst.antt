-- Where a try begins, no answer is owed.
use Rattle.std.proofs.Common.{◌≡◌, ℕ, suc, ◌+◌, ◌<◌, ◌≤◌, ltb, eqb, Bool, true, false, cond, List, [], ◌∷◌, length, Option, Some}
use Rattle.std.proofs.Common.{None, option_map, unwrap_or, refl, sym, ◌∙◌, ap, arith, inl, inr}
use Rattle.std.proofs.lemmas.Bool.{lt-ltb, le-ltb}
use Rattle.std.proofs.lemmas.Bool.Decides.{eqb_tells}
use Rattle.std.specs.Option.{option_or}
use Rattle.dmr_arq.proofs.Sound.{by_cond}
use Rattle.dmr_arq.specs.declared.serials.Selection.{Selection}
use Rattle.dmr_gateway.specs.declared.answers.Due.{Due}
use Rattle.dmr_gateway.specs.Answers.{flag_count}
use Rattle.dmr_gateway.specs.AttemptMeaning.{Stage, Ready, Begun, Awaits, Hand, Owing, Ledger, Goes, Brings, attempts, goes}
use Rattle.dmr_gateway.specs.AttemptMeaning.{goes_on, try_stands, due_try, rests, ledger_owes}
use Rattle.dmr_gateway.specs.Courses.{begins_try, ends_answer, still_due_after, AnswersGoFirst}
use Rattle.dmr_gateway.proofs.AttemptBursts.{FitsLedger, joined, heard, readied, readied_fits, hand_fits, owing_fits, answer_from}
use Rattle.dmr_gateway.proofs.AttemptBursts.{cut_answer, cut_in_stage}
use Rattle.dmr_gateway.proofs.FrameSteps.{FitsStage, FitsHand, FitsBegun, FitsOwing, Leaves, hears_leaves, takes_owing}
use Rattle.dmr_gateway.proofs.WholeAttempts.{carries}
use Rattle.dmr_gateway.proofs.KeptByAttempts.{answer_bursts, length_answers, try_bursts}

-- The answer that is held.
abbrev due_of : Option Owing → Option Due
due_of owing = option_map (λ (o : Owing). o.due) owing

-- 1. What a frame makes of it.

-- What a frame leaves of the answer that is held, and that no try begins in it where one is.
record Owes (f : ℕ) (held : Option Due) (g : Goes) : Type 0 where
  left : due_of g.ledger.owing ≡ cond (ends_answer f g.stands) None held
  first : begins_try f g.stands ≡ true → held ≡ None

rest_owes : (f : ℕ) (held : Option Due) (l : Ledger) → due_of l.owing ≡ held → Owes f held (rests l)
rest_owes f held l same = record { left = same; first = λ e. cc }

-- an answer
answer_left : (f first : ℕ) (o : Owing) → first ≤ f → f < first + suc (flag_count o.due) →
    due_of (cond (ltb (f + 1) (first + length (answer_bursts o.due))) (Some (record o { begun = Some first })) None)
    ≡ cond (eqb (first + flag_count o.due) f) None (Some o.due)
answer_left f first o le lt =
    let n = length_answers o.due 0 (suc (flag_count o.due)) in
    let owing : Bool → Option Due = λ more. due_of (cond more (Some (record o { begun = Some first })) None) in
    elim (eqb_tells (first + flag_count o.due) f) [
      | inl p ↦
          (let last : first + flag_count o.due ≡ f = p.1 in
          ap owing (le-ltb (f + 1) (first + length (answer_bursts o.due)) (omega (arith, n, last)))
          ∙ ap (λ whole. cond whole None (Some o.due)) (sym p.0))
      | inr p ↦
          (let other : first + flag_count o.due ≡ f → ⊥ = p.1 in
          ap owing (lt-ltb (f + 1) (first + length (answer_bursts o.due)) (omega (arith, n, other)))
          ∙ ap (λ whole. cond whole None (Some o.due)) (sym p.0))
    ]

answer_owes : (f first : ℕ) (o : Owing) (l : Ledger) → first ≤ f → f < first + suc (flag_count o.due) →
    Owes f (Some o.due) (answer_from f first o l)
answer_owes f first o l le lt = record { left = answer_left f first o le lt; first = λ e. cc }

held_owes : (f : ℕ) (due : Due) (begun : Option ℕ) (l : Ledger) → FitsBegun f (flag_count due) begun →
    Owes f (Some due) (answer_from f (unwrap_or begun f) (record { due = due; begun = begun }) l)
held_owes f due None l fits = answer_owes f f (record { due = due; begun = None }) l (omega arith) (omega arith)
held_owes f due (Some first) l fits =
    let a : first < f = fits.0 in
    let b : f < first + suc (flag_count due) = fits.1 in
    answer_owes f first (record { due = due; begun = Some first }) l (omega arith) b

-- a try
try_owes : (llid f first : ℕ) (h : Hand) (l : Ledger) (held : Option Due) → due_of l.owing ≡ held →
    (eqb first f ≡ true → held ≡ None) → Owes f held (try_stands llid f first h l)
try_owes llid f first h l held same none =
    record {
      left = by_cond (λ (x : Ledger). due_of x.owing ≡ held)
          (goes_on f first (try_bursts llid h.packet h.route h.number h.selection)) _ _
          (λ more. same)
          (λ out. by_cond (λ (x : Ledger). due_of x.owing ≡ held) h.packet.confirmed _ _ (λ c. same) (λ u. same));
      first = none;
    }

-- a free frame
waits_owes : (llid f : ℕ) (owing : Option Owing) (stage : Stage) (h : Hand) (l : Ledger) → FitsOwing f owing →
    FitsStage f stage →
    Owes f (due_of owing) (goes true llid f (record l { hand = Some (record h { stage = stage }); owing = owing }))
waits_owes llid f None Ready h l fits stage =
    try_owes llid f f (record h { tries = h.tries + 1; stage = Ready })
    (record l { hand = Some (record h { stage = Ready }); owing = None }) None refl (λ e. refl)
waits_owes llid f (Some o) Ready h l fits stage =
    held_owes f o.due o.begun (record l { hand = Some (record h { stage = Ready }); owing = Some o }) fits
waits_owes llid f owing (Begun begun) h l fits stage =
    try_owes llid f begun (record h { stage = Begun begun })
    (record l { hand = Some (record h { stage = Begun begun }); owing = owing }) (due_of owing) refl
    (λ e. absurd (elim (eqb_tells begun f) [
      | inl p ↦ let same : begun ≡ f = p.1 in absurd (omega arith)
      | inr p ↦ let z : true ≡ false = sym e ∙ p.0 in cc
    ]))
waits_owes llid f None (Awaits ended) h l fits stage =
    rest_owes f None (record l { hand = Some (record h { stage = Awaits ended }); owing = None }) refl
waits_owes llid f (Some o) (Awaits ended) h l fits stage =
    held_owes f o.due o.begun (record l { hand = Some (record h { stage = Awaits ended }); owing = Some o }) fits

idle_owes : (llid f : ℕ) (owing : Option Owing) (l : Ledger) → FitsOwing f owing →
    Owes f (due_of owing) (goes true llid f (record l { hand = None; owing = owing }))
idle_owes llid f None l fits = rest_owes f None (record l { hand = None; owing = None }) refl
idle_owes llid f (Some o) l fits = held_owes f o.due o.begun (record l { hand = None; owing = Some o }) fits

-- a frame that isn't free
cut_due : (owing : Option Owing) → due_of (cut_answer owing) ≡ due_of owing
cut_due None = refl
cut_due (Some o) = refl

due_kept : (selection : Selection) (h : Hand) (l : Ledger) → due_of (due_try selection h l).owing ≡ due_of l.owing
due_kept selection h l =
    by_cond (λ (x : Ledger). due_of x.owing ≡ due_of l.owing) (ltb h.tries 4) _ _ (λ again. refl) (λ over. refl)

cut_kept : (stage : Stage) (h : Hand) (l : Ledger) → due_of (cut_in_stage stage h l).owing ≡ due_of l.owing
cut_kept Ready h l = refl
cut_kept (Begun begun) h l = due_kept h.selection h l
cut_kept (Awaits ended) h l = refl

-- any frame
goes_owes : (llid f : ℕ) (free : Bool) (hand : Option Hand) (l : Ledger) → FitsHand f hand → FitsOwing f l.owing →
    Owes f (due_of l.owing) (goes free llid f (record l { hand = hand }))
goes_owes llid f true None l stage fits = idle_owes llid f l.owing l fits
goes_owes llid f true (Some h) l stage fits = waits_owes llid f l.owing h.stage h l fits stage
goes_owes llid f false None l stage fits =
    rest_owes f (due_of l.owing) (record l { hand = None; owing = cut_answer l.owing }) (cut_due l.owing)
goes_owes llid f false (Some h) l stage fits =
    rest_owes f (due_of l.owing) (cut_in_stage h.stage h (record l { hand = Some h; owing = cut_answer l.owing }))
    (cut_kept h.stage h (record l { hand = Some h; owing = cut_answer l.owing }) ∙ cut_due l.owing)

-- 2. All frames.

due_joined : (due : Option Due) (l : Ledger) → due_of (ledger_owes due l).owing ≡ option_or due (due_of l.owing)
due_joined None l = refl
due_joined (Some due) l = refl

-- The answer that is held when a burst is chosen is the one that is due, or else the one that was owed.
readied_due : (limit llid f : ℕ) (b : Brings) (l : Ledger) → FitsLedger f l.hand l.owing →
    due_of (readied limit llid f b l).owing ≡ option_or b.due (due_of l.owing)
readied_due limit llid f b l fits =
    let x : Ledger = heard limit llid f b l in
    let y : Ledger = ledger_owes b.due x in
    let k : Leaves f (joined limit b l) x = hears_leaves llid f b.heard (joined limit b l) (hand_fits f l.hand l.owing fits) in
    ap due_of (takes_owing y.hand y) ∙ due_joined b.due x ∙ ap (λ owing. option_or b.due (due_of owing)) k.owing

frame_owes : (limit llid : ℕ) (b : Brings) (earlier : List Brings) →
    Owes (length earlier) (due_of (readied limit llid (length earlier) b (attempts limit llid earlier).ledger).owing)
    (attempts limit llid (b ∷ earlier))
frame_owes limit llid b earlier =
    let f : ℕ = length earlier in
    let l : Ledger = (attempts limit llid earlier).ledger in
    let z : Ledger = readied limit llid f b l in
    let fits : FitsLedger f z.hand z.owing = readied_fits limit llid f b l (carries limit llid earlier).fits in
    goes_owes llid f b.free z.hand z (hand_fits f z.hand z.owing fits) (owing_fits f z.hand z.owing fits)

held_is_owed : (limit llid : ℕ) (frames : List Brings) → due_of (attempts limit llid frames).ledger.owing
    ≡ still_due_after limit llid frames
held_is_owed limit llid [] = refl
held_is_owed limit llid (b ∷ earlier) =
    let l : Ledger = (attempts limit llid earlier).ledger in
    let whole : Bool = ends_answer (length earlier) (attempts limit llid (b ∷ earlier)).stands in
    (frame_owes limit llid b earlier).left
    ∙ ap (λ held. cond whole None held) (readied_due limit llid (length earlier) b l (carries limit llid earlier).fits)
    ∙ ap (λ held. cond whole None (option_or b.due held)) (held_is_owed limit llid earlier)

-- in a frame in which a try begins, no answer is due, and none is still owed
pub answers_go_first : AnswersGoFirst
answers_go_first limit llid b earlier begins =
    let l : Ledger = (attempts limit llid earlier).ledger in
    ap (option_or b.due) (sym (held_is_owed limit llid earlier))
    ∙ sym (readied_due limit llid (length earlier) b l (carries limit llid earlier).fits)
    ∙ (frame_owes limit llid b earlier).first begins
