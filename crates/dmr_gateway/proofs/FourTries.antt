-- A packet has four tries at most.
use Rattle.std.proofs.Common.{◌≡◌, ℕ, ◌+◌, ◌<◌, ◌≤◌, ltb, eqb, Bool, true, false, cond, List, [], ◌∷◌, length, Option, Some}
use Rattle.std.proofs.Common.{None, unwrap_or, refl, subst, arith, inl, inr, lit≤, lit<}
use Rattle.std.proofs.lemmas.Bool.{ltb-true, lt-ltb}
use Rattle.std.proofs.lemmas.Bool.Decides.{eqb_tells}
use Rattle.std.specs.Prelude.{is_some}
use Rattle.dmr_arq.proofs.Sound.{by_cond}
use Rattle.dmr_arq.specs.declared.answer.Verdict.{Verdict}
use Rattle.dmr_arq.specs.declared.answer.Verdict.TheVariants.{Ack, Failed, Selective}
use Rattle.dmr_arq.specs.declared.sender_state.Outcome.{Outcome}
use Rattle.dmr_arq.specs.declared.sender_state.Outcome.TheVariants.{Sent}
use Rattle.dmr_arq.specs.declared.serials.Selection.{Selection}
use Rattle.dmr_arq.specs.SenderRules as sender
use Rattle.dmr_gateway.specs.declared.answers.Due.{Due}
use Rattle.dmr_gateway.specs.declared.answers.HeardAnswer.{HeardAnswer}
use Rattle.dmr_gateway.specs.declared.queue.Queued.{Queued}
use Rattle.dmr_gateway.specs.AttemptMeaning.{Stage, Ready, Begun, Awaits, Hand, Owing, Ledger, Goes, Brings, attempts, goes}
use Rattle.dmr_gateway.specs.AttemptMeaning.{goes_on, due_try, over, rests, told, judged, waits, ledger_owes}
use Rattle.dmr_gateway.specs.AttemptMeaning.{ledger_takes}
use Rattle.dmr_gateway.specs.Courses.{begins_try, tries_since_told, HasFourTries}
use Rattle.dmr_gateway.proofs.AttemptBursts.{FitsLedger, joined, heard, readied, readied_fits, hand_fits, answer_from, cut_answer}
use Rattle.dmr_gateway.proofs.AttemptBursts.{cut_in_stage}
use Rattle.dmr_gateway.proofs.FrameSteps.{FitsStage, FitsHand}
use Rattle.dmr_gateway.proofs.WholeAttempts.{carries}
use Rattle.dmr_gateway.proofs.KeptByAttempts.{is_fitting, try_bursts, length_bursts}

-- 1. What is in hand.

-- A try that is due is one of four.
abbrev HasTryLeft : Stage → ℕ → Type 0
HasTryLeft Ready tries = tries < 4
HasTryLeft (Begun first) tries = Unit {0}
HasTryLeft (Awaits ended) tries = Unit {0}

-- So many tries have begun since it was told what became of a packet: they are of the packet in hand.
abbrev AreOfHand : ℕ → Option Hand → Type 0
AreOfHand count None = count ≡ 0
AreOfHand count (Some h) = (count ≤ h.tries) × (h.tries ≤ 4) × HasTryLeft h.stage h.tries

-- how many of these tries still count, where it is told what became of a packet
abbrev counting : ℕ → Option Outcome → ℕ
counting count outcome = cond (is_some outcome) 0 count

abbrev AreCounted : ℕ → Ledger → Type 0
AreCounted count l = AreOfHand (counting count l.outcome) l.hand

-- 2. Up to the burst.

due_counted : (count : ℕ) (selection : Selection) (h : Hand) (l : Ledger) → counting count l.outcome ≤ h.tries → h.tries ≤ 4 →
    AreCounted count (due_try selection h l)
due_counted count selection h l few most =
    by_cond (AreCounted count) (ltb h.tries 4) _ _ (λ again. (few, most, ltb-true h.tries 4 again)) (λ over. refl)

judged_counted : (count : ℕ) (verdict : Verdict) (flags : ℕ) (h : Hand) (l : Ledger) → counting count l.outcome ≤ h.tries →
    h.tries ≤ 4 → AreCounted count (judged verdict flags h l)
judged_counted count Ack flags h l few most = refl
judged_counted count Failed flags h l few most = due_counted count (sender.all_blocks h.packet) h l few most
judged_counted count Selective flags h l few most =
    due_counted count (sender.selection_of h.packet (sender.unset 0 (length h.packet.blocks) flags)) h l few most

told_stage : (count llid : ℕ) (a : HeardAnswer) (stage : Stage) (h : Hand) (l : Ledger) →
    AreCounted count (record l { hand = Some (record h { stage = stage }) }) →
    AreCounted count (told llid (Some a) (record l { hand = Some (record h { stage = stage }) }))
told_stage count llid a Ready h l are = are
told_stage count llid a (Begun first) h l are = are
told_stage count llid a (Awaits ended) h l are =
    by_cond (AreCounted count) (is_fitting llid h a) _ _
    (λ yes. judged_counted count a.answer.verdict a.answer.flags (record h { stage = Awaits ended })
    (record l { hand = Some (record h { stage = Awaits ended }) }) are.0 are.1)
    (λ no. are)

told_counted : (count llid : ℕ) (answer : Option HeardAnswer) (hand : Option Hand) (l : Ledger) →
    AreCounted count (record l { hand = hand }) → AreCounted count (told llid answer (record l { hand = hand }))
told_counted count llid None hand l are = are
told_counted count llid (Some a) None l are = are
told_counted count llid (Some a) (Some h) l are = told_stage count llid a h.stage h l are

waits_stage : (count f : ℕ) (stage : Stage) (h : Hand) (l : Ledger) →
    AreCounted count (record l { hand = Some (record h { stage = stage }) }) →
    AreCounted count (waits f (record l { hand = Some (record h { stage = stage }) }))
waits_stage count f Ready h l are = are
waits_stage count f (Begun first) h l are = are
waits_stage count f (Awaits ended) h l are =
    by_cond (AreCounted count) (ltb f (ended + 20)) _ _ (λ early. are)
    (λ late. due_counted count (sender.all_blocks h.packet) (record h { stage = Awaits ended })
    (record l { hand = Some (record h { stage = Awaits ended }) }) are.0 are.1)

waits_counted : (count f : ℕ) (hand : Option Hand) (l : Ledger) → AreCounted count (record l { hand = hand }) →
    AreCounted count (waits f (record l { hand = hand }))
waits_counted count f None l are = are
waits_counted count f (Some h) l are = waits_stage count f h.stage h l are

owes_counted : (count : ℕ) (due : Option Due) (l : Ledger) → AreCounted count l → AreCounted count (ledger_owes due l)
owes_counted count None l are = are
owes_counted count (Some due) l are = are

head_counted : (count : ℕ) (queue : List Queued) (l : Ledger) → counting count l.outcome ≡ 0 →
    AreCounted count (ledger_takes (record l { hand = None; queue = queue }))
head_counted count [] l none = none
head_counted count (q ∷ later) l none = (omega (arith, none), lit≤ tt, lit< tt)

takes_counted : (count : ℕ) (hand : Option Hand) (l : Ledger) → AreCounted count (record l { hand = hand }) →
    AreCounted count (ledger_takes (record l { hand = hand }))
takes_counted count None l are = head_counted count l.queue l are
takes_counted count (Some h) l are = are

readied_counted : (count limit llid f : ℕ) (b : Brings) (l : Ledger) → AreOfHand count l.hand →
    AreCounted count (readied limit llid f b l)
readied_counted count limit llid f b l are =
    let x : Ledger = told llid b.heard (joined limit b l) in
    let y : Ledger = heard limit llid f b l in
    let z : Ledger = ledger_owes b.due y in
    takes_counted count z.hand z
    (owes_counted count b.due y
    (waits_counted count f x.hand x (told_counted count llid b.heard l.hand (joined limit b l) are)))

-- 3. The burst.

-- the tries that have begun with this frame
abbrev begun_with : ℕ → ℕ → Goes → ℕ
begun_with count f g = cond (begins_try f g.stands) 1 0 + counting count g.ledger.outcome

abbrev AreBegun : ℕ → ℕ → Goes → Type 0
AreBegun count f g = AreOfHand (begun_with count f g) g.ledger.hand

-- no try begins
none_more : (n : ℕ) (hand : Option Hand) → AreOfHand n hand → AreOfHand (0 + n) hand
none_more n hand are = subst (λ m. AreOfHand m hand) (let z : n ≡ 0 + n = omega arith in z) are

rest_begun : (count f : ℕ) (l : Ledger) → AreCounted count l → AreBegun count f (rests l)
rest_begun count f l are = none_more (counting count l.outcome) l.hand are

answer_begun : (count f first : ℕ) (o : Owing) (l : Ledger) → AreCounted count l → AreBegun count f (answer_from f first o l)
answer_begun count f first o l are = none_more (counting count l.outcome) l.hand are

-- a try that began before goes on
on_begun : (count f first : ℕ) (h : Hand) (l : Ledger) (more confirmed begins : Bool) → counting count l.outcome ≤ h.tries →
    h.tries ≤ 4 → begins ≡ false →
    AreOfHand (cond begins 1 0 + counting count (cond more (record l { hand = Some (record h { stage = Begun first }) })
    (cond confirmed (record l { hand = Some (record h { stage = Awaits f }) }) (over Sent l))).outcome)
    (cond more (record l { hand = Some (record h { stage = Begun first }) })
    (cond confirmed (record l { hand = Some (record h { stage = Awaits f }) }) (over Sent l))).hand
on_begun count f first h l true confirmed false few most e = (omega (arith, few), most, tt)
on_begun count f first h l false true false few most e = (omega (arith, few), most, tt)
on_begun count f first h l false false false few most e = refl
on_begun count f first h l more confirmed true few most e = absurd (cc)

not_first : (f first : ℕ) → first < f → eqb first f ≡ false
not_first f first before =
    elim (eqb_tells first f) [
      | inl p ↦ let same : first ≡ f = p.1 in absurd (omega arith)
      | inr p ↦ p.0
    ]

-- a try begins, and has bursts to come
first_begun : (count f : ℕ) (h : Hand) (l : Ledger) (more confirmed begins : Bool) → counting count l.outcome + 1 ≤ h.tries →
    h.tries ≤ 4 → more ≡ true →
    AreOfHand (cond begins 1 0 + counting count (cond more (record l { hand = Some (record h { stage = Begun f }) })
    (cond confirmed (record l { hand = Some (record h { stage = Awaits f }) }) (over Sent l))).outcome)
    (cond more (record l { hand = Some (record h { stage = Begun f }) })
    (cond confirmed (record l { hand = Some (record h { stage = Awaits f }) }) (over Sent l))).hand
first_begun count f h l true confirmed true few most e = (omega (arith, few), most, tt)
first_begun count f h l true confirmed false few most e = (omega (arith, few), most, tt)
first_begun count f h l false confirmed begins few most e = absurd (cc)

has_more : (llid f : ℕ) (h : Hand) → ltb (f + 1) (f + length (try_bursts llid h.packet h.route h.number h.selection)) ≡ true
has_more llid f h =
    let long = length_bursts llid h.packet h.route h.number h.selection in
    lt-ltb (f + 1) (f + length (try_bursts llid h.packet h.route h.number h.selection)) (omega (arith, long))

-- a free frame
waits_begun : (count llid f : ℕ) (owing : Option Owing) (stage : Stage) (h : Hand) (l : Ledger) → FitsStage f stage →
    AreCounted count (record l { hand = Some (record h { stage = stage }); owing = owing }) →
    AreBegun count f (goes true llid f (record l { hand = Some (record h { stage = stage }); owing = owing }))
waits_begun count llid f None Ready h l fits are =
    let few = are.0 in
    let left = are.2 in
    first_begun count f (record h { tries = h.tries + 1; stage = Ready })
    (record l { hand = Some (record h { stage = Ready }); owing = None })
    (goes_on f f (try_bursts llid h.packet h.route h.number h.selection)) h.packet.confirmed (eqb f f) (omega arith) (omega arith)
    (has_more llid f h)
waits_begun count llid f (Some o) Ready h l fits are =
    answer_begun count f (unwrap_or o.begun f) o (record l { hand = Some (record h { stage = Ready }); owing = Some o }) are
waits_begun count llid f owing (Begun first) h l fits are =
    on_begun count f first (record h { stage = Begun first })
    (record l { hand = Some (record h { stage = Begun first }); owing = owing })
    (goes_on f first (try_bursts llid h.packet h.route h.number h.selection)) h.packet.confirmed (eqb first f) are.0 are.1
    (not_first f first fits)
waits_begun count llid f None (Awaits ended) h l fits are =
    rest_begun count f (record l { hand = Some (record h { stage = Awaits ended }); owing = None }) are
waits_begun count llid f (Some o) (Awaits ended) h l fits are =
    answer_begun count f (unwrap_or o.begun f) o (record l { hand = Some (record h { stage = Awaits ended }); owing = Some o }) are

idle_begun : (count llid f : ℕ) (owing : Option Owing) (l : Ledger) →
    AreCounted count (record l { hand = None; owing = owing }) →
    AreBegun count f (goes true llid f (record l { hand = None; owing = owing }))
idle_begun count llid f None l are = rest_begun count f (record l { hand = None; owing = None }) are
idle_begun count llid f (Some o) l are =
    answer_begun count f (unwrap_or o.begun f) o (record l { hand = None; owing = Some o }) are

-- a frame that isn't free
cut_counted : (count : ℕ) (stage : Stage) (h : Hand) (l : Ledger) →
    AreCounted count (record l { hand = Some (record h { stage = stage }) }) →
    AreCounted count (cut_in_stage stage (record h { stage = stage }) (record l { hand = Some (record h { stage = stage }) }))
cut_counted count Ready h l are = are
cut_counted count (Begun first) h l are =
    due_counted count h.selection (record h { stage = Begun first }) (record l { hand = Some (record h { stage = Begun first }) })
    are.0 are.1
cut_counted count (Awaits ended) h l are = are

-- any frame
goes_begun : (count llid f : ℕ) (free : Bool) (hand : Option Hand) (l : Ledger) → FitsHand f hand →
    AreCounted count (record l { hand = hand }) → AreBegun count f (goes free llid f (record l { hand = hand }))
goes_begun count llid f true None l fits are = idle_begun count llid f l.owing l are
goes_begun count llid f true (Some h) l fits are = waits_begun count llid f l.owing h.stage h l fits are
goes_begun count llid f false None l fits are =
    rest_begun count f (record l { hand = None; owing = cut_answer l.owing }) are
goes_begun count llid f false (Some h) l fits are =
    rest_begun count f (cut_in_stage h.stage h (record l { hand = Some h; owing = cut_answer l.owing }))
    (cut_counted count h.stage h (record l { owing = cut_answer l.owing }) are)

-- 4. All frames.

all_counted : (limit llid : ℕ) (frames : List Brings) →
    AreOfHand (tries_since_told limit llid frames) (attempts limit llid frames).ledger.hand
all_counted limit llid [] = refl
all_counted limit llid (b ∷ earlier) =
    let f : ℕ = length earlier in
    let l : Ledger = (attempts limit llid earlier).ledger in
    let z : Ledger = readied limit llid f b l in
    let fits : FitsLedger f z.hand z.owing = readied_fits limit llid f b l (carries limit llid earlier).fits in
    goes_begun (tries_since_told limit llid earlier) llid f b.free z.hand z (hand_fits f z.hand z.owing fits)
    (readied_counted (tries_since_told limit llid earlier) limit llid f b l (all_counted limit llid earlier))

few_of_hand : (count : ℕ) (hand : Option Hand) → AreOfHand count hand → count ≤ 4
few_of_hand count None are = omega (arith, are)
few_of_hand count (Some h) are = let few = are.0 in let most = are.1 in omega arith

-- no packet has a fifth try
pub four_tries : HasFourTries
four_tries limit llid frames =
    few_of_hand (tries_since_told limit llid frames) (attempts limit llid frames).ledger.hand (all_counted limit llid frames)
