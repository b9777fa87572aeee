-- Over all frames each attempt stands from its first one on until all its bursts are out, or it is broken off.
use Rattle.std.proofs.Common.{◌≡◌, ℕ, suc, ◌+◌, ◌-◌, ◌<◌, ◌≤◌, ltb, eqb, Bool, true, false, cond, ◌⊎◌, inl, inr, List, []}
use Rattle.std.proofs.Common.{◌∷◌, length, Option, Some, None, refl, sym, ◌∙◌, ap, subst, arith}
use Rattle.std.proofs.lemmas.Bool.{ltb-true, lt-ltb}
use Rattle.std.proofs.lemmas.Bool.Decides.{eqb_tells}
use Rattle.std.specs.List.{AllByRecursion}
use Rattle.std.specs.Prelude.{is_some}
use Rattle.dmr_gateway.specs.declared.answers.Due.{Due}
use Rattle.dmr_gateway.specs.Answers.{flag_count}
use Rattle.dmr_gateway.specs.AttemptMeaning.{AnswerOrTry, Answers, Tries, Attempt, Ledger, Brings, bursts_of}
use Rattle.dmr_gateway.specs.AttemptMeaning.{attempts}
use Rattle.dmr_gateway.specs.AttemptMeaning.{ledger_owes}
use Rattle.dmr_gateway.specs.AttemptMeaning.{told}
use Rattle.dmr_gateway.specs.Courses.{up_to, StandsInFrame, is_answer, IsBrokenOff, HasEnded, HasCourse, joined_by}
use Rattle.dmr_gateway.specs.Courses.{all_attempts, AttemptsStand}
use Rattle.dmr_gateway.proofs.KeptByAttempts.{length_bursts, length_answers, burst_at_place}
use Rattle.dmr_gateway.proofs.FrameSteps.{Leaves, hears_leaves}
use Rattle.dmr_gateway.proofs.AttemptBursts.{FitsLedger, joined, heard, readied, readied_fits, both_fits, hand_fits}
use Rattle.dmr_gateway.proofs.AttemptBursts.{frame_fits}
use Rattle.dmr_gateway.proofs.AttemptSteps.{begun_by, unfinished, burst_in, replaced_by, Moves, goes_moves, told_begun, waits_begun}
use Rattle.dmr_gateway.proofs.AttemptSteps.{owes_begun, taken_begun}

-- 1. What was begun, and what is.

some_bursts : (llid : ℕ) (what : AnswerOrTry) → 0 < length (bursts_of llid what)
some_bursts llid (Answers due) = let l = length_answers due 0 (suc (flag_count due)) in omega (arith, l)
some_bursts llid (Tries packet route number selection) = let l = length_bursts llid packet route number selection in
    omega (arith, l)

replaced_at : (x a : Attempt) (answers : Bool) → cond answers None (Some x) ≡ Some a → ◌≡◌ {A = Option Attempt} (Some x) (Some a)
replaced_at x a true e = cc
replaced_at x a false e = e

replaced_some : (due : Option Due) (begun : Option Attempt) (a : Attempt) → replaced_by due begun ≡ Some a → begun ≡ Some a
replaced_some None begun a e = e
replaced_some (Some due) None a e = e
replaced_some (Some due) (Some x) a e = replaced_at x a (is_answer x.what) e

unfinished_at : (llid n : ℕ) (x a : Attempt) (more : Bool) → ltb n (x.first + length (bursts_of llid x.what)) ≡ more →
    cond more (Some x) None ≡ Some a →
    ◌≡◌ {A = Option Attempt} (Some x) (Some a) × (n < a.first + length (bursts_of llid a.what))
unfinished_at llid n x a true t e =
    let same : x ≡ a = cc in (
      e,
      subst (λ (y : Attempt). n < y.first + length (bursts_of llid y.what)) same
          (ltb-true n (x.first + length (bursts_of llid x.what)) t),
    )
unfinished_at llid n x a false t e = cc

unfinished_some : (llid n : ℕ) (stands : Option Attempt) (a : Attempt) → unfinished llid n stands ≡ Some a →
    (stands ≡ Some a) × (n < a.first + length (bursts_of llid a.what))
unfinished_some llid n None a e = cc
unfinished_some llid n (Some x) a e = unfinished_at llid n x a (ltb n (x.first + length (bursts_of llid x.what))) refl e

unfinished_is : (llid n : ℕ) (stands : Option Attempt) (a : Attempt) → stands ≡ Some a →
    n < a.first + length (bursts_of llid a.what) → unfinished llid n stands ≡ Some a
unfinished_is llid n stands a e lt =
    ap (unfinished llid n) e
    ∙ ap (λ more. cond more (Some a) None) (lt-ltb n (a.first + length (bursts_of llid a.what)) lt)

readied_begun : (limit llid f : ℕ) (b : Brings) (l : Ledger) → FitsLedger f l.hand l.owing →
    begun_by (readied limit llid f b l).hand (readied limit llid f b l).owing ≡ replaced_by b.due (begun_by l.hand l.owing)
readied_begun limit llid f b l fits =
    let x : Ledger = heard limit llid f b l in
    let y : Ledger = ledger_owes b.due x in
    let k : Leaves f (joined limit b l) x = hears_leaves llid f b.heard (joined limit b l) (hand_fits f l.hand l.owing fits) in
    taken_begun y.hand y
    ∙ (owes_begun b.due x
    ∙ (ap (λ owing. replaced_by b.due (begun_by x.hand owing)) k.owing
    ∙ (ap (replaced_by b.due) (waits_begun f (told llid b.heard (joined limit b l)).hand
    (told llid b.heard (joined limit b l)) l.owing)
    ∙ ap (replaced_by b.due) (told_begun llid b.heard l.hand (joined limit b l) l.owing))))

-- 2. One more frame.

-- What was kept after some frames, and of the attempt that stands in the newest.
pub record Carries (limit llid : ℕ) (frames : List Brings) : Type 0 where
  pub fits : FitsLedger (length frames) (attempts limit llid frames).ledger.hand (attempts limit llid frames).ledger.owing
  pub kept : begun_by (attempts limit llid frames).ledger.hand (attempts limit llid frames).ledger.owing
      ≡ unfinished llid (length frames) (attempts limit llid frames).stands
  pub within : (a : Attempt) → (attempts limit llid frames).stands ≡ Some a →
      (a.first < length frames) × (length frames ≤ a.first + length (bursts_of llid a.what))

-- What the newest frame makes of the attempt that stood before.
pub record Steps (limit llid : ℕ) (b : Brings) (earlier : List Brings) : Type 0 where
  pub moves : Moves llid (length earlier) b.free
      (replaced_by b.due (unfinished llid (length earlier) (attempts limit llid earlier).stands))
      (attempts limit llid (b ∷ earlier))

steps : (limit llid : ℕ) (b : Brings) (earlier : List Brings) → Carries limit llid earlier → Steps limit llid b earlier
steps limit llid b earlier k =
    let l : Ledger = (attempts limit llid earlier).ledger in
    let f : ℕ = length earlier in
    let z : Ledger = readied limit llid f b l in
    let m : Moves llid f b.free (begun_by z.hand z.owing) (attempts limit llid (b ∷ earlier)) =
    goes_moves llid f b.free z.hand z (both_fits f z.hand z.owing (readied_fits limit llid f b l k.fits)) in
    record {
      moves = subst (λ begun. Moves llid f b.free begun (attempts limit llid (b ∷ earlier)))
          (readied_begun limit llid f b l k.fits ∙ ap (replaced_by b.due) k.kept) m;
    }

-- the attempt that stands was begun in this frame, or stood in the one before
since : (limit llid : ℕ) (b : Brings) (earlier : List Brings) (a : Attempt) → Steps limit llid b earlier →
    (attempts limit llid (b ∷ earlier)).stands ≡ Some a →
    (a.first ≡ length earlier)
    ⊎ (((attempts limit llid earlier).stands ≡ Some a) × (length earlier < a.first + length (bursts_of llid a.what)))
since limit llid b earlier a s e =
    elim (s.moves.from a e).1 [
      | inl first ↦ inl first
      | inr begun ↦ inr (unfinished_some llid (length earlier) (attempts limit llid earlier).stands a
          (replaced_some b.due (unfinished llid (length earlier) (attempts limit llid earlier).stands) a begun))
    ]

carries_within : (limit llid : ℕ) (b : Brings) (earlier : List Brings) (a : Attempt) → Carries limit llid earlier →
    Steps limit llid b earlier → (attempts limit llid (b ∷ earlier)).stands ≡ Some a →
    (a.first < suc (length earlier)) × (suc (length earlier) ≤ a.first + length (bursts_of llid a.what))
carries_within limit llid b earlier a k s e =
    let some = some_bursts llid a.what in
    elim (since limit llid b earlier a s e) [
      | inl first ↦ (omega (arith, first), omega (arith, first, some))
      | inr stood ↦ (let w = k.within a stood.0 in let lt = w.0 in omega (arith, lt), let le = stood.1 in omega (arith, le))
    ]

-- After any frames the ledger fits, and the attempt that was begun is the one that stands, where that isn't all out.
pub carries : (limit llid : ℕ) (frames : List Brings) → Carries limit llid frames
carries limit llid [] = record { fits = tt; kept = refl; within = λ a e. cc }
carries limit llid (b ∷ earlier) =
    let k : Carries limit llid earlier = carries limit llid earlier in
    let s : Steps limit llid b earlier = steps limit llid b earlier k in
    let one : length earlier + 1 ≡ suc (length earlier) = omega arith in
    record {
      fits = subst (λ n. FitsLedger n (attempts limit llid (b ∷ earlier)).ledger.hand
          (attempts limit llid (b ∷ earlier)).ledger.owing)
          one (frame_fits limit llid (length earlier) b (attempts limit llid earlier).ledger k.fits);
      kept = s.moves.kept ∙ ap (λ n. unfinished llid n (attempts limit llid (b ∷ earlier)).stands) one;
      within = λ a e. carries_within limit llid b earlier a k s e;
    }

-- what stood and isn't all out stands on, or is broken off
goes_or_breaks : (limit llid : ℕ) (b : Brings) (earlier : List Brings) (a : Attempt) (due : Option Due) (free : Bool) → b.due
    ≡ due →
    b.free ≡ free → ((replaced_by due (Some a) ≡ Some a) ⊎ ((is_answer a.what ≡ true) × (is_some due ≡ true))) →
    ((replaced_by due (Some a) ≡ Some a) → free ≡ true → (attempts limit llid (b ∷ earlier)).stands ≡ Some a) →
    ((attempts limit llid (b ∷ earlier)).stands ≡ Some a) ⊎ IsBrokenOff a (b ∷ earlier)
goes_or_breaks limit llid b earlier a due true d e (inl same) on = inl (on same refl)
goes_or_breaks limit llid b earlier a due false d e same on = inr (inl e)
goes_or_breaks limit llid b earlier a due true d e (inr new) on = inr (inr (new.0, ap is_some d ∙ new.1))

replaced_or_same : (due : Option Due) (a : Attempt) (answers : Bool) → is_answer a.what ≡ answers →
    (replaced_by due (Some a) ≡ Some a) ⊎ ((is_answer a.what ≡ true) × (is_some due ≡ true))
replaced_or_same None a answers e = inl refl
replaced_or_same (Some due) a true e = inr (e, refl)
replaced_or_same (Some due) a false e = inl (ap (λ answers. cond answers None (Some a)) e)

continues : (limit llid : ℕ) (b : Brings) (earlier : List Brings) (a : Attempt) → Steps limit llid b earlier →
    (attempts limit llid earlier).stands ≡ Some a → length earlier < a.first + length (bursts_of llid a.what) →
    ((attempts limit llid (b ∷ earlier)).stands ≡ Some a) ⊎ IsBrokenOff a (b ∷ earlier)
continues limit llid b earlier a s stood lt =
    let u : unfinished llid (length earlier) (attempts limit llid earlier).stands ≡ Some a =
    unfinished_is llid (length earlier) (attempts limit llid earlier).stands a stood lt in
    goes_or_breaks limit llid b earlier a b.due b.free refl refl (replaced_or_same b.due a (is_answer a.what) refl)
    (λ same free. s.moves.on a (ap (replaced_by b.due) u ∙ same) free)

-- 3. Frames by their numbers.

unequal : (m n : ℕ) → n < m → eqb m n ≡ false
unequal m n lt =
    elim (eqb_tells m n) [
      | inl p ↦ let e : m ≡ n = p.1 in absurd (omega arith)
      | inr p ↦ p.0
    ]

equal : (m n : ℕ) → m ≡ n → eqb m n ≡ true
equal m n e =
    elim (eqb_tells m n) [
      | inl p ↦ p.0
      | inr p ↦ absurd (p.1 e)
    ]

differs : (m n : ℕ) → m < n → eqb m n ≡ false
differs m n lt =
    elim (eqb_tells m n) [
      | inl p ↦ let e : m ≡ n = p.1 in absurd (omega arith)
      | inr p ↦ p.0
    ]

up_earlier : (b : Brings) (earlier : List Brings) (k : ℕ) → k < length earlier → up_to k (b ∷ earlier) ≡ up_to k earlier
up_earlier b earlier k lt = ap (λ here. cond here (b ∷ earlier) (up_to k earlier)) (unequal (length earlier) k lt)

up_newest : (b : Brings) (earlier : List Brings) (k : ℕ) → length earlier ≡ k → up_to k (b ∷ earlier) ≡ b ∷ earlier
up_newest b earlier k e = ap (λ here. cond here (b ∷ earlier) (up_to k earlier)) (equal (length earlier) k e)

up_last : (frames : List Brings) (k : ℕ) → suc k ≡ length frames → up_to k frames ≡ frames
up_last [] k e = absurd (omega arith)
up_last (b ∷ earlier) k e = up_newest b earlier k (omega arith)

-- 4. Courses.

-- the newest frame, as one in which an attempt stands
stands_newest : (limit llid : ℕ) (b : Brings) (earlier : List Brings) (a : Attempt) (k : ℕ) → Steps limit llid b earlier →
    (attempts limit llid (b ∷ earlier)).stands ≡ Some a → a.first + k ≡ length earlier →
    StandsInFrame limit llid a (burst_at_place (bursts_of llid a.what) k) (up_to (a.first + k) (b ∷ earlier))
stands_newest limit llid b earlier a k s e here =
    let place : length earlier - a.first ≡ k = omega (arith, here) in
    let in_newest : StandsInFrame limit llid a (burst_at_place (bursts_of llid a.what) k) (b ∷ earlier) =
    record {
      free = (s.moves.from a e).0;
      stands = e;
      sends = s.moves.sends ∙ (ap (burst_in llid (length earlier)) e ∙ ap (burst_at_place (bursts_of llid a.what)) place);
    } in
    subst (StandsInFrame limit llid a (burst_at_place (bursts_of llid a.what) k))
    (sym (up_newest b earlier (a.first + k) (sym here))) in_newest

-- and an earlier one
stands_earlier : (limit llid : ℕ) (b : Brings) (earlier : List Brings) (a : Attempt) (k : ℕ) → a.first + k < length earlier →
    StandsInFrame limit llid a (burst_at_place (bursts_of llid a.what) k) (up_to (a.first + k) earlier) →
    StandsInFrame limit llid a (burst_at_place (bursts_of llid a.what) k) (up_to (a.first + k) (b ∷ earlier))
stands_earlier limit llid b earlier a k lt old =
    subst (StandsInFrame limit llid a (burst_at_place (bursts_of llid a.what) k)) (sym (up_earlier b earlier (a.first + k) lt)) old

-- one that is over, or that is broken off now, has no burst more
stays : (limit llid : ℕ) (b : Brings) (earlier : List Brings) (a : Attempt) (h : HasCourse limit llid earlier a) →
    HasEnded llid (b ∷ earlier) a h.out → HasCourse limit llid (b ∷ earlier) a
stays limit llid b earlier a h ended =
    let far = h.so_far in
    record {
      out = h.out;
      some = h.some;
      most = h.most;
      so_far = omega (arith, far);
      sends = λ k lt. stands_earlier limit llid b earlier a k (omega (arith, far, lt)) (h.sends k lt);
      ended = ended;
    }

-- one that stands on has one more
one_more : (limit llid : ℕ) (b : Brings) (earlier : List Brings) (a : Attempt) (h : HasCourse limit llid earlier a) →
    Steps limit llid b earlier → a.first + h.out ≡ length earlier → h.out < length (bursts_of llid a.what) →
    (attempts limit llid (b ∷ earlier)).stands ≡ Some a → HasCourse limit llid (b ∷ earlier) a
one_more limit llid b earlier a h s here more e =
    record {
      out = h.out + 1;
      some = omega arith;
      most = omega (arith, more);
      so_far = omega (arith, here);
      sends = λ k lt. elim (eqb_tells k h.out) [
        | inl p ↦ let same : k ≡ h.out = p.1 in stands_newest limit llid b earlier a k s e (omega (arith, here, same))
        | inr p ↦ let other : k ≡ h.out → ⊥ = p.1 in
            let below : k < h.out = omega (arith, lt, other) in
            stands_earlier limit llid b earlier a k (omega (arith, here, below)) (h.sends k below)
      ];
      ended = inr (inl (omega (arith, here)));
    }

-- in which frame it stood last
stood_last : (limit llid : ℕ) (earlier : List Brings) (a : Attempt) (h : HasCourse limit llid earlier a) →
    a.first + h.out ≡ length earlier → (attempts limit llid earlier).stands ≡ Some a
stood_last limit llid earlier a h here =
    let some = h.some in
    let last : suc (a.first + (h.out - 1)) ≡ length earlier = omega (arith, here, some) in
    subst (λ frames. (attempts limit llid frames).stands ≡ Some a) (up_last earlier (a.first + (h.out - 1)) last)
    (h.sends (h.out - 1) (omega (arith, some))).stands

goes_on : (limit llid : ℕ) (b : Brings) (earlier : List Brings) (a : Attempt) (h : HasCourse limit llid earlier a) →
    Steps limit llid b earlier → a.first + h.out ≡ length earlier → h.out < length (bursts_of llid a.what) →
    HasCourse limit llid (b ∷ earlier) a
goes_on limit llid b earlier a h s here more =
    elim (continues limit llid b earlier a s (stood_last limit llid earlier a h here) (omega (arith, here, more))) [
      | inl e ↦ one_more limit llid b earlier a h s here more e
      | inr broken ↦ stays limit llid b earlier a h (inr (inr (
        omega (arith, here),
        subst (IsBrokenOff a) (sym (up_newest b earlier (a.first + h.out) (sym here))) broken,
      )))
    ]

course_on : (limit llid : ℕ) (b : Brings) (earlier : List Brings) → Steps limit llid b earlier → (a : Attempt) →
    HasCourse limit llid earlier a → HasCourse limit llid (b ∷ earlier) a
course_on limit llid b earlier s a h =
    let most = h.most in
    elim h.ended [
      | inl whole ↦ stays limit llid b earlier a h (inl whole)
      | inr (inl here) ↦ elim (eqb_tells h.out (length (bursts_of llid a.what))) [
        | inl p ↦ stays limit llid b earlier a h (inl p.1)
        | inr p ↦ let other : h.out ≡ length (bursts_of llid a.what) → ⊥ = p.1 in
            goes_on limit llid b earlier a h s here (omega (arith, most, other))
      ]
      | inr (inr broken) ↦ let lt = broken.0 in
          stays limit llid b earlier a h (inr (inr (
            omega (arith, lt),
            subst (IsBrokenOff a) (sym (up_earlier b earlier (a.first + h.out) lt)) broken.1,
          )))
    ]

begins : (limit llid : ℕ) (b : Brings) (earlier : List Brings) (a : Attempt) → Steps limit llid b earlier →
    (attempts limit llid (b ∷ earlier)).stands ≡ Some a → a.first ≡ length earlier → HasCourse limit llid (b ∷ earlier) a
begins limit llid b earlier a s e here =
    let some = some_bursts llid a.what in
    record {
      out = 1;
      some = omega arith;
      most = omega (arith, some);
      so_far = omega (arith, here);
      sends = λ k lt. stands_newest limit llid b earlier a k s e (omega (arith, here, lt));
      ended = inr (inl (omega (arith, here)));
    }

-- 5. All attempts.

all_map : {X : Type 0} (P Q : X → Type 0) (xs : List X) → ((x : X) → P x → Q x) → AllByRecursion P xs → AllByRecursion Q xs
all_map {X} P Q [] f p = tt
all_map {X} P Q (x ∷ xs) f p = (f x p.0, all_map P Q xs f p.1)

joined_all : (P : Attempt → Type 0) (a : Attempt) (older : List Attempt) (new : Bool) → (new ≡ true → P a) →
    AllByRecursion P older → AllByRecursion P (cond new (a ∷ older) older)
joined_all P a older true p q = (p refl, q)
joined_all P a older false p q = q

first_here : (m n : ℕ) → eqb m n ≡ true → m ≡ n
first_here m n e =
    elim (eqb_tells m n) [
      | inl p ↦ p.1
      | inr p ↦ let z : true ≡ false = sym e ∙ p.0 in cc
    ]

courses_at : (limit llid : ℕ) (b : Brings) (earlier : List Brings) (stands : Option Attempt) → Steps limit llid b earlier →
    (attempts limit llid (b ∷ earlier)).stands ≡ stands →
    AllByRecursion (HasCourse limit llid earlier) (all_attempts limit llid earlier) →
    AllByRecursion (HasCourse limit llid (b ∷ earlier)) (joined_by (length earlier) stands (all_attempts limit llid earlier))
courses_at limit llid b earlier None s e old =
    all_map (HasCourse limit llid earlier) (HasCourse limit llid (b ∷ earlier)) (all_attempts limit llid earlier)
    (course_on limit llid b earlier s) old
courses_at limit llid b earlier (Some a) s e old =
    joined_all (HasCourse limit llid (b ∷ earlier)) a (all_attempts limit llid earlier) (eqb a.first (length earlier))
    (λ new. begins limit llid b earlier a s e (first_here a.first (length earlier) new))
    (all_map (HasCourse limit llid earlier) (HasCourse limit llid (b ∷ earlier)) (all_attempts limit llid earlier)
    (course_on limit llid b earlier s) old)

courses : (limit llid : ℕ) (frames : List Brings) → AllByRecursion (HasCourse limit llid frames) (all_attempts limit llid frames)
courses limit llid [] = tt
courses limit llid (b ∷ earlier) =
    courses_at limit llid b earlier (attempts limit llid (b ∷ earlier)).stands
    (steps limit llid b earlier (carries limit llid earlier))
    refl (courses limit llid earlier)

-- the attempt that stands is the newest of all
newest : (limit llid : ℕ) (frames : List Brings) (a : Attempt) → (attempts limit llid frames).stands ≡ Some a →
    (older : List Attempt) × (all_attempts limit llid frames ≡ a ∷ older)
newest limit llid [] a e = cc
newest limit llid (b ∷ earlier) a e =
    let k : Carries limit llid earlier = carries limit llid earlier in
    let s : Steps limit llid b earlier = steps limit llid b earlier k in
    let all : all_attempts limit llid (b ∷ earlier)
    ≡ cond (eqb a.first (length earlier)) (a ∷ all_attempts limit llid earlier) (all_attempts limit llid earlier) =
    ap (λ stands. joined_by (length earlier) stands (all_attempts limit llid earlier)) e in
    elim (since limit llid b earlier a s e) [
      | inl first ↦ (
        all_attempts limit llid earlier,
        all ∙ ap (λ new. cond new (a ∷ all_attempts limit llid earlier) (all_attempts limit llid earlier))
            (equal a.first (length earlier) first),
      )
      | inr stood ↦ let w = k.within a stood.0 in
          let lt : a.first < length earlier = w.0 in
          let old = newest limit llid earlier a stood.0 in (
            old.0,
            all
                ∙ (ap (λ new. cond new (a ∷ all_attempts limit llid earlier) (all_attempts limit llid earlier))
                (differs a.first (length earlier) lt)
                ∙ old.1),
          )
    ]

-- Whatever frames bring, each attempt has its course in them, and a burst goes out of the newest alone.
pub attempts_stand : AttemptsStand
attempts_stand limit llid [] =
    record { courses = tt; newest = λ a e. cc; silent = λ e. refl; idle = λ free e. cc }
attempts_stand limit llid (b ∷ earlier) =
    let s : Steps limit llid b earlier = steps limit llid b earlier (carries limit llid earlier) in
    record {
      courses = courses limit llid (b ∷ earlier);
      newest = newest limit llid (b ∷ earlier);
      silent = λ e. s.moves.sends ∙ ap (burst_in llid (length earlier)) e;
      idle = s.moves.idle;
    }
