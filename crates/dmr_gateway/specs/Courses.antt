-- How long each attempt of a slot stands: until all its bursts are out, or it is cut or replaced. Which goes first, and how many
-- tries a packet has.
use Rattle.std.specs.Prelude.{◌≡◌, ℕ, ◌+◌, ◌<◌, ◌≤◌, ◌==◌, ◌⊎◌, Bool, true, false, not, ◌&&◌, List, [], ◌∷◌, length, Option, Some}
use Rattle.std.specs.Prelude.{None, is_some, unwrap_or, slice_get}
use Rattle.std.specs.Prelude.{if◌then◌else◌}
use Rattle.std.specs.List.{AllByRecursion}
use Rattle.std.specs.Option.{option_or}
use Rattle.dmr_gateway.specs.Answers.{flag_count}
use Rattle.dmr_gateway.specs.declared.answers.Due.{Due}
use Rattle.dmr_gateway.specs.SlotBurst.{SlotBurst}
use Rattle.dmr_gateway.specs.AttemptMeaning.{AnswerOrTry, Answers, Tries, Attempt, Stage, Ready, Begun, Awaits, Hand, Ledger}
use Rattle.dmr_gateway.specs.AttemptMeaning.{Brings}
use Rattle.dmr_gateway.specs.AttemptMeaning.{attempts}
use Rattle.dmr_gateway.specs.AttemptMeaning.{bursts_of}

-- 1. The frames of a run, by their numbers.

-- The frames up to frame k, which is the newest of them then.
abbrev pub up_to : ℕ → List Brings → List Brings
up_to k [] = []
up_to k (newest ∷ earlier) = if length earlier == k then newest ∷ earlier else up_to k earlier

-- Whether the newest of these frames is free.
abbrev pub newest_is_free : List Brings → Bool
newest_is_free [] = false
newest_is_free (newest ∷ earlier) = newest.free

-- Whether an answer is due in the newest of these frames.
abbrev pub has_due : List Brings → Bool
has_due [] = false
has_due (newest ∷ earlier) = is_some newest.due

-- The newest frame is free, this attempt stands in it, and this burst goes out.
pub record StandsInFrame (limit llid : ℕ) (a : Attempt) (burst : Option SlotBurst) (frames : List Brings) : Type 0 where
  pub free : newest_is_free frames ≡ true
  pub stands : (attempts limit llid frames).stands ≡ Some a
  pub sends : (attempts limit llid frames).burst ≡ burst

-- 2. An attempt, and all of them.

-- Whether a slot sends an answer, and not a try of a packet.
abbrev pub is_answer : AnswerOrTry → Bool
is_answer (Answers due) = true
is_answer (Tries packet route number selection) = false

-- An attempt is broken off in the newest frame: it is cut, since the frame isn't free, or replaced, an answer by one that is due.
abbrev pub IsBrokenOff : Attempt → List Brings → Type 0
IsBrokenOff a frames = (newest_is_free frames ≡ false) ⊎ ((is_answer a.what ≡ true) × (has_due frames ≡ true))

-- An attempt has ended with so many bursts out: these are all; or no frame has come since; or it was broken off in the next one.
abbrev pub HasEnded : ℕ → List Brings → Attempt → ℕ → Type 0
HasEnded llid frames a out =
    (out ≡ length (bursts_of llid a.what))
    ⊎ ((a.first + out ≡ length frames)
    ⊎ ((a.first + out < length frames) × IsBrokenOff a (up_to (a.first + out) frames)))

-- An attempt stands in consecutive free frames from its first on, and sends its burst number k in the frame k behind that.
pub record HasCourse (limit llid : ℕ) (frames : List Brings) (a : Attempt) : Type 0 where
  pub out : ℕ
  pub some : 0 < out
  pub most : out ≤ length (bursts_of llid a.what)
  pub so_far : a.first + out ≤ length frames
  pub sends : (k : ℕ) → k < out →
      StandsInFrame limit llid a (unwrap_or (slice_get (bursts_of llid a.what) k) None) (up_to (a.first + k) frames)
  pub ended : HasEnded llid frames a out

-- The attempts up to frame f, the newest of them first: the one that stands in frame f joins them where f is its first.
abbrev pub joined_by : ℕ → Option Attempt → List Attempt → List Attempt
joined_by f None begun = begun
joined_by f (Some a) begun = if a.first == f then a ∷ begun else begun

-- All attempts, the newest of them first: those that stand in a frame which is their first.
abbrev pub all_attempts : ℕ → ℕ → List Brings → List Attempt
all_attempts limit llid [] = []
all_attempts limit llid (newest ∷ earlier) =
    joined_by (length earlier) (attempts limit llid (newest ∷ earlier)).stands (all_attempts limit llid earlier)

-- 3. Frames in which nothing goes out.

-- A packet in this stage has no try to send: its last try is out, and it awaits an answer.
abbrev pub IsNotDue : Stage → Type 0
IsNotDue Ready = ⊥
IsNotDue (Begun first) = ⊥
IsNotDue (Awaits ended) = Unit {0}

-- No try is due or begun: no packet is in hand, or the one in hand awaits an answer.
abbrev pub HasNoTryDue : Option Hand → Type 0
HasNoTryDue None = Unit {0}
HasNoTryDue (Some h) = IsNotDue h.stage

-- Nothing is to be sent: no answer is held, and no try is due.
abbrev pub HasNothingDue : Ledger → Type 0
HasNothingDue l = (l.owing ≡ None) × HasNoTryDue l.hand

-- 4. Over all frames, whatever they bring.

-- Each attempt has its course; a burst goes out of the newest attempt alone; and a free frame without one has nothing due.
pub record AreAttempts (limit llid : ℕ) (frames : List Brings) : Type 0 where
  pub courses : AllByRecursion (HasCourse limit llid frames) (all_attempts limit llid frames)
  pub newest : (a : Attempt) → (attempts limit llid frames).stands ≡ Some a →
      (older : List Attempt) × (all_attempts limit llid frames ≡ a ∷ older)
  pub silent : (attempts limit llid frames).stands ≡ None → (attempts limit llid frames).burst ≡ None
  pub idle : newest_is_free frames ≡ true → (attempts limit llid frames).stands ≡ None
      → HasNothingDue (attempts limit llid frames).ledger

-- Whatever frames bring, with whatever LLID and room in the queue, attempts have their courses in them.
abbrev pub AttemptsStand : Type 0
AttemptsStand = (limit llid : ℕ) (frames : List Brings) → AreAttempts limit llid frames

-- 5. An answer goes before a try.

-- A try of a packet begins in this frame: it stands in it, and it is its first frame.
abbrev pub begins_try : ℕ → Option Attempt → Bool
begins_try f None = false
begins_try f (Some a) = not (is_answer a.what) && (a.first == f)

-- The last burst of an answer goes out in this frame, of what stands in it.
abbrev pub ends_answer : ℕ → Option Attempt → Bool
ends_answer f None = false
ends_answer f (Some a) = ends a.what
  where
    -- An answer ends with the last of its flags, or with its header where it has none.
    ends : AnswerOrTry → Bool
    ends (Answers due) = a.first + flag_count due == f
    ends (Tries packet route number selection) = false

-- The answer that is still owed after these frames: the one that was due last, until its last burst is out.
abbrev pub still_due_after : ℕ → ℕ → List Brings → Option Due
still_due_after limit llid [] = None
still_due_after limit llid (newest ∷ earlier) =
    if ends_answer (length earlier) (attempts limit llid (newest ∷ earlier)).stands then None
    else option_or newest.due (still_due_after limit llid earlier)

-- In a frame in which a try begins, no answer is due, and none is still owed.
abbrev pub AnswersGoFirst : Type 0
AnswersGoFirst =
    (limit llid : ℕ) (newest : Brings) (earlier : List Brings) →
    begins_try (length earlier) (attempts limit llid (newest ∷ earlier)).stands ≡ true →
    option_or newest.due (still_due_after limit llid earlier) ≡ None

-- 6. Four tries.

-- How many tries have begun since it was last told what became of a packet, from the frame on in which it was told; in all frames
-- where it never was. One packet is in hand until it is told what became of it, so that its tries are among these.
abbrev pub tries_since_told : ℕ → ℕ → List Brings → ℕ
tries_since_told limit llid [] = 0
tries_since_told limit llid (newest ∷ earlier) =
    let now = attempts limit llid (newest ∷ earlier) in
    (if begins_try (length earlier) now.stands then 1 else 0)
    + (if is_some now.ledger.outcome then 0 else tries_since_told limit llid earlier)

-- Whatever frames bring, no packet has a fifth try.
abbrev pub HasFourTries : Type 0
HasFourTries = (limit llid : ℕ) (frames : List Brings) → tries_since_told limit llid frames ≤ 4
