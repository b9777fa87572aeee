-- What is listed goes on, slot by slot.
use Rattle.std.proofs.Common.{◌≡◌, ℕ, ◌+◌, ◌≤◌, List, [], ◌∷◌, ◌++◌, length, map, Option, None, Some, refl, sym, ap, ◌∙◌, subst}
use Rattle.std.proofs.Common.{arith, append-nil}
use Rattle.std.proofs.ByRecursion.{All-push}
use Rattle.std.specs.List.{flat_map}
use Rattle.std.specs.Io.KnownBytes.{Consumes}
use Rattle.std.proofs.KnownBytes.{Consumes-trans, Consumes-nil}
use Rattle.dmr_recording.proofs.Spelled.{spelled_more}
use Rattle.dmr_listing.specs.ListingRules.{GivenInTurn, IsLineAt, IsListed, IsRead, Lists, ListingTurn, begun, turn_after}
use Rattle.dmr_listing.specs.ListingRules.{listed_bursts, turn_passed}
use Rattle.dmr_recording.specs.Places.{entries}
use Rattle.dmr_recording.specs.declared.place.Place.{Place}
use Rattle.dmr_recording.specs.Recordings.{IsBurstOf, IsSlotOf, RecordedSlot, slot_limit_of, spelling}
use Rattle.dmr_listing.specs.declared.burst_line.BurstLine.{BurstLine}
use Rattle.dmr_listing.specs.declared.listed_burst.ListedBurst.{ListedBurst}
use Rattle.dmr_recording.specs.declared.recording.RecordedBurst.{RecordedBurst}
use Rattle.dmr_recording.specs.declared.recording.Recording.{Recording}
use Rattle.dmr_recording.specs.declared.recording.Recording.TheVariants.{Uplink, Downlink}

-- some were given in turn, and then more
pub given_then : {S X : Type 0} (Takes : S → X → S → Type 0) (old between new : S) (xs ys : List X)
    → GivenInTurn Takes old xs between → GivenInTurn Takes between ys new → GivenInTurn Takes old (xs ++ ys) new
given_then Takes old between new [] ys none more = subst (λ s. GivenInTurn Takes s ys new) none more
given_then Takes old between new (x ∷ xs) ys (next, first, rest) more = (
  next,
  first,
  given_then Takes next between new xs ys rest more,
)

-- some were given in turn, and then one
pub given_one_more : {S X : Type 0} (Takes : S → X → S → Type 0) (old between new : S) (xs : List X) (x : X)
    → GivenInTurn Takes old xs between → Takes between x new → GivenInTurn Takes old (xs ++ x ∷ []) new
given_one_more Takes old between new xs x given one = given_then Takes old between new xs (x ∷ []) given (new, one, refl)

-- a silent slot more
pub Lists-silent : (turn : ListingTurn) (slots : List RecordedSlot) (lines : List BurstLine) (end : ListingTurn)
    → Lists turn slots lines end
    → Lists turn (slots ++ None ∷ []) lines (turn_passed end)
Lists-silent turn [] lines end (none, same) = (none, ap turn_passed same)
Lists-silent turn (None ∷ slots) lines end lists = Lists-silent (turn_passed turn) slots lines end lists
Lists-silent turn (Some b ∷ slots) [] end lists = absurd lists
Lists-silent turn (Some b ∷ slots) (line ∷ lines) end (first, lists) = (
  first,
  Lists-silent (turn_after line b turn) slots lines end lists,
)

-- a burst more, with its line
pub Lists-burst : (turn : ListingTurn) (slots : List RecordedSlot) (lines : List BurstLine) (end : ListingTurn) (burst :
    RecordedBurst) (line : BurstLine)
    → Lists turn slots lines end → IsLineAt end burst line
    → Lists turn (slots ++ Some burst ∷ []) (lines ++ line ∷ []) (turn_after line burst end)
Lists-burst turn [] lines end burst line (none, same) shows = rw none (
  subst (λ (t : ListingTurn). IsLineAt t burst line) same shows,
  (refl, ap (turn_after line burst) same),
)
Lists-burst turn (None ∷ slots) lines end burst line lists shows =
    Lists-burst (turn_passed turn) slots lines end burst line lists shows
Lists-burst turn (Some b ∷ slots) [] end burst line lists shows = absurd lists
Lists-burst turn (Some b ∷ slots) (one ∷ lines) end burst line (first, lists) shows = (
  first,
  Lists-burst (turn_after one b turn) slots lines end burst line lists shows,
)

-- with a silent slot more there are no bursts more
bursts_silent : (slots : List RecordedSlot) (lines : List BurstLine)
    → listed_bursts (slots ++ None ∷ []) lines ≡ listed_bursts slots lines
bursts_silent [] lines = refl
bursts_silent (None ∷ slots) lines = bursts_silent slots lines
bursts_silent (Some b ∷ slots) [] = refl
bursts_silent (Some b ∷ slots) (line ∷ lines) =
    ap (λ (l : List ListedBurst). record { burst = b; line = line } ∷ l) (bursts_silent slots lines)

-- a burst more, with its line, stands behind the others
bursts_more : (turn : ListingTurn) (slots : List RecordedSlot) (lines : List BurstLine) (end : ListingTurn) (listed : ListedBurst)
    → Lists turn slots lines end
    → listed_bursts (slots ++ Some listed.burst ∷ []) (lines ++ listed.line ∷ []) ≡ listed_bursts slots lines ++ listed ∷ []
bursts_more turn [] lines end listed (none, same) = rw none refl
bursts_more turn (None ∷ slots) lines end listed lists = bursts_more (turn_passed turn) slots lines end listed lists
bursts_more turn (Some b ∷ slots) [] end listed lists = absurd lists
bursts_more turn (Some b ∷ slots) (one ∷ lines) end listed (first, lists) =
    ap (λ (l : List ListedBurst). record { burst = b; line = one } ∷ l)
    (bursts_more (turn_after one b turn) slots lines end listed lists)

pub slots_counted : (turn : ListingTurn) (slots : List RecordedSlot) (lines : List BurstLine) (end : ListingTurn)
    → Lists turn slots lines end
    → end.slots ≡ turn.slots + length slots
slots_counted turn [] lines end (none, same) = ap (λ (t : ListingTurn). t.slots) same ∙ omega arith
slots_counted turn (None ∷ slots) lines end lists =
    let rest = slots_counted (turn_passed turn) slots lines end lists in
    omega arith
slots_counted turn (Some b ∷ slots) [] end lists = absurd lists
slots_counted turn (Some b ∷ slots) (line ∷ lines) end (first, lists) =
    let rest = slots_counted (turn_after line b turn) slots lines end lists in
    omega arith

-- before the first slot nothing was read
pub read_none : (recording : Recording) (left : Option (List ℕ)) → IsRead recording [] [] [] begun left left
read_none recording left = record { each = tt; octets = Consumes-nil left; listed = (refl, refl) }

-- a silent slot more is read, and it has no line
pub read_silence : (recording : Recording) (slots : List RecordedSlot) (lines : List BurstLine) (end : ListingTurn)
    (a b c : Option (List ℕ)) → IsRead recording slots lines [] end a b → Consumes b c (spelling recording None)
    → IsRead recording (slots ++ None ∷ []) lines [] (turn_passed end) a c
read_silence recording slots lines end a b c read octets = record {
  each = All-push (IsSlotOf recording) slots None read.each tt;
  octets = spelled_more recording slots None a b c read.octets octets;
  listed = Lists-silent begun slots lines end read.listed;
}

-- a burst more is read, and its line stands behind the others
pub read_burst : (recording : Recording) (slots : List RecordedSlot) (lines : List BurstLine) (end : ListingTurn)
    (burst : RecordedBurst) (line : BurstLine) (a b c : Option (List ℕ)) → IsRead recording slots lines [] end a b
    → IsBurstOf recording burst → Consumes b c (spelling recording (Some burst)) → IsLineAt end burst line
    → IsRead recording (slots ++ Some burst ∷ []) (lines ++ line ∷ []) [] (turn_after line burst end) a c
read_burst recording slots lines end burst line a b c read is_burst octets shows = record {
  each = All-push (IsSlotOf recording) slots (Some burst) read.each is_burst;
  octets = spelled_more recording slots (Some burst) a b c read.octets octets;
  listed = Lists-burst begun slots lines end burst line read.listed shows;
}

-- some octets more, and no line
pub read_part : (recording : Recording) (slots : List RecordedSlot) (lines : List BurstLine) (part : List ℕ) (end : ListingTurn)
    (a b c : Option (List ℕ)) → IsRead recording slots lines [] end a b → Consumes b c part
    → IsRead recording slots lines part end a c
read_part recording slots lines part end a b c read octets = record {
  each = read.each;
  octets = Consumes-trans a b c _ part (subst (Consumes a b) (append-nil (flat_map (spelling recording) slots)) read.octets) octets;
  listed = read.listed;
}

-- before the first slot a taker was given nothing
pub listed_none : {L : Type 0} (Takes : L → ListedBurst → L → Type 0) (recording : Recording) (left : Option (List ℕ)) (lines : L)
    → IsListed Takes recording [] [] begun left left lines lines
listed_none Takes recording left lines = record { lines = []; read = read_none recording left; given = refl }

-- with a silent slot more the taker was given no line more
pub listed_silence : {L : Type 0} (Takes : L → ListedBurst → L → Type 0) (recording : Recording) (slots : List RecordedSlot)
    (end : ListingTurn) (a b c : Option (List ℕ)) (d e : L) → IsListed Takes recording slots [] end a b d e
    → Consumes b c (spelling recording None) → IsListed Takes recording (slots ++ None ∷ []) [] (turn_passed end) a c d e
listed_silence Takes recording slots end a b c d e listed octets = record {
  lines = listed.lines;
  read = read_silence recording slots listed.lines end a b c listed.read octets;
  given = subst (λ (l : List ListedBurst). GivenInTurn Takes d l e) (sym (bursts_silent slots listed.lines)) listed.given;
}

-- with a burst more the taker was given it with its line behind the others
pub listed_burst : {L : Type 0} (Takes : L → ListedBurst → L → Type 0) (recording : Recording) (slots : List RecordedSlot)
    (end : ListingTurn) (burst : RecordedBurst) (line : BurstLine) (a b c : Option (List ℕ)) (d e f : L)
    → IsListed Takes recording slots [] end a b d e → IsBurstOf recording burst
    → Consumes b c (spelling recording (Some burst)) → IsLineAt end burst line
    → Takes e (record { burst = burst; line = line }) f
    → IsListed Takes recording (slots ++ Some burst ∷ []) [] (turn_after line burst end) a c d f
listed_burst Takes recording slots end burst line a b c d e f listed is_burst octets shows takes = record {
  lines = listed.lines ++ line ∷ [];
  read = read_burst recording slots listed.lines end burst line a b c listed.read is_burst octets shows;
  given =
      let one : ListedBurst = record { burst = burst; line = line } in
      subst (λ (l : List ListedBurst). GivenInTurn Takes d l f)
      (sym (bursts_more begun slots listed.lines end one listed.read.listed))
      (given_one_more Takes d e f (listed_bursts slots listed.lines) one listed.given takes);
}

-- some octets more, and no line
pub listed_part : {L : Type 0} (Takes : L → ListedBurst → L → Type 0) (recording : Recording) (slots : List RecordedSlot)
    (part : List ℕ) (end : ListingTurn) (a b c : Option (List ℕ)) (d e : L) → IsListed Takes recording slots [] end a b d e
    → Consumes b c part → IsListed Takes recording slots part end a c d e
listed_part Takes recording slots part end a b c d e listed octets = record {
  lines = listed.lines;
  read = read_part recording slots listed.lines part end a b c listed.read octets;
  given = listed.given;
}

-- No recording has more slots than this.
pub most_few : (recording : Recording) → slot_limit_of recording ≤ 2097164
most_few Uplink = omega arith
most_few Downlink = omega arith

-- the bursts of slots have the places of the lines
pub bursts_placed : (turn : ListingTurn) (slots : List RecordedSlot) (lines : List BurstLine) (end : ListingTurn)
    → Lists turn slots lines end
    → map (λ (listed : ListedBurst). listed.line.place) (listed_bursts slots lines) ≡ map (λ (line : BurstLine). line.place) lines
bursts_placed turn [] lines end (none, same) = rw none refl
bursts_placed turn (None ∷ slots) lines end lists = bursts_placed (turn_passed turn) slots lines end lists
bursts_placed turn (Some b ∷ slots) [] end lists = absurd lists
bursts_placed turn (Some b ∷ slots) (line ∷ lines) end (first, lists) =
    ap (λ (l : List Place). line.place ∷ l) (bursts_placed (turn_after line b turn) slots lines end lists)

-- each line has the place of its burst
pub lines_placed : (turn : ListingTurn) (slots : List RecordedSlot) (lines : List BurstLine) (end : ListingTurn)
    → Lists turn slots lines end
    → map (λ (line : BurstLine). line.place) lines ≡ map (λ (entry : Place × RecordedBurst). entry.0) (entries turn.slots slots)
lines_placed turn [] lines end (none, same) = ap (map (λ (line : BurstLine). line.place)) none
lines_placed turn (None ∷ slots) lines end lists = lines_placed (turn_passed turn) slots lines end lists
lines_placed turn (Some b ∷ slots) [] end lists = absurd lists
lines_placed turn (Some b ∷ slots) (line ∷ lines) end (first, lists) =
    let rest = lines_placed (turn_after line b turn) slots lines end lists in
    ap (λ (l : List Place). line.place ∷ l) rest ∙ ap (λ (p : Place). p ∷ map (λ (entry : Place × RecordedBurst). entry.0) (entries
    (turn.slots + 1) slots)) first.place
