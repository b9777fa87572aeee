-- What is logged goes on, frame by frame.
use Rattle.std.proofs.Common.{◌≡◌, ℕ, ◌+◌, ◌*◌, ◌≤◌, List, [], ◌∷◌, ◌++◌, length, Option, Some, refl, ap, ◌∙◌, sym, subst}
use Rattle.std.proofs.Common.{arith, append-nil}
use Rattle.std.proofs.ByRecursion.{All-push}
use Rattle.std.proofs.lemmas.List.{length-append}
use Rattle.std.specs.List.{flat_map, AllByRecursion}
use Rattle.std.specs.Io.KnownBytes.{Consumes}
use Rattle.std.proofs.KnownBytes.{Consumes-trans, Consumes-nil}
use Rattle.dmr_listing.specs.ListingRules.{GivenInTurn}
use Rattle.dmr_log.specs.LogRules.{IsFrameLogged, recorded_burst}
use Rattle.dmr_log.specs.RecordingLogs.{IsFaultOfSlot, IsLoggedUpToFault, AreFramesTaken, Logs, RecordedFrames, slots_of_frames}
use Rattle.dmr_log.specs.declared.log.FrameTold.{FrameTold}
use Rattle.dmr_log.specs.declared.log.LogState.{LogState}
use Rattle.dmr_log.specs.declared.recording_log.ReadAt.{ReadAt}
use Rattle.dmr_recording.proofs.Spelled.{spelled_more, octets_more}
use Rattle.dmr_recording.specs.Places.{octet_behind, place_by_number}
use Rattle.dmr_recording.specs.Recordings.{IsSlotOf, RecordedSlot, ShowsSlotFaultOf, spelling}
use Rattle.dmr_recording.specs.declared.fault_line.FaultLine.{FaultLine}
use Rattle.dmr_recording.specs.declared.recording.Recording.TheVariants.{Uplink}

-- 1. Slots.

pub slots_more : (frames : RecordedFrames) (a b : RecordedSlot)
    → slots_of_frames (frames ++ (a, b) ∷ []) ≡ (slots_of_frames frames ++ a ∷ []) ++ b ∷ []
slots_more [] a b = refl
slots_more (f ∷ frames) a b = ap (λ (l : List RecordedSlot). f.0 ∷ f.1 ∷ l) (slots_more frames a b)

pub slots_long : (frames : RecordedFrames) → length (slots_of_frames frames) ≡ 2 * length frames
slots_long [] = refl
slots_long (f ∷ frames) = let rest = slots_long frames in omega (arith, rest)

-- 2. What is told.

-- an element more is given behind those that were given in turn
pub given_one_more : {S X : Type 0} (Takes : S → X → S → Type 0) (old between new : S) (xs : List X) (x : X)
    → GivenInTurn Takes old xs between → Takes between x new → GivenInTurn Takes old (xs ++ x ∷ []) new
given_one_more Takes old between new [] x none one = (new, subst (λ s. Takes s x new) none one, refl)
given_one_more Takes old between new (y ∷ xs) x (next, first, rest) one = (
  next,
  first,
  given_one_more Takes next between new xs x rest one,
)

-- a frame more is taken, and what is told of it stands behind the rest
pub logs_one_more : (log end next : LogState) (frames : RecordedFrames) (told : List FrameTold) (a b : RecordedSlot)
    → Logs log frames told end → IsFrameLogged end (recorded_burst a) (recorded_burst b) next
    → Logs log (frames ++ (a, b) ∷ []) (told ++ next.told ∷ []) next
logs_one_more log end next [] told a b (none, same) logged = rw none (
  next,
  subst (λ (s : LogState). IsFrameLogged s (recorded_burst a) (recorded_burst b) next) same logged,
  refl,
  (refl, refl),
)
logs_one_more log end next (f ∷ frames) [] a b logs logged = absurd logs
logs_one_more log end next (f ∷ frames) (t ∷ told) a b (step, first, same, rest) logged = (
  step,
  first,
  same,
  logs_one_more step end next frames told a b rest logged,
)

-- 3. What is taken.

pub taken_none : {L : Type 0} (Takes : L → FrameTold → L → Type 0) (log : LogState) (left : Option (List ℕ)) (lines : L)
    → AreFramesTaken Takes log [] [] [] log left left lines lines
taken_none Takes log left lines =
    record { told = []; each = tt; octets = Consumes-nil left; logged = (refl, refl); given = refl }

-- slot 1 of the next frame
pub taken_begun : {L : Type 0} (Takes : L → FrameTold → L → Type 0) (log end : LogState) (frames : RecordedFrames)
    (slot : RecordedSlot) (a b c : Option (List ℕ)) (d e : L) → AreFramesTaken Takes log frames [] [] end a b d e
    → IsSlotOf Uplink slot → Consumes b c (spelling Uplink slot) → AreFramesTaken Takes log frames (slot ∷ []) [] end a c d e
taken_begun Takes log end frames slot a b c d e taken is_slot octets =
    let none = append-nil (slots_of_frames frames) in
    record {
      told = taken.told;
      each = All-push (IsSlotOf Uplink) (slots_of_frames frames) slot
          (subst (AllByRecursion (IsSlotOf Uplink)) none taken.each) is_slot;
      octets = spelled_more Uplink (slots_of_frames frames) slot a b c
          (subst (λ (l : List RecordedSlot). Consumes a b (flat_map (spelling Uplink) l ++ [])) none taken.octets) octets;
      logged = taken.logged;
      given = taken.given;
    }

-- slot 2 behind it, and what is told of the frame
pub taken_frame : {L : Type 0} (Takes : L → FrameTold → L → Type 0) (log end next : LogState) (frames : RecordedFrames)
    (slot_1 slot_2 : RecordedSlot) (a b c : Option (List ℕ)) (d e f : L)
    → AreFramesTaken Takes log frames (slot_1 ∷ []) [] end a b d e
    → IsSlotOf Uplink slot_2 → Consumes b c (spelling Uplink slot_2)
    → IsFrameLogged end (recorded_burst slot_1) (recorded_burst slot_2) next → Takes e next.told f
    → AreFramesTaken Takes log (frames ++ (slot_1, slot_2) ∷ []) [] [] next a c d f
taken_frame Takes log end next frames slot_1 slot_2 a b c d e f taken is_slot octets logged takes =
    let more : slots_of_frames (frames ++ (slot_1, slot_2) ∷ []) ++ [] ≡ (slots_of_frames frames ++ slot_1 ∷ []) ++ slot_2 ∷ [] =
    append-nil (slots_of_frames (frames ++ (slot_1, slot_2) ∷ [])) ∙ slots_more frames slot_1 slot_2 in
    record {
      told = taken.told ++ next.told ∷ [];
      each = subst (AllByRecursion (IsSlotOf Uplink)) (sym more)
          (All-push (IsSlotOf Uplink) (slots_of_frames frames ++ slot_1 ∷ []) slot_2 taken.each is_slot);
      octets = subst (λ (l : List RecordedSlot). Consumes a c (flat_map (spelling Uplink) l ++ [])) (sym more)
          (spelled_more Uplink (slots_of_frames frames ++ slot_1 ∷ []) slot_2 a b c taken.octets octets);
      logged = logs_one_more log end next frames taken.told slot_1 slot_2 taken.logged logged;
      given = given_one_more Takes d e f taken.told next.told taken.given takes;
    }

-- some octets more
pub taken_part : {L : Type 0} (Takes : L → FrameTold → L → Type 0) (log end : LogState) (frames : RecordedFrames)
    (begun : List RecordedSlot) (part : List ℕ) (a b c : Option (List ℕ)) (d e : L)
    → AreFramesTaken Takes log frames begun [] end a b d e
    → Consumes b c part → AreFramesTaken Takes log frames begun part end a c d e
taken_part Takes log end frames begun part a b c d e taken octets = record {
  told = taken.told;
  each = taken.each;
  octets = Consumes-trans a b c _ part
      (subst (Consumes a b) (append-nil (flat_map (spelling Uplink) (slots_of_frames frames ++ begun))) taken.octets) octets;
  logged = taken.logged;
  given = taken.given;
}

-- 4. Octets.

-- where the next record begins, with slot 1 of a frame
pub octet_begun : (frames : RecordedFrames) (slot : RecordedSlot) (octet : ℕ)
    → octet ≡ octet_behind (spelling Uplink) (slots_of_frames frames)
    → octet + length (spelling Uplink slot) ≡ octet_behind (spelling Uplink) (slots_of_frames frames ++ slot ∷ [])
octet_begun frames slot octet e = octets_more Uplink (slots_of_frames frames) slot octet e

-- and with slot 2
pub octet_frame : (frames : RecordedFrames) (a b : RecordedSlot) (octet : ℕ)
    → octet ≡ octet_behind (spelling Uplink) (slots_of_frames frames ++ a ∷ [])
    → octet + length (spelling Uplink b) ≡ octet_behind (spelling Uplink) (slots_of_frames (frames ++ (a, b) ∷ []))
octet_frame frames a b octet e =
    octets_more Uplink (slots_of_frames frames ++ a ∷ []) b octet e
    ∙ ap (octet_behind (spelling Uplink)) (sym (slots_more frames a b))

-- 5. A fault.

-- where frames were taken and the slot behind them shows a fault, they were logged up to that fault
pub faulty : {L : Type 0} (Takes : L → FrameTold → L → Type 0) (log end : LogState) (frames : RecordedFrames)
    (begun : List RecordedSlot) (at : ReadAt) (fault : FaultLine) (a b c : Option (List ℕ)) (d e : L) → length begun ≤ 1
    → AreFramesTaken Takes log frames begun [] end a b d e → at.slots ≡ length (slots_of_frames frames ++ begun)
    → at.octet ≡ octet_behind (spelling Uplink) (slots_of_frames frames ++ begun) → IsFaultOfSlot at fault b c
    → IsLoggedUpToFault Takes fault log end a c d e
faulty Takes log end frames begun at fault a b c d e few taken slots octet shows = record {
  frames = frames;
  begun = begun;
  part = shows.part;
  few = few;
  taken = taken_part Takes log end frames begun shows.part a b c d e taken shows.octets;
  shown = subst (λ (n : ℕ). ShowsSlotFaultOf Uplink n fault.fault shows.part) slots shows.shown;
  octet = shows.octet ∙ octet;
  place = shows.place ∙ ap (λ (n : ℕ). Some (place_by_number n)) slots;
}

-- there are two slots for each frame
pub count_none : (frames : RecordedFrames) (n : ℕ) → n ≡ 2 * length frames → n ≡ length (slots_of_frames frames ++ [])
count_none frames n e =
    let long = slots_long frames in
    let none = ap length (append-nil (slots_of_frames frames)) in
    omega (arith, e, long, none)

-- with slot 1 of the next frame there is one more
pub count_begun : (frames : RecordedFrames) (slot : RecordedSlot) (n : ℕ) → n ≡ 2 * length frames + 1
    → n ≡ length (slots_of_frames frames ++ slot ∷ [])
count_begun frames slot n e =
    let long = slots_long frames in
    let one = length-append (slots_of_frames frames) (slot ∷ []) in
    omega (arith, e, long, one)
