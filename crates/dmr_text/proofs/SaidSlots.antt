-- The slots that lines say go on, line by line.
use Rattle.std.proofs.Common.{◌≡◌, inl, inr, ℕ, ◌+◌, ◌*◌, ◌/◌, ◌<◌, ◌≤◌, zero, suc, List, [], ◌∷◌, ◌++◌, length}
use Rattle.std.proofs.Common.{Option, None, Some, refl, sym, ap, ◌∙◌, subst, arith, append-nil, append_assoc}
use Rattle.std.specs.List.{AllByRecursion, AllZip, flat_map}
use Rattle.std.proofs.ByRecursion.{All-push}
use Rattle.std.proofs.lemmas.List.{length-append, length-replicate}
use Rattle.std.proofs.lemmas.List.Concat.{flat_map-append}
use Rattle.std.proofs.KnownBytes.{Appends-nil}
use Rattle.dmr_words.specs.Lines.{Line, TextState, worded_behind}
use Rattle.dmr_words.specs.Words.{line_words}
use Rattle.dmr_words.proofs.Telling.{tells_none}
use Rattle.dmr_recording.specs.Places.{entries, place_by_number}
use Rattle.dmr_recording.specs.Recordings.{IsBurstOf, IsSlotOf, RecordedSlot, slot_limit_of, spelling}
use Rattle.dmr_recording.specs.declared.place.Place.{Place}
use Rattle.dmr_recording.specs.declared.recording.RecordedBurst.{RecordedBurst}
use Rattle.dmr_recording.specs.declared.recording.Recording.{Recording}
use Rattle.dmr_text.specs.Files.{records_octets}
use Rattle.dmr_text.specs.Files.File.{Slots}
use Rattle.dmr_text.specs.Says.{SaysEntry, words_of_lines}
use Rattle.dmr_text.specs.Spelling.{frames_words}
use Rattle.dmr_text.specs.Telling.{IsTaken, Names, SaysWhole}
use Rattle.dmr_text.proofs.Silences.{silent}
use Rattle.dmr_text.proofs.Slots.{entries_burst, entries_silence}
use Rattle.dmr_text.proofs.Zips.{words_more, zip_push}

-- silent slots more have no entry
entries_silent : (n : ℕ) (slots : List RecordedSlot) → entries 0 (slots ++ silent n) ≡ entries 0 slots
entries_silent zero slots = ap (λ (l : List RecordedSlot). entries 0 l) (append-nil slots)
entries_silent (suc n) slots =
    ap (λ (l : List RecordedSlot). entries 0 l) (sym (append_assoc slots (None ∷ []) (silent n)))
    ∙ entries_silent n (slots ++ None ∷ [])
    ∙ entries_silence 0 slots

all_silent : (of : Recording) (n : ℕ) (slots : List RecordedSlot) → AllByRecursion (IsSlotOf of) slots
    → AllByRecursion (IsSlotOf of) (slots ++ silent n)
all_silent of zero slots all = subst (AllByRecursion (IsSlotOf of)) (sym (append-nil slots)) all
all_silent of (suc n) slots all =
    subst (AllByRecursion (IsSlotOf of)) (append_assoc slots (None ∷ []) (silent n))
    (all_silent of n (slots ++ None ∷ []) (All-push (IsSlotOf of) slots None all tt))

-- so many silent slots more make a list so much longer
pub length_silent : (n : ℕ) (slots : List RecordedSlot) → length (slots ++ silent n) ≡ length slots + n
length_silent n slots = length-append slots (silent n) ∙ ap (λ k. length slots + k) (length-replicate n None)

-- a burst behind silent slots
pub behind_silence : (n : ℕ) (slots : List RecordedSlot) (burst : RecordedBurst)
    → slots ++ (silent n ++ Some burst ∷ []) ≡ (slots ++ silent n) ++ Some burst ∷ []
behind_silence n slots burst = sym (append_assoc slots (silent n) (Some burst ∷ []))

entries_named : (n : ℕ) (slots : List RecordedSlot) (burst : RecordedBurst)
    → entries 0 (slots ++ (silent n ++ Some burst ∷ [])) ≡ entries 0 slots ++ (place_by_number (length slots + n), burst) ∷ []
entries_named n slots burst =
    ap (λ (l : List RecordedSlot). entries 0 l) (behind_silence n slots burst)
    ∙ entries_burst 0 (slots ++ silent n) burst
    ∙ ap (λ (l : List (Place × RecordedBurst)). l ++ (place_by_number (0 + length (slots ++ silent n)), burst) ∷ [])
    (entries_silent n slots)
    ∙ ap (λ (k : ℕ). entries 0 slots ++ (place_by_number k, burst) ∷ []) long
  where
    long : 0 + length (slots ++ silent n) ≡ length slots + n
    long = let e = length_silent n slots in omega (arith, e)

-- the same, with a burst behind them: by one more
pub length_named : (n : ℕ) (slots : List RecordedSlot) (burst : RecordedBurst)
    → length (slots ++ (silent n ++ Some burst ∷ [])) ≡ length slots + n + 1
length_named n slots burst =
    let whole = ap length (behind_silence n slots burst) in
    let e = length-append (slots ++ silent n) (Some burst ∷ []) in
    let f = length_silent n slots in
    omega (arith, whole, e, f)

-- the octets of slots more stand behind those of the recording
pub octets_named : (of : Recording) (slots more : List RecordedSlot)
    → records_octets (Slots of (slots ++ more)) ≡ records_octets (Slots of slots) ++ flat_map (spelling of) more
octets_named of slots more = flat_map-append (spelling of) slots more

-- a line more says a burst
pub names_burst : (of : Recording) (slots : List RecordedSlot) (n number : ℕ) (burst : RecordedBurst) (line : Line)
    → length slots + n ≡ number → number < slot_limit_of of → IsBurstOf of burst
    → SaysEntry of (line_words line.octets) (place_by_number number, burst)
    → (said : List Line) → Names said (Slots of slots)
    → Names (said ++ line ∷ []) (Slots of (slots ++ (silent n ++ Some burst ∷ [])))
names_burst of slots n number burst line at below is_burst entry said names = record {
  says = subst (λ (l : List (Place × RecordedBurst)). AllZip (SaysEntry of) (words_of_lines (said ++ line ∷ [])) l)
      (sym (entries_named n slots burst
      ∙ ap (λ (k : ℕ). entries 0 slots ++ (place_by_number k, burst) ∷ []) at))
      (subst (λ (w : List (List (List ℕ))). AllZip (SaysEntry of) w (entries 0 slots ++ (place_by_number number, burst) ∷ []))
      (sym (words_more said line))
      (zip_push (SaysEntry of) (words_of_lines said) (entries 0 slots) (line_words line.octets) (place_by_number number, burst)
      names.says entry));
  records = subst (AllByRecursion (IsSlotOf of)) (sym (behind_silence n slots burst))
      (All-push (IsSlotOf of) (slots ++ silent n) (Some burst) (all_silent of n slots names.records) is_burst);
  within = let e = length_named n slots burst in omega (arith, e, at, below);
  named = inr (slots ++ silent n, burst, behind_silence n slots burst);
}

-- the last line says how many frames there are
pub says_frames : (of : Recording) (slots : List RecordedSlot) (n frames : ℕ) (line : Line)
    → length slots + n ≡ 2 * frames → 2 * frames ≤ slot_limit_of of → line_words line.octets ≡ frames_words frames
    → (said : List Line) → Names said (Slots of slots)
    → SaysWhole (said ++ line ∷ []) (Slots of (slots ++ silent n))
says_frames of slots n frames line even below count said names =
    let long = length_silent n slots in
    record {
      before = said;
      last = line;
      parts = refl;
      says = subst (λ (l : List (Place × RecordedBurst)). AllZip (SaysEntry of) (words_of_lines said) l)
          (sym (entries_silent n slots))
          names.says;
      count = count ∙ ap frames_words (let e : frames ≡ length (slots ++ silent n) / 2 = omega (arith, long, even) in e);
      records = all_silent of n slots names.records;
      within = omega (arith, long, even, below);
      whole = omega (arith, long, even);
    }

-- no line was told
pub slots_untold : (of : Recording) (s : TextState) (left held : Option (List ℕ)) → IsTaken (Slots of []) s s left left held held
slots_untold of s left held = record {
  said = [];
  told = tells_none worded_behind s left;
  names = record { says = tt; records = tt; within = omega arith; named = inl refl };
  written = Appends-nil held;
}
