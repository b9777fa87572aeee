-- What a line of a recording says.
use Rattle.std.specs.Prelude.{◌≡◌, ℕ, ◌*◌, ◌<◌, ◌≤◌, List}
use Rattle.dmr_recording.specs.Places.{place_by_number}
use Rattle.dmr_recording.specs.Recordings.{IsBurstOf, slot_limit_of}
use Rattle.dmr_recording.specs.declared.recording.Recording.{Recording}
use Rattle.dmr_text.specs.Says.{SaysEntry}
use Rattle.dmr_text.specs.Spelling.{frames_words}
use Rattle.dmr_text.specs.declared.import_recording.SlotLine.{SlotLine}
use Rattle.dmr_text.specs.declared.import_recording.SlotLine.TheVariants.{Burst, Last}

-- Behind so many slots these words say a burst in the slot of a number, or how many frames there are.
abbrev pub IsSlotLine : Recording → ℕ → List (List ℕ) → SlotLine → Type 0
IsSlotLine of count words (Burst number burst) = (count ≤ number) × (number < slot_limit_of of)
    × SaysEntry of words (place_by_number number, burst) × IsBurstOf of burst
IsSlotLine of count words (Last frames) = (count ≤ 2 * frames) × (2 * frames ≤ slot_limit_of of) × (words ≡ frames_words frames)
