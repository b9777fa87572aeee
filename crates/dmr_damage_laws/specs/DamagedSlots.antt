-- The law of a slot of a recording that is written with damage within the limits.
use Rattle.std.specs.Prelude.{◌≡◌, ℕ, List, Option, length}
use Rattle.std.specs.List.{AllZip}
use Rattle.dmr_damage.specs.LimitedSlots.{IsDamagedLine}
use Rattle.dmr_voice.specs.CallMeaning.{Transmission, sent_list}
use Rattle.dmr_voice.specs.DamagedRecordings.{IsDamagedRecordingOf, meant}
use Rattle.dmr_voice.specs.WellFormed.{IsWellFormed}
use Rattle.dmr_damage_laws.specs.SameTransmissions.{IsSameTransmission}

-- These other slots are a recording, damaged within the limits, of well-formed transmissions. They are the same as those that were
-- sent but for the fields of superframes, and mean the same, slot by slot, each with the vocoder bits of its own recording.
pub record MeansTheSame (colour lead : ℕ) (ts : List (Transmission × ℕ)) (slots others : List (Option (List ℕ))) : Type 0 where
  pub sent : List (Transmission × ℕ)
  pub alike : AllZip IsSameTransmission ts sent
  pub well_formed : IsWellFormed colour sent
  pub recording : IsDamagedRecordingOf colour (sent_list colour lead sent) others
  pub meaning : meant (sent_list colour lead sent) others ≡ meant (sent_list colour lead ts) slots

-- So it is with what a recording of any well-formed transmissions is written as, all of it.
abbrev pub DamagedSlotsMeanTheSame : Type 0
DamagedSlotsMeanTheSame =
    (colour lead : ℕ) (ts : List (Transmission × ℕ)) (slots outs : List (Option (List ℕ))) →
    IsWellFormed colour ts → IsDamagedRecordingOf colour (sent_list colour lead ts) slots →
    IsDamagedLine colour slots outs → length outs ≡ length slots →
    MeansTheSame colour lead ts slots outs
