-- Slots as they are recorded, and what they are heard as.
use Rattle.std.specs.Prelude.{◌≡◌, ℕ, List, [], ◌∷◌, length, Option, Some, None}
use Rattle.dmr_hearing.specs.Hearing.{Hears}
use Rattle.dmr_hearing.specs.Slots.{SentSlot, IsHeardAs, vocoder_of}
use Rattle.dmr_hearing.specs.declared.heard.Heard.{Heard}

-- Silence, or a burst of 33 octets: the fields of fewer would be too short to tell one sync word or slot type from another.
abbrev pub IsSilenceOr33Octets : Option (List ℕ) → Type 0
IsSilenceOr33Octets None = Unit {0}
IsSilenceOr33Octets (Some octets) = length octets ≡ 33

-- Something that is heard as what was sent, with the vocoder bits of the slot.
pub record IsHearing (slot : Option (List ℕ)) (sent : SentSlot) (heard : Heard) : Type 0 where
  pub as_sent : IsHeardAs sent heard
  pub vocoder : heard.vocoder ≡ vocoder_of slot

-- Each slot of a recording is heard by its fields.
abbrev pub AreHeard : ℕ → List (Option (List ℕ)) → List Heard → Type 0
AreHeard colour [] [] = Unit {0}
AreHeard colour (slot ∷ slots) (heard ∷ hs) = Hears colour slot heard × AreHeard colour slots hs
AreHeard colour [] (heard ∷ hs) = ⊥
AreHeard colour (slot ∷ slots) [] = ⊥
