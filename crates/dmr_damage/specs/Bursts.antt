-- What a burst may be written as within the limits, by what it counts as.
use Rattle.std.specs.Prelude.{◌≡◌, ◌≢◌, ℕ, Bool, true, false, List, Option, Some, None, MatchOption, length}
use Rattle.dmr_bits.specs.Bits.{bits_of_octets, number_of}
use Rattle.dmr_burst.specs.Emb.{HasEmb}
use Rattle.dmr_burst.specs.Layout.{information_field, slot_type_field, embedded_field, vocoder_field}
use Rattle.dmr_burst.specs.SlotType.{HasSlotType}
use Rattle.dmr_burst.specs.Sync.{HasSync}
use Rattle.dmr_burst.specs.declared.emb.Emb.{Emb}
use Rattle.dmr_burst.specs.declared.slot_type.SlotType.{SlotType}
use Rattle.dmr_burst.specs.declared.sync.Side.TheVariants.{Ms}
use Rattle.dmr_hearing.specs.Damage.{IsDamagedData, HasNoMobileSync}
use Rattle.dmr_hearing.specs.Hearing.{IsHeardData}
use Rattle.dmr_damage.specs.declared.mark.BurstMark.{BurstMark}
use Rattle.dmr_damage.specs.declared.mark.BurstMark.TheVariants.{Data, PlaceA, PlaceBToF, Unrepeated, Other}

-- The sync of a mobile station's voice has at most three wrong bits, and the vocoder bits are as they were.
pub record IsDamagedVoiceSync (old new : List Bool) : Type 0 where
  pub sync : HasSync (record { side = Ms; voice = true }) new
  pub vocoder : vocoder_field new ≡ vocoder_field old

-- The EMB has at most two wrong bits, and the vocoder bits are as they were. The embedded field is what it is written as, and as it
-- was where it isn't damaged.
pub record IsDamagedVoice (field : Option ℕ) (old new : List Bool) : Type 0 where
  pub emb : (emb : Emb) → HasEmb emb old → HasEmb emb new
  pub embedded : MatchOption field (embedded_field new ≡ embedded_field old) (λ written. number_of (embedded_field new) ≡ written)
  pub vocoder : vocoder_field new ≡ vocoder_field old

-- The sync of a mobile station's data has at most three wrong bits, and so has the slot type where it reads. Where it doesn't, it
-- is as it was, and so is the information.
pub record IsDamagedUnheardData (old new : List Bool) : Type 0 where
  pub sync : HasSync (record { side = Ms; voice = false }) new
  pub slot_type : (slot_type : SlotType) → HasSlotType slot_type old → HasSlotType slot_type new
  pub unread : ((slot_type : SlotType) → HasSlotType slot_type old → ⊥) → slot_type_field new ≡ slot_type_field old
  pub information : information_field new ≡ information_field old

-- The EMB has at most two wrong bits, the centre is more than three from the syncs of a mobile station, and all else is as it was.
pub record IsDamagedForeignVoice (old new : List Bool) : Type 0 where
  pub emb : (emb : Emb) → HasEmb emb old → HasEmb emb new
  pub centre : HasNoMobileSync new
  pub embedded : embedded_field new ≡ embedded_field old
  pub vocoder : vocoder_field new ≡ vocoder_field old

-- Where nothing is repeated, a burst is damaged by its sync, or by its EMB where that is of another colour code. Any other is as it
-- was.
pub record IsDamagedUnrepeated (colour : ℕ) (old new : List Bool) : Type 0 where
  pub voice : HasSync (record { side = Ms; voice = true }) old → IsDamagedVoiceSync old new
  pub data_sync : HasSync (record { side = Ms; voice = false }) old → IsDamagedUnheardData old new
  pub foreign : HasNoMobileSync old → (emb : Emb) → HasEmb emb old → emb.colour ≢ colour → IsDamagedForeignVoice old new
  pub others : HasNoMobileSync old → ((emb : Emb) → HasEmb emb old → emb.colour ≡ colour) → new ≡ old

-- The bits that a burst may be written as, by what it counts as, and by what its embedded field is written as.
abbrev pub IsDamagedBy : ℕ → BurstMark → Option ℕ → List Bool → List Bool → Type 0
IsDamagedBy colour (Data data_burst) field old new = IsDamagedData colour data_burst.kind data_burst.information new
IsDamagedBy colour PlaceA field old new = IsDamagedVoiceSync old new
IsDamagedBy colour PlaceBToF field old new = IsDamagedVoice field old new
IsDamagedBy colour Unrepeated field old new = IsDamagedUnrepeated colour old new
IsDamagedBy colour Other field old new = new ≡ old

-- What a burst counts as is what it is heard as.
abbrev pub IsMarked : ℕ → BurstMark → List Bool → Type 0
IsMarked colour (Data data_burst) bits = IsHeardData colour data_burst bits
IsMarked colour mark bits = Unit {0}

-- What a slot may be written as: silence as silence, and a burst as a damaged burst.
abbrev pub IsDamagedSlot : ℕ → BurstMark → Option ℕ → Option (List ℕ) → Option (List ℕ) → Type 0
IsDamagedSlot colour mark field None out = out ≡ None
IsDamagedSlot colour mark field (Some octets) out =
    (damaged : List ℕ) × (out ≡ Some damaged) × (length damaged ≡ 33)
    × IsDamagedBy colour mark field (bits_of_octets octets) (bits_of_octets damaged)
