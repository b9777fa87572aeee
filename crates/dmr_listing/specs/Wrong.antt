-- How many bits of a burst are wrong, field by field, as far as what was read tells it.
use Rattle.std.specs.Prelude.{◌≡◌, ℕ, ◌≤◌, Bool, true, false, List, Some}
use Rattle.dmr_bits.specs.Bits.{distance, part}
use Rattle.dmr_bptc.specs.ProductWord.{IsWritten}
use Rattle.dmr_burst.specs.Emb.{emb_of}
use Rattle.dmr_burst.specs.Layout.{sync_field, slot_type_field, emb_field, information_field}
use Rattle.dmr_burst.specs.SlotType.{slot_type_of}
use Rattle.dmr_burst.specs.Sync.{sync_word}
use Rattle.dmr_burst.specs.declared.emb.Emb.{Emb}
use Rattle.dmr_burst.specs.declared.slot_type.SlotType.{SlotType}
use Rattle.dmr_burst.specs.declared.sync.Side.{Side}
use Rattle.dmr_burst.specs.declared.sync.Sync.{Sync}
use Rattle.dmr_codes.specs.Seven.{IsGolay20, IsResidue16}
use Rattle.dmr_listing.specs.declared.wrong.Wrong.{Wrong}
use Rattle.dmr_reading.specs.declared.reading.Information.{Information}
use Rattle.dmr_reading.specs.declared.reading.Information.TheVariants.{Coded}
use Rattle.dmr_reading.specs.declared.reading.Reading.{Reading}
use Rattle.dmr_reading.specs.declared.reading.Reading.TheVariants.{Data, Untyped, VoiceSync, Voice, Unreadable}

-- the data sync of a side
abbrev pub data_sync : Side → Sync
data_sync side = record { side = side; voice = false }

-- of a sync: in its centre
abbrev pub wrong_of_sync : Sync → List Bool → ℕ
wrong_of_sync sync bits = distance (sync_word sync.side sync.voice) (sync_field bits)

-- of a slot type: from the word that says it
pub record IsWrongOfSlotType (slot_type : SlotType) (bits : List Bool) (wrong : ℕ) : Type 0 where
  pub word : List Bool
  pub is_word : IsGolay20 word
  pub says : slot_type_of word ≡ slot_type
  pub within : wrong ≤ 3
  pub count : distance word (slot_type_field bits) ≡ wrong

-- of an EMB: from the word that says it
pub record IsWrongOfEmb (emb : Emb) (bits : List Bool) (wrong : ℕ) : Type 0 where
  pub word : List Bool
  pub is_word : IsResidue16 word
  pub says : emb_of word ≡ emb
  pub within : wrong ≤ 2
  pub count : distance word (emb_field bits) ≡ wrong

-- of information in the product code: from the written form of what it was read as, over the 195 places that the code covers;
-- place 0 holds R(3), which no word covers
pub record IsWrongOfInformation (message bits : List Bool) (wrong : ℕ) : Type 0 where
  pub written : List Bool
  pub form : IsWritten message written
  pub count : distance (part written 1 196) (part (information_field bits) 1 196) ≡ wrong

-- of the information of a data burst, where it was read
abbrev pub IsWrongIn : Information → List Bool → ℕ → Type 0
IsWrongIn (Coded (Some message)) bits wrong = IsWrongOfInformation message bits wrong
IsWrongIn information bits wrong = wrong ≡ 0

-- of a whole burst, by what it was read as
abbrev pub IsWrong : List Bool → Reading → Wrong → Type 0
IsWrong bits (Data side slot_type information) wrong = (wrong.sync ≡ wrong_of_sync (data_sync side) bits)
    × IsWrongOfSlotType slot_type bits wrong.slot_type × IsWrongIn information bits wrong.information × (wrong.emb ≡ 0)
IsWrong bits (Untyped side) wrong = (wrong.sync ≡ wrong_of_sync (data_sync side) bits)
    × (wrong.slot_type ≡ 0) × (wrong.information ≡ 0) × (wrong.emb ≡ 0)
IsWrong bits (VoiceSync side) wrong = (wrong.sync ≡ wrong_of_sync (record { side = side; voice = true }) bits)
    × (wrong.slot_type ≡ 0) × (wrong.information ≡ 0) × (wrong.emb ≡ 0)
IsWrong bits (Voice emb) wrong = IsWrongOfEmb emb bits wrong.emb
    × (wrong.sync ≡ 0) × (wrong.slot_type ≡ 0) × (wrong.information ≡ 0)
IsWrong bits Unreadable wrong = (wrong.sync ≡ 0) × (wrong.slot_type ≡ 0) × (wrong.information ≡ 0) × (wrong.emb ≡ 0)
