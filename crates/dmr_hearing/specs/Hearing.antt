-- What a slot of the uplink is heard as, whatever it holds.
use Rattle.std.specs.Prelude.{◌≡◌, ℕ, ◌↔◌, Bool, true, false, List, length, Option, Some, None, IfSome, IsTrue}
use Rattle.dmr_bits.specs.Bits.{bits_of_octets, number_of, octets_of}
use Rattle.dmr_bptc.specs.Decoding.{IsDecoded}
use Rattle.dmr_bptc.specs.ProductWord.{IsWritten}
use Rattle.dmr_burst.specs.Emb.{HasEmb}
use Rattle.dmr_burst.specs.Layout.{information_field, embedded_field, vocoder_field}
use Rattle.dmr_burst.specs.SlotType.{HasSlotType}
use Rattle.dmr_burst.specs.Sync.{HasSync}
use Rattle.dmr_burst.specs.declared.emb.Emb.{Emb}
use Rattle.dmr_burst.specs.declared.sync.Side.TheVariants.{Ms}
use Rattle.dmr_checks.specs.Sealed.{IsSealed}
use Rattle.dmr_hearing.specs.DataTypes.{payload_of}
use Rattle.dmr_hearing.specs.Slots.{silence}
use Rattle.dmr_hearing.specs.declared.data_types.Payload.{Payload}
use Rattle.dmr_hearing.specs.declared.data_types.Payload.TheVariants.{Word, Sealed, LinkControl, Raw, Nothing}
use Rattle.dmr_hearing.specs.declared.heard.DataBurst.{DataBurst}
use Rattle.dmr_hearing.specs.declared.heard.Heard.{Heard}
use Rattle.dmr_link.specs.Sealed.{IsLc, IsReadLc}
use Rattle.dmr_link.specs.declared.full_lc.FullLc.{FullLc}

-- What received information is read as, by what it holds: the information to repeat, and a link control.
abbrev pub Reads : Payload → List Bool → List Bool → Option FullLc → Type 0
-- a word: where the product code gives 96 bits, those are encoded anew
Reads Word received information lc =
    (message : List Bool) × IsDecoded received (Some message) × IsWritten message information × (lc ≡ None)
-- sealed bits: the same, where they are sealed under the mask
Reads (Sealed mask) received information lc =
    (message : List Bool) × IsDecoded received (Some message) × IsSealed mask (octets_of 12 message)
    × IsWritten message information × (lc ≡ None)
-- a link control: where one is read for its use, it is sealed and encoded anew
Reads (LinkControl lc_use) received information lc =
    (read : FullLc) × (message : List Bool) × IsReadLc lc_use received read × IsLc lc_use read message
    × IsWritten message information × (lc ≡ Some read)
-- raw bits are repeated as they are received
Reads Raw received information lc = (information ≡ received) × (lc ≡ None)
-- any other type is not read
Reads Nothing received information lc = ⊥

-- A burst is heard as a data burst: it has the data sync of a mobile station, a slot type of the colour code, and information
-- that its type reads so.
pub record IsHeardData (colour : ℕ) (data_burst : DataBurst) (bits : List Bool) : Type 0 where
  pub sync : HasSync (record { side = Ms; voice = false }) bits
  pub slot_type : HasSlotType (record { colour = colour; kind = data_burst.kind }) bits
  pub reads : Reads (payload_of data_burst.kind) (information_field bits) data_burst.information data_burst.link_control

-- What a burst is heard as. Each part is read whatever the others say.
pub record IsHeardBurst (colour : ℕ) (bits : List Bool) (heard : Heard) : Type 0 where
  -- a data burst that is heard is the burst's, and each data burst of the burst is heard
  pub data_burst_within : IfSome heard.data_burst (λ data_burst. IsHeardData colour data_burst bits)
  pub data_burst_only : (data_burst : DataBurst) → IsHeardData colour data_burst bits → heard.data_burst ≡ Some data_burst
  -- voice is the voice sync of a mobile station
  pub voice : IsTrue heard.voice ↔ HasSync (record { side = Ms; voice = true }) bits
  -- an EMB that is heard is the burst's, and each EMB of the burst is heard
  pub emb_within : IfSome heard.emb (λ emb. HasEmb emb bits)
  pub emb_only : (emb : Emb) → HasEmb emb bits → heard.emb ≡ Some emb
  pub embedded : heard.embedded ≡ number_of (embedded_field bits)
  pub vocoder : heard.vocoder ≡ vocoder_field bits

-- What a slot is heard as: silence as nothing, and a burst of 33 octets by its fields. Those of fewer octets would be too short to
-- tell one sync word or slot type from another.
abbrev pub Hears : ℕ → Option (List ℕ) → Heard → Type 0
Hears colour None heard = heard ≡ silence
Hears colour (Some octets) heard = (length octets ≡ 33) × IsHeardBurst colour (bits_of_octets octets) heard
