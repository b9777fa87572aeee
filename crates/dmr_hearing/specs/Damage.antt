-- What a slot sends, and what it may be recorded as.
use Rattle.std.specs.Prelude.{◌≡◌, ◌≢◌, ℕ, ◌<◌, Bool, true, false, List, Option, None, Some, MatchOption, length}
use Rattle.dmr_bits.specs.Bits.{bits_of_octets, number_of, octets_of, distance}
use Rattle.dmr_bptc.specs.Decoding.{IsDamaged}
use Rattle.dmr_bptc.specs.ProductWord.{IsProductWord, information as held_by}
use Rattle.dmr_burst.specs.Emb.{HasEmb}
use Rattle.dmr_burst.specs.Layout.{information_field, embedded_field, sync_field}
use Rattle.dmr_burst.specs.SlotType.{HasSlotType}
use Rattle.dmr_burst.specs.Sync.{HasSync, sync_word}
use Rattle.dmr_burst.specs.declared.sync.Side.TheVariants.{Ms}
use Rattle.dmr_checks.specs.Sealed.{IsSealed}
use Rattle.dmr_hearing.specs.DataTypes.{payload_of}
use Rattle.dmr_bptc.specs.ProductWord.{IsWritten}
use Rattle.dmr_hearing.specs.Slots.{SentSlot, Silent, Data, VoiceSync, Voice, ForeignVoice, ForeignData, CutOff}
use Rattle.dmr_hearing.specs.declared.data_types.Payload.{Payload}
use Rattle.dmr_hearing.specs.declared.data_types.Payload.TheVariants.{Word, Sealed, LinkControl, Raw, Nothing}
use Rattle.dmr_link.specs.Sealed.{IsLc}
use Rattle.dmr_link.specs.declared.full_lc.FullLc.{FullLc}

-- ---- what is sent
-- The information of a data burst, as it is repeated, and its link control, by what it holds.
abbrev pub Sends : Payload → List Bool → Option FullLc → Type 0
-- any 96 bits
Sends Word information lc = (message : List Bool) × IsWritten message information × (lc ≡ None)
-- 96 bits that are sealed under the mask
Sends (Sealed mask) information lc =
    (message : List Bool) × IsSealed mask (octets_of 12 message) × IsWritten message information × (lc ≡ None)
-- a link control that is sealed for its use
Sends (LinkControl lc_use) information lc =
    (sent : FullLc) × (message : List Bool) × IsLc lc_use sent message × IsWritten message information × (lc ≡ Some sent)
-- any 196 bits
Sends Raw information lc = (length information ≡ 196) × (lc ≡ None)
Sends Nothing information lc = ⊥

-- What a slot may send, by the colour code of the repeater.
abbrev pub IsSentSlot : ℕ → SentSlot → Type 0
IsSentSlot colour Silent = Unit {0}
IsSentSlot colour (Data kind information lc) = Sends (payload_of kind) information lc
IsSentSlot colour VoiceSync = Unit {0}
IsSentSlot colour (Voice emb embedded) = emb.colour ≡ colour
IsSentSlot colour (ForeignVoice emb) = emb.colour ≢ colour
IsSentSlot colour ForeignData = Unit {0}
IsSentSlot colour CutOff = Unit {0}

-- ---- what is recorded
-- What the information of a data burst may be recorded as, by what it holds: as it is sent where it is raw, and damaged within
-- the limits in a product word.
abbrev pub IsDamagedPayload : Payload → List Bool → List Bool → Type 0
IsDamagedPayload Raw information received = received ≡ information
IsDamagedPayload Nothing information received = ⊥
-- in a product word: of a word that holds the same 96 bits, whatever its reserved bits, at most one bit is wrong in each column
-- but one, and any in that one and in R(3)
IsDamagedPayload product information received =
    (word : List Bool) × IsProductWord word × (held_by word ≡ held_by information) × IsDamaged word received

-- A data burst of the colour code: at most three wrong bits in the sync, and three in the slot type.
pub record IsDamagedData (colour kind : ℕ) (information bits : List Bool) : Type 0 where
  pub sync : HasSync (record { side = Ms; voice = false }) bits
  pub slot_type : HasSlotType (record { colour = colour; kind = kind }) bits
  pub payload : IsDamagedPayload (payload_of kind) information (information_field bits)

-- A data burst of another colour code: the same, and its information may be any.
pub record IsDamagedForeignData (colour : ℕ) (bits : List Bool) : Type 0 where
  pub sync : HasSync (record { side = Ms; voice = false }) bits
  pub other : ℕ
  pub kind : ℕ
  pub foreign : other ≢ colour
  pub slot_type : HasSlotType (record { colour = other; kind = kind }) bits

-- The centre is more than three bits from both sync words of a mobile station.
pub record HasNoMobileSync (bits : List Bool) : Type 0 where
  pub voice : 3 < distance (sync_word Ms true) (sync_field bits)
  pub data_sync : 3 < distance (sync_word Ms false) (sync_field bits)

-- The burst that a slot is recorded as.
abbrev pub IsDamagedBurst : ℕ → SentSlot → List Bool → Type 0
IsDamagedBurst colour Silent bits = ⊥
IsDamagedBurst colour (Data kind information lc) bits = IsDamagedData colour kind information bits
-- at most three wrong bits in the sync
IsDamagedBurst colour VoiceSync bits = HasSync (record { side = Ms; voice = true }) bits
-- At most two wrong bits in the EMB, and the embedded field as it is received. That each row of the table of an embedded word has
-- at most one wrong bit is said elsewhere, of its four fields at once, where they are all received (`IsReceived`, Fields.antt).
IsDamagedBurst colour (Voice emb embedded) bits = HasEmb emb bits × (number_of (embedded_field bits) ≡ embedded)
IsDamagedBurst colour (ForeignVoice emb) bits = HasEmb emb bits × HasNoMobileSync bits
IsDamagedBurst colour ForeignData bits = IsDamagedForeignData colour bits
IsDamagedBurst colour CutOff bits = HasNoMobileSync bits

-- What a slot that was sent is recorded as, damaged within the limits: silence as nothing, and a burst as a burst.
pub record IsRecordedAs (colour : ℕ) (slot : SentSlot) (recorded : Option (List ℕ)) : Type 0 where
  pub sent : IsSentSlot colour slot
  pub damaged : MatchOption recorded (slot ≡ Silent) (λ octets. IsDamagedBurst colour slot (bits_of_octets octets))
