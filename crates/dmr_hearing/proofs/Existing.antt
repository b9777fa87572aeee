-- Whatever a slot is recorded as, it is heard as something.
use Rattle.std.proofs.Common.{◌≡◌, ℕ, ◌≤◌, ◌⊎◌, Bool, true, false, List, length, Option, Some, None, IfSome, Ok, refl, sym, ap}
use Rattle.std.proofs.Common.{◌∙◌, subst, arith, inl, inr}
use Rattle.std.proofs.lemmas.Bool.{cases_eq, cases_lt}
use Rattle.dmr_bits.specs.Bits.{bits_of_octets, number_of, octets_of, distance}
use Rattle.dmr_bits.proofs.OctetFronts.{length-bits_of_octets, length-octets_of}
use Rattle.dmr_bptc.specs.Decoding.{IsDecoded}
use Rattle.dmr_bptc.proofs.Existing.{decoded_somehow, written_somehow, length-decoded}
use Rattle.dmr_burst.specs.Emb.{emb_of, HasEmb}
use Rattle.dmr_burst.specs.Layout.{information_field, slot_type_field, emb_field, embedded_field, sync_field, vocoder_field}
use Rattle.dmr_burst.specs.SlotType.{slot_type_of, HasSlotType}
use Rattle.dmr_burst.specs.Sync.{HasSync, sync_word}
use Rattle.dmr_burst.specs.declared.emb.Emb.{Emb}
use Rattle.dmr_burst.specs.declared.slot_type.SlotType.{SlotType}
use Rattle.dmr_burst.specs.declared.sync.Side.TheVariants.{Ms}
use Rattle.dmr_checks.specs.declared.sealing.Mask.{Mask}
use Rattle.dmr_checks.proofs.Existing.{sealed_or_not}
use Rattle.dmr_codes.specs.Code.{IsWord}
use Rattle.dmr_codes.specs.Seven.{golay20_columns, residue16_columns}
use Rattle.dmr_codes.proofs.Searching.{Decided, searched, word_or_not}
use Rattle.dmr_hearing.specs.DataTypes.{payload_of}
use Rattle.dmr_hearing.specs.Hearing.{Reads, IsHeardData, Hears}
use Rattle.dmr_hearing.specs.Reading.{IsReading}
use Rattle.dmr_hearing.specs.Recorded.{IsSilenceOr33Octets}
use Rattle.dmr_hearing.specs.Slots.{silence}
use Rattle.dmr_hearing.specs.declared.data_types.Payload.{Payload}
use Rattle.dmr_hearing.specs.declared.data_types.Payload.TheVariants.{Word, Sealed, LinkControl, Raw, Nothing}
use Rattle.dmr_hearing.specs.declared.heard.DataBurst.{DataBurst}
use Rattle.dmr_hearing.specs.declared.heard.Heard.{Heard}
use Rattle.dmr_hearing.proofs.OneField.{one_slot_type, one_emb}
use Rattle.dmr_hearing.proofs.Payloads.{data_burst_by, word_read, word_unread, sealed_read, sealed_unread, unsealed_unread}
use Rattle.dmr_hearing.proofs.Payloads.{link_control_read, link_control_unread}
use Rattle.dmr_link.specs.declared.fault.LcFault.TheVariants.{Parity}
use Rattle.dmr_link.specs.declared.sealing.LcUse.{LcUse}
use Rattle.dmr_link.proofs.Existing.{lc_somehow, read_or_not, one_read}

-- ---- information
-- What information is read as, by what the product code says of it,
word_at : (kind : ℕ) (received : List Bool) (decoding : Option (List Bool)) → IsDecoded received decoding
    → (result : Option DataBurst) × IsReading Word kind received result
word_at kind received None decoded = (None, word_unread kind received decoded)
word_at kind received (Some message) decoded =
    let (information, encoded) = written_somehow message (length-decoded received message decoded) in
    let data_burst : DataBurst = record { kind = kind; information = information; link_control = None } in (
      Some data_burst,
      word_read kind received message data_burst decoded (record { kind_is = refl; encoded = encoded; plain = refl }),
    )

sealed_at : (mask : Mask) (kind : ℕ) (received : List Bool) (decoding : Option (List Bool)) → IsDecoded received decoding
    → (result : Option DataBurst) × IsReading (Sealed mask) kind received result
sealed_at mask kind received None decoded = (None, sealed_unread mask kind received decoded)
sealed_at mask kind received (Some message) decoded =
    elim (sealed_or_not mask (octets_of 12 message) (length-octets_of 12 message)) [
      | inl sealed ↦
          (let (information, encoded) = written_somehow message (length-decoded received message decoded) in
          let data_burst : DataBurst = record { kind = kind; information = information; link_control = None } in (
            Some data_burst,
            sealed_read mask kind received message data_burst decoded sealed
                (record { kind_is = refl; encoded = encoded; plain = refl }),
          ))
      | inr unsealed ↦ (None, unsealed_unread mask kind received message decoded unsealed)
    ]

-- or by the link control that it holds.
link_control_at : (lc_use : LcUse) (kind : ℕ) (received : List Bool)
    → (result : Option DataBurst) × IsReading (LinkControl lc_use) kind received result
link_control_at lc_use kind received =
    elim (read_or_not lc_use received) [
      | inl found ↦
          (let (lc, read) = found in
          let (message, is) = lc_somehow lc_use lc read.is.fit in
          let (information, encoded) = written_somehow message is.sealed.long in (
            Some (record { kind = kind; information = information; link_control = Some lc }),
            link_control_read lc_use kind received message information lc read
                (λ other also. ap Ok (one_read lc_use received lc other read also)) is encoded,
          ))
      | inr none ↦ (None, link_control_unread lc_use kind received Parity (λ other read. absurd (none other read)))
    ]

reading_somehow : (payload : Payload) (kind : ℕ) (received : List Bool)
    → (result : Option DataBurst) × IsReading payload kind received result
reading_somehow Word kind received = let (result, decoded) = decoded_somehow received in word_at kind received result decoded
reading_somehow (Sealed mask) kind received =
    let (result, decoded) = decoded_somehow received in sealed_at mask kind received result decoded
reading_somehow (LinkControl lc_use) kind received = link_control_at lc_use kind received
reading_somehow Raw kind received = (
  Some (record { kind = kind; information = received; link_control = None }),
  record {
    within = (refl, (refl, refl));
    only = λ information lc reads. data_burst_by kind kind received information None lc refl (sym reads.0) (sym reads.1);
  },
)
reading_somehow Nothing kind received = (None, record { within = tt; only = λ information lc reads. absurd reads })

-- ---- words
-- A word of a code within so many bits of these.
record IsReached (columns : List ℕ) (checks reach : ℕ) (bits word : List Bool) : Type 0 where
  is : IsWord columns checks word
  near : distance word bits ≤ reach

reached_or_not : (columns : List ℕ) (checks reach : ℕ) (bits word : List Bool) → Decided (IsReached columns checks reach bits word)
reached_or_not columns checks reach bits word =
    elim (word_or_not columns checks word) [
      | inl is ↦
          elim (cases_lt reach (distance word bits)) [
            | inl far ↦ inr (λ found. let near = found.near in absurd (omega arith))
            | inr near ↦ inl (record { is = is; near = omega arith })
          ]
      | inr none ↦ inr (λ found. none found.is)
    ]

-- A burst has a slot type, or none,
slot_type_or_not : (bits : List Bool) → ((s : SlotType) × HasSlotType s bits) ⊎ ((s : SlotType) → HasSlotType s bits → ⊥)
slot_type_or_not bits =
    elim (searched 20 (IsReached golay20_columns 12 3 (slot_type_field bits)) (reached_or_not golay20_columns 12 3
    (slot_type_field bits))) [
      | inl found ↦ (let (word, is) = found in inl (slot_type_of word, (word, is.is, is.near, refl)))
      | inr none ↦ inr (λ s has. none has.0 has.1.long (record { is = has.1; near = has.2 }))
    ]

-- and an EMB, or none.
emb_or_not : (bits : List Bool) → ((emb : Emb) × HasEmb emb bits) ⊎ ((emb : Emb) → HasEmb emb bits → ⊥)
emb_or_not bits =
    elim (searched 16 (IsReached residue16_columns 9 2 (emb_field bits)) (reached_or_not residue16_columns 9 2 (emb_field bits))) [
      | inl found ↦ (let (word, is) = found in inl (emb_of word, (word, is.is, is.near, refl)))
      | inr none ↦ inr (λ emb has. none has.0 has.1.long (record { is = has.1; near = has.2 }))
    ]

-- ---- the parts of a burst
-- Its data burst is the one that is heard, or none is.
record IsDataPart (colour : ℕ) (bits : List Bool) (found : Option DataBurst) : Type 0 where
  within : IfSome found (λ data_burst. IsHeardData colour data_burst bits)
  only : (data_burst : DataBurst) → IsHeardData colour data_burst bits → found ≡ Some data_burst

no_data : (colour : ℕ) (bits : List Bool) → ((data_burst : DataBurst) → IsHeardData colour data_burst bits → ⊥)
    → (found : Option DataBurst) × IsDataPart colour bits found
no_data colour bits none = (None, record { within = tt; only = λ data_burst is. absurd (none data_burst is) })

read_part : (colour kind : ℕ) (bits : List Bool) (result : Option DataBurst) → length bits ≡ 264
    → HasSync (record { side = Ms; voice = false }) bits → HasSlotType (record { colour = colour; kind = kind }) bits
    → IsReading (payload_of kind) kind (information_field bits) result → IsDataPart colour bits result
read_part colour kind bits result long sync has reading = record {
  within = within result reading.within;
  only = λ data_burst is.
      let same : kind ≡ data_burst.kind =
      ap (λ (s : SlotType). s.kind) (one_slot_type bits (record { colour = colour; kind = kind })
      (record { colour = colour; kind = data_burst.kind }) long has is.slot_type) in
      let reads : Reads (payload_of kind) (information_field bits) data_burst.information data_burst.link_control =
      subst (λ (k : ℕ). Reads (payload_of k) (information_field bits) data_burst.information data_burst.link_control) (sym same)
      is.reads in
      reading.only data_burst.information data_burst.link_control reads
      ∙ data_burst_by kind data_burst.kind data_burst.information data_burst.information data_burst.link_control
      data_burst.link_control same refl refl;
}
  where
    within : (result : Option DataBurst)
        → IfSome result (λ data_burst. (data_burst.kind ≡ kind)
        × Reads (payload_of kind) (information_field bits) data_burst.information data_burst.link_control)
        → IfSome result (λ data_burst. IsHeardData colour data_burst bits)
    within None p = tt
    within (Some data_burst) p = record {
      sync = sync;
      slot_type = subst (λ (k : ℕ). HasSlotType (record { colour = colour; kind = k }) bits) (sym p.0) has;
      reads = subst (λ (k : ℕ). Reads (payload_of k) (information_field bits) data_burst.information data_burst.link_control)
          (sym p.0) p.1;
    }

data_part : (colour : ℕ) (bits : List Bool) → length bits ≡ 264 → (found : Option DataBurst) × IsDataPart colour bits found
data_part colour bits long =
    elim (cases_lt 3 (distance (sync_word Ms false) (sync_field bits))) [
      | inl far ↦ no_data colour bits (λ data_burst is. let near = is.sync in absurd (omega arith))
      | inr near ↦
          elim (slot_type_or_not bits) [
            | inl found ↦ own_part found.0 found.1 (omega arith)
            | inr none ↦ no_data colour bits (λ data_burst is. none (record { colour = colour; kind = data_burst.kind })
                is.slot_type)
          ]
    ]
  where
    own_part : (s : SlotType) → HasSlotType s bits → HasSync (record { side = Ms; voice = false }) bits
        → (found : Option DataBurst) × IsDataPart colour bits found
    own_part s has sync =
        elim (cases_eq s.colour colour) [
          | inl own ↦
              (let (result, reading) = reading_somehow (payload_of s.kind) s.kind (information_field bits) in (
                result,
                read_part colour s.kind bits result long sync
                    (subst (λ (c : ℕ). HasSlotType (record { colour = c; kind = s.kind }) bits) own has) reading,
              ))
          | inr foreign ↦ no_data colour bits (λ data_burst is.
              foreign (ap (λ (s : SlotType). s.colour)
              (one_slot_type bits s (record { colour = colour; kind = data_burst.kind }) long has is.slot_type)))
        ]

-- Whether its sync is that of a mobile station's voice.
record IsVoicePart (bits : List Bool) (voice : Bool) : Type 0 where
  within : voice ≡ true → HasSync (record { side = Ms; voice = true }) bits
  only : HasSync (record { side = Ms; voice = true }) bits → voice ≡ true

voice_part : (bits : List Bool) → (voice : Bool) × IsVoicePart bits voice
voice_part bits =
    elim (cases_lt 3 (distance (sync_word Ms true) (sync_field bits))) [
      | inl far ↦ (false, record { within = λ e. cc; only = λ near. absurd (omega arith) })
      | inr near ↦ (true, record { within = λ e. omega arith; only = λ near. refl })
    ]

-- Its EMB is the one that is heard, or none is.
record IsEmbPart (bits : List Bool) (found : Option Emb) : Type 0 where
  within : IfSome found (λ emb. HasEmb emb bits)
  only : (emb : Emb) → HasEmb emb bits → found ≡ Some emb

emb_part : (bits : List Bool) → length bits ≡ 264 → (found : Option Emb) × IsEmbPart bits found
emb_part bits long =
    elim (emb_or_not bits) [
      | inl found ↦
          (let (emb, has) = found in
          (Some emb, record { within = has; only = λ other also. ap Some (one_emb bits emb other long has also) }))
      | inr none ↦ (None, record { within = tt; only = λ emb has. absurd (none emb has) })
    ]

-- ---- a slot
pub hears_somehow : (colour : ℕ) (slot : Option (List ℕ)) → IsSilenceOr33Octets slot → (heard : Heard) × Hears colour slot heard
hears_somehow colour None is = (silence, refl)
hears_somehow colour (Some octets) is =
    let bits : List Bool = bits_of_octets octets in
    let long : length bits ≡ 264 = length-bits_of_octets octets ∙ omega (arith, is) in
    let (data_burst, first) = data_part colour bits long in
    let (voice, second) = voice_part bits in
    let (emb, third) = emb_part bits long in (
      record {
        data_burst = data_burst;
        voice = voice;
        emb = emb;
        embedded = number_of (embedded_field bits);
        vocoder = vocoder_field bits;
      },
      (
        is,
        record {
          data_burst_within = first.within;
          data_burst_only = first.only;
          voice = (second.within, second.only);
          emb_within = third.within;
          emb_only = third.only;
          embedded = refl;
          vocoder = refl;
        },
      ),
    )
