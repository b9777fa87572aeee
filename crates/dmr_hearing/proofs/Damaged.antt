-- A burst that is recorded within the limits of damage, and heard by its fields, is heard as what was sent.
use Rattle.std.proofs.Common.{◌≡◌, ℕ, List, Bool, true, false, length, Option, Some, None, IfSome, IsTrue, refl, sym, ◌∙◌, ap}
use Rattle.std.proofs.Common.{subst}
use Rattle.std.proofs.Common.{arith}
use Rattle.dmr_bits.specs.Bits.{bits_of_octets}
use Rattle.dmr_bits.proofs.OctetFronts.{length-bits_of_octets}
use Rattle.dmr_burst.specs.Layout.{information_field}
use Rattle.dmr_burst.specs.Sync.{HasSync}
use Rattle.dmr_burst.specs.declared.slot_type.SlotType.{SlotType}
use Rattle.dmr_burst.specs.declared.sync.Side.TheVariants.{Ms}
use Rattle.dmr_hearing.specs.DataTypes.{payload_of}
use Rattle.dmr_hearing.specs.Damage.{IsSentSlot, IsDamagedForeignData, IsDamagedBurst, HasNoMobileSync, IsRecordedAs}
use Rattle.dmr_hearing.specs.Hearing.{IsHeardData, IsHeardBurst, Hears}
use Rattle.dmr_hearing.specs.Slots.{SentSlot, Silent, Data, VoiceSync, Voice, ForeignVoice, ForeignData, CutOff, IsHeardAs}
use Rattle.dmr_hearing.specs.declared.heard.DataBurst.{DataBurst}
use Rattle.dmr_hearing.specs.declared.heard.Heard.{Heard}
use Rattle.dmr_hearing.proofs.OneField.{one_sync, one_slot_type}
use Rattle.dmr_hearing.proofs.Payloads.{sent_is_read}

-- ---- what isn't heard
not_heard : {A : Type 0} (P : A → Type 0) (found : Option A) → IfSome found P → ((a : A) → P a → ⊥) → found ≡ None
not_heard P None within none = refl
not_heard P (Some a) within none = absurd (none a within)

not_so : (b : Bool) → (IsTrue b → ⊥) → b ≡ false
not_so false none = refl
not_so true none = absurd (none refl)

one_kind_of_sync : (bits : List Bool) → length bits ≡ 264 → HasSync (record { side = Ms; voice = true }) bits
    → HasSync (record { side = Ms; voice = false }) bits → ⊥
one_kind_of_sync bits long voice data_sync = let same : true ≡ false = one_sync bits true false long voice data_sync in cc

-- ---- by what was sent
module _ (colour : ℕ) (bits : List Bool) (heard : Heard) (long : length bits ≡ 264) (is : IsHeardBurst colour bits heard) where
  no_voice : HasSync (record { side = Ms; voice = false }) bits → heard.voice ≡ false
  no_voice has = not_so heard.voice (λ voice. one_kind_of_sync bits long (is.voice.0 voice) has)

  no_data : HasSync (record { side = Ms; voice = true }) bits → heard.data_burst ≡ None
  no_data has =
      not_heard (λ (found : DataBurst). IsHeardData colour found bits) heard.data_burst is.data_burst_within
      (λ found given. one_kind_of_sync bits long has given.sync)

  no_own_data : IsDamagedForeignData colour bits → heard.data_burst ≡ None
  no_own_data damaged =
      not_heard (λ (found : DataBurst). IsHeardData colour found bits) heard.data_burst is.data_burst_within
      (λ found given. damaged.foreign
      (ap (λ (s : SlotType). s.colour) (one_slot_type bits (record { colour = damaged.other; kind = damaged.kind })
      (record { colour = colour; kind = found.kind }) long damaged.slot_type given.slot_type)))

  no_sync_no_data : HasNoMobileSync bits → heard.data_burst ≡ None
  no_sync_no_data none =
      not_heard (λ (found : DataBurst). IsHeardData colour found bits) heard.data_burst is.data_burst_within
      (λ found given. let near = given.sync in let far = none.data_sync in omega arith)

  no_sync_no_voice : HasNoMobileSync bits → heard.voice ≡ false
  no_sync_no_voice none =
      not_so heard.voice (λ voice. let near = is.voice.0 voice in let far = none.voice in omega arith)

  burst_heard : (sent : SentSlot) → IsSentSlot colour sent → IsDamagedBurst colour sent bits → IsHeardAs sent heard
  burst_heard Silent sends damaged = absurd damaged
  burst_heard (Data kind information lc) sends damaged = (
    is.data_burst_only (record { kind = kind; information = information; link_control = lc }) (record {
      sync = damaged.sync;
      slot_type = damaged.slot_type;
      reads = sent_is_read (payload_of kind) information (information_field bits) lc sends damaged.payload;
    }),
    no_voice damaged.sync,
  )
  burst_heard VoiceSync sends damaged = (no_data damaged, is.voice.1 damaged)
  burst_heard (Voice emb embedded) sends damaged = (is.emb_only emb damaged.0, is.embedded ∙ damaged.1)
  burst_heard (ForeignVoice emb) sends damaged =
      (no_sync_no_data damaged.1, no_sync_no_voice damaged.1, is.emb_only emb damaged.0)
  burst_heard ForeignData sends damaged = (no_own_data damaged, no_voice damaged.sync)
  burst_heard CutOff sends damaged = (no_sync_no_data damaged, no_sync_no_voice damaged)

-- What is recorded within the limits and heard by its fields is heard as what was sent.
pub recorded_is_heard : (colour : ℕ) (slot : Option (List ℕ)) (sent : SentSlot) (heard : Heard) → IsRecordedAs colour sent slot
    → Hears colour slot heard → IsHeardAs sent heard
recorded_is_heard colour None sent heard recorded hears =
    subst (λ slot. IsHeardAs slot heard) (sym recorded.damaged) hears
recorded_is_heard colour (Some octets) sent heard recorded (count, is) =
    burst_heard colour (bits_of_octets octets) heard (omega (arith, length-bits_of_octets octets, count)) is sent recorded.sent
    recorded.damaged
