-- A slot that is a recording of two things that may be sent can be heard as both of them.
use Rattle.std.proofs.Common.{◌≡◌, ℕ, ◌⊎◌, Bool, true, false, List, length, Option, Some, None, IfSome}
use Rattle.std.proofs.Common.{refl, sym, ap, ◌∙◌, subst, arith, inl, inr}
use Rattle.dmr_bits.specs.Bits.{bits_of_octets, number_of}
use Rattle.dmr_bits.proofs.OctetFronts.{length-bits_of_octets}
use Rattle.dmr_burst.specs.Emb.{HasEmb}
use Rattle.dmr_burst.specs.Layout.{information_field, embedded_field, vocoder_field}
use Rattle.dmr_burst.specs.Sync.{HasSync}
use Rattle.dmr_burst.specs.declared.emb.Emb.{Emb}
use Rattle.dmr_burst.specs.declared.sync.Side.TheVariants.{Ms}
use Rattle.dmr_burst.specs.declared.slot_type.SlotType.{SlotType}
use Rattle.dmr_hearing.specs.Damage.{Sends, IsDamagedPayload, IsSentSlot, IsDamagedData, IsDamagedForeignData, HasNoMobileSync}
use Rattle.dmr_hearing.specs.Damage.{IsDamagedBurst, IsRecordedAs}
use Rattle.dmr_hearing.specs.DataTypes.{payload_of}
use Rattle.dmr_hearing.specs.Recorded.{IsSilenceOr33Octets, IsHearing}
use Rattle.dmr_hearing.specs.Slots.{SentSlot, Silent, Data, VoiceSync, Voice, ForeignVoice, ForeignData, CutOff, silence, IsHeardAs}
use Rattle.dmr_hearing.specs.declared.heard.DataBurst.{DataBurst}
use Rattle.dmr_hearing.specs.declared.heard.Heard.{Heard}
use Rattle.dmr_hearing.proofs.OneField.{one_sync, one_slot_type, one_emb, one_payload}
use Rattle.dmr_link.specs.declared.full_lc.FullLc.{FullLc}

-- ---- what the centre shows
-- A data burst, a voice sync, or neither.
data Centre : Type 0 where
  DataCentre : ℕ → List Bool → Option FullLc → Centre
  VoiceCentre : Centre
  Neither : Centre

data_burst_at : Centre → Option DataBurst
data_burst_at (DataCentre kind information lc) = Some (record { kind = kind; information = information; link_control = lc })
data_burst_at VoiceCentre = None
data_burst_at Neither = None

voice_at : Centre → Bool
voice_at (DataCentre kind information lc) = false
voice_at VoiceCentre = true
voice_at Neither = false

-- A burst shows it.
Shows : ℕ → List Bool → Centre → Type 0
Shows colour bits (DataCentre kind information lc) =
    Sends (payload_of kind) information lc × IsDamagedData colour kind information bits
Shows colour bits VoiceCentre = HasSync (record { side = Ms; voice = true }) bits
Shows colour bits Neither = HasNoMobileSync bits ⊎ IsDamagedForeignData colour bits

data_burst_by : (k k' : ℕ) (i i' : List Bool) (l l' : Option FullLc) → k ≡ k' → i ≡ i' → l ≡ l'
    → DataCentre k i l ≡ DataCentre k' i' l'
data_burst_by k k' i i' l l' e f g = cc

one_data_burst : (colour : ℕ) (bits : List Bool) (k k' : ℕ) (i i' : List Bool) (l l' : Option FullLc) → length bits ≡ 264
    → Sends (payload_of k) i l → IsDamagedData colour k i bits → Sends (payload_of k') i' l' → IsDamagedData colour k' i' bits
    → DataCentre k i l ≡ DataCentre k' i' l'
one_data_burst colour bits k k' i i' l l' long sends damaged sends' damaged' =
    let kind : k ≡ k' = ap (λ (s : SlotType). s.kind) (one_slot_type bits _ _ long damaged.slot_type damaged'.slot_type) in
    let payload = one_payload (payload_of k') (information_field bits) i i' l l'
    (subst (λ n. Sends (payload_of n) i l) kind sends) sends'
    (subst (λ n. IsDamagedPayload (payload_of n) i (information_field bits)) kind damaged.payload) damaged'.payload in
    data_burst_by k k' i i' l l' kind payload.0 payload.1

not_voice : (bits : List Bool) → length bits ≡ 264 → HasSync (record { side = Ms; voice = false }) bits
    → HasSync (record { side = Ms; voice = true }) bits → ⊥
not_voice bits long p q = let e = one_sync bits false true long p q in cc

data_or_neither : (colour : ℕ) (bits : List Bool) (k : ℕ) (i : List Bool) → length bits ≡ 264 → IsDamagedData colour k i bits
    → HasNoMobileSync bits ⊎ IsDamagedForeignData colour bits → ⊥
data_or_neither colour bits k i long p (inl none) = let near = p.sync in let far = none.data_sync in absurd (omega arith)
data_or_neither colour bits k i long p (inr foreign) =
    foreign.foreign (ap (λ (s : SlotType). s.colour) (one_slot_type bits _ _ long foreign.slot_type p.slot_type))

voice_or_neither : (colour : ℕ) (bits : List Bool) → length bits ≡ 264 → HasSync (record { side = Ms; voice = true }) bits
    → HasNoMobileSync bits ⊎ IsDamagedForeignData colour bits → ⊥
voice_or_neither colour bits long p (inl none) = let far = none.voice in absurd (omega arith)
voice_or_neither colour bits long p (inr foreign) = not_voice bits long foreign.sync p

-- It shows one of them.
one_centre : (colour : ℕ) (bits : List Bool) (a b : Centre) → length bits ≡ 264 → Shows colour bits a → Shows colour bits b → a ≡ b
unfolding Shows
one_centre colour bits (DataCentre k i l) (DataCentre k' i' l') long p q = one_data_burst colour bits k k' i i' l l' long p.0 p.1
    q.0 q.1
one_centre colour bits (DataCentre k i l) VoiceCentre long p q = absurd (not_voice bits long p.1.sync q)
one_centre colour bits (DataCentre k i l) Neither long p q = absurd (data_or_neither colour bits k i long p.1 q)
one_centre colour bits VoiceCentre (DataCentre k i l) long p q = absurd (not_voice bits long q.1.sync p)
one_centre colour bits VoiceCentre VoiceCentre long p q = refl
one_centre colour bits VoiceCentre Neither long p q = absurd (voice_or_neither colour bits long p q)
one_centre colour bits Neither (DataCentre k i l) long p q = absurd (data_or_neither colour bits k i long q.1 p)
one_centre colour bits Neither VoiceCentre long p q = absurd (voice_or_neither colour bits long q p)
one_centre colour bits Neither Neither long p q = refl

-- ---- what a slot asks of the centre and of the EMB
-- A voice burst of the colour code may show any centre.
centre_asked : SentSlot → Option Centre
centre_asked Silent = None
centre_asked (Data kind information lc) = Some (DataCentre kind information lc)
centre_asked VoiceSync = Some VoiceCentre
centre_asked (Voice emb embedded) = None
centre_asked (ForeignVoice emb) = Some Neither
centre_asked ForeignData = Some Neither
centre_asked CutOff = Some Neither

emb_asked : SentSlot → Option Emb
emb_asked Silent = None
emb_asked (Data kind information lc) = None
emb_asked VoiceSync = None
emb_asked (Voice emb embedded) = Some emb
emb_asked (ForeignVoice emb) = Some emb
emb_asked ForeignData = None
emb_asked CutOff = None

-- The burst has what the slot asks for.
has_centre : (colour : ℕ) (bits : List Bool) (sent : SentSlot) → IsSentSlot colour sent → IsDamagedBurst colour sent bits
    → IfSome (centre_asked sent) (Shows colour bits)
unfolding centre_asked Shows
has_centre colour bits Silent is damaged = tt
has_centre colour bits (Data kind information lc) is damaged = (is, damaged)
has_centre colour bits VoiceSync is damaged = damaged
has_centre colour bits (Voice emb embedded) is damaged = tt
has_centre colour bits (ForeignVoice emb) is damaged = inl damaged.1
has_centre colour bits ForeignData is damaged = inr damaged
has_centre colour bits CutOff is damaged = inl damaged

has_emb : (colour : ℕ) (bits : List Bool) (sent : SentSlot) → IsDamagedBurst colour sent bits
    → IfSome (emb_asked sent) (λ emb. HasEmb emb bits)
unfolding emb_asked
has_emb colour bits Silent damaged = tt
has_emb colour bits (Data kind information lc) damaged = tt
has_emb colour bits VoiceSync damaged = tt
has_emb colour bits (Voice emb embedded) damaged = damaged.0
has_emb colour bits (ForeignVoice emb) damaged = damaged.0
has_emb colour bits ForeignData damaged = tt
has_emb colour bits CutOff damaged = tt

-- ---- both at once
-- What is asked for stands in the answer.
abbrev pub Gives : {A : Type 0} → Option A → Option A → Type 0
Gives {A} asked answer = (a : A) → asked ≡ Some a → answer ≡ Some a

-- Where there is one such thing, an answer can give what both ask for.
both_given : {A : Type 0} (P : A → Type 0) (x y : Option A) → ((a b : A) → P a → P b → a ≡ b) → IfSome x P → IfSome y P
    → (answer : Option A) × Gives x answer × Gives y answer
both_given P None y one p q = (y, (λ a e. absurd (cc)), (λ a e. e))
both_given P (Some b) None one p q = (Some b, (λ a e. e), (λ a e. absurd (cc)))
both_given P (Some b) (Some c) one p q = (Some b, (λ a e. e), (λ a e. ap Some (one b c p q) ∙ e))

-- The centre as it is heard.
heard_data_burst : Option Centre → Option DataBurst
heard_data_burst None = None
heard_data_burst (Some centre) = data_burst_at centre

heard_voice : Option Centre → Bool
heard_voice None = false
heard_voice (Some centre) = voice_at centre

heard_with : List Bool → Option Centre → Option Emb → Heard
heard_with bits centre emb = record {
  data_burst = heard_data_burst centre;
  voice = heard_voice centre;
  emb = emb;
  embedded = number_of (embedded_field bits);
  vocoder = vocoder_field bits;
}

-- What gives a slot all that it asks for is heard as it.
given_is_heard : (colour : ℕ) (bits : List Bool) (sent : SentSlot) (centre : Option Centre) (emb : Option Emb)
    → IsDamagedBurst colour sent bits → Gives (centre_asked sent) centre → Gives (emb_asked sent) emb
    → IsHeardAs sent (heard_with bits centre emb)
unfolding centre_asked emb_asked heard_with heard_data_burst heard_voice data_burst_at voice_at
given_is_heard colour bits Silent centre emb damaged f g = absurd damaged
given_is_heard colour bits (Data kind information lc) centre emb damaged f g =
    (ap heard_data_burst (f (DataCentre kind information lc) refl), ap heard_voice (f (DataCentre kind information lc) refl))
given_is_heard colour bits VoiceSync centre emb damaged f g =
    (ap heard_data_burst (f VoiceCentre refl), ap heard_voice (f VoiceCentre refl))
given_is_heard colour bits (Voice e embedded) centre emb damaged f g = (g e refl, damaged.1)
given_is_heard colour bits (ForeignVoice e) centre emb damaged f g =
    (ap heard_data_burst (f Neither refl), ap heard_voice (f Neither refl), g e refl)
given_is_heard colour bits ForeignData centre emb damaged f g =
    (ap heard_data_burst (f Neither refl), ap heard_voice (f Neither refl))
given_is_heard colour bits CutOff centre emb damaged f g =
    (ap heard_data_burst (f Neither refl), ap heard_voice (f Neither refl))

-- ---- what is heard
-- Silence is a recording of silence alone.
pub silent : (colour : ℕ) (sent : SentSlot) → IsRecordedAs colour sent None → IsHeardAs sent silence
silent colour sent p = subst (λ slot. IsHeardAs slot silence) (sym p.damaged) refl

-- A slot is heard somehow as what was sent,
pub heard_somehow : (colour : ℕ) (slot : Option (List ℕ)) (sent : SentSlot) → IsRecordedAs colour sent slot
    → (heard : Heard) × IsHearing slot sent heard
unfolding heard_with
heard_somehow colour None sent p = (silence, record { as_sent = silent colour sent p; vocoder = refl })
heard_somehow colour (Some octets) sent p =
    let bits : List Bool = bits_of_octets octets in (
      heard_with bits (centre_asked sent) (emb_asked sent),
      record {
        as_sent = given_is_heard colour bits sent (centre_asked sent) (emb_asked sent) p.damaged (λ a e. e) (λ a e. e);
        vocoder = refl;
      },
    )

-- and as both, where two things may have been sent.
pub heard_as_both : (colour : ℕ) (slot : Option (List ℕ)) (a b : SentSlot) → IsSilenceOr33Octets slot → IsRecordedAs colour a slot
    → IsRecordedAs colour b slot → (heard : Heard) × IsHearing slot a heard × IsHearing slot b heard
unfolding heard_with
heard_as_both colour None a b is p q = (
  silence,
  record { as_sent = silent colour a p; vocoder = refl },
  record { as_sent = silent colour b q; vocoder = refl },
)
heard_as_both colour (Some octets) a b is p q =
    let bits : List Bool = bits_of_octets octets in
    let long : length bits ≡ 264 = omega (arith, length-bits_of_octets octets) in
    let (centre, first, second) = both_given (Shows colour bits) (centre_asked a) (centre_asked b)
    (λ x y shown also. one_centre colour bits x y long shown also)
    (has_centre colour bits a p.sent p.damaged) (has_centre colour bits b q.sent q.damaged) in
    let (emb, third, fourth) = both_given (λ e. HasEmb e bits) (emb_asked a) (emb_asked b)
    (λ x y has also. one_emb bits x y long has also) (has_emb colour bits a p.damaged) (has_emb colour bits b q.damaged) in (
      heard_with bits centre emb,
      record { as_sent = given_is_heard colour bits a centre emb p.damaged first third; vocoder = refl },
      record { as_sent = given_is_heard colour bits b centre emb q.damaged second fourth; vocoder = refl },
    )
