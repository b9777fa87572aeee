-- One slot of what was sent: what it is written as is a recording of it again, but for its embedded field.
use Rattle.std.proofs.Common.{◌≡◌, ◌≢◌, ◌⊎◌, inl, inr, ℕ, Bool, true, false, List, Option, Some, None, refl, sym, ap, ◌∙◌}
use Rattle.std.proofs.Common.{subst, if◌then◌else◌, ⊎_elim}
use Rattle.std.specs.Prelude.{◌==◌}
use Rattle.std.proofs.lemmas.Bool.{cases_Bool, eq-eqb, eqb-true}
use Rattle.dmr_bits.specs.Bits.{bits_of_octets, number_of}
use Rattle.dmr_burst.specs.Emb.{HasEmb}
use Rattle.dmr_burst.specs.declared.emb.Emb.{Emb}
use Rattle.dmr_hearing.specs.Damage.{IsDamagedBurst, IsRecordedAs, HasNoMobileSync}
use Rattle.dmr_hearing.specs.Hearing.{Hears, IsHeardBurst}
use Rattle.dmr_hearing.specs.Parts.{is_own}
use Rattle.dmr_hearing.specs.Slots.{SentSlot, Silent, Data, VoiceSync, Voice, ForeignVoice, ForeignData, CutOff, IsHeardAs}
use Rattle.dmr_hearing.specs.Slots.{vocoder_of}
use Rattle.dmr_hearing.specs.declared.heard.Heard.{Heard}
use Rattle.dmr_link.specs.declared.full_lc.FullLc.{FullLc}
use Rattle.dmr_voice.specs.Bursts.{IsSaid}
use Rattle.dmr_voice.specs.declared.place.Place.{Place}
use Rattle.dmr_voice.specs.Said as content
use Rattle.dmr_voice.specs.declared.said.Role.{Role}
use Rattle.dmr_voice.specs.Said.{Said, Nothing, Repeat}
use Rattle.dmr_voice.specs.declared.said.VoiceOut.{VoiceOut}
use Rattle.dmr_voice.specs.declared.said.VoiceOut.TheVariants as out
use Rattle.dmr_damage.specs.Bursts.{IsDamagedBy, IsDamagedSlot, IsDamagedUnrepeated, IsDamagedVoice}
use Rattle.dmr_damage.specs.Marks.{burst_mark, mark_of_data}
use Rattle.dmr_damage.specs.declared.mark.BurstMark.TheVariants as mark

-- 1. What a slot that was sent may mean.

-- What a place from B to F means, whatever its vocoder bits.
abbrev pub IsPlaceBToF : (List Bool → Said) → Type 0
IsPlaceBToF means =
    ((place : Place) × (pi : Bool) × (lc : Option FullLc) × (role : Role)
    × (means ≡ (λ vocoder. Repeat (content.VoiceBToE place pi vocoder lc) role)))
    ⊎ ((pi : Bool) × (field : ℕ) × (role : Role) × (means ≡ (λ vocoder. Repeat (content.VoiceF pi field vocoder) role)))

-- What is sent in a slot agrees with what it means: a data burst means itself, a voice sync nothing or a place A, a voice burst of
-- the call a place from B to F, and what is of another colour code or cut off nothing.
abbrev pub Agrees : SentSlot → (List Bool → Said) → Type 0
Agrees Silent means = Unit {0}
Agrees (Data kind information lc) means = (role : Role) × (means ≡ (λ vocoder. Repeat (content.Data kind information) role))
Agrees VoiceSync means =
    (means ≡ (λ vocoder. Nothing)) ⊎ ((role : Role) × (means ≡ (λ vocoder. Repeat (content.VoiceA vocoder) role)))
Agrees (Voice emb embedded) means = IsPlaceBToF means
Agrees (ForeignVoice emb) means = means ≡ (λ vocoder. Nothing)
Agrees ForeignData means = means ≡ (λ vocoder. Nothing)
Agrees CutOff means = means ≡ (λ vocoder. Nothing)

-- What is sent, with this in place of the embedded field of a voice burst.
abbrev pub sent_with : SentSlot → Option ℕ → SentSlot
sent_with Silent field = Silent
sent_with (Data kind information lc) field = Data kind information lc
sent_with VoiceSync field = VoiceSync
sent_with (Voice emb embedded) None = Voice emb embedded
sent_with (Voice emb embedded) (Some field) = Voice emb field
sent_with (ForeignVoice emb) field = ForeignVoice emb
sent_with ForeignData field = ForeignData
sent_with CutOff field = CutOff

-- with no field it stays as it is
pub with_none : (sent : SentSlot) → sent_with sent None ≡ sent
with_none Silent = refl
with_none (Data kind information lc) = refl
with_none VoiceSync = refl
with_none (Voice emb embedded) = refl
with_none (ForeignVoice emb) = refl
with_none ForeignData = refl
with_none CutOff = refl

-- 2. What a slot is written as.

-- A slot is written as a recording of what was sent, with the field in place of its own, and means the same.
pub record IsWritten (colour : ℕ) (sent : SentSlot) (means : List Bool → Said) (field : Option ℕ) (slot out : Option (List ℕ))
    : Type 0 where
  pub recorded : IsRecordedAs colour (sent_with sent field) out
  pub means_alike : means (vocoder_of out) ≡ means (vocoder_of slot)

-- what silence is written as
pub silent_written : (colour : ℕ) (sent : SentSlot) (means : List Bool → Said) (field : Option ℕ) (slot o : Option (List ℕ))
    → sent ≡ Silent → slot ≡ None → o ≡ None → IsWritten colour sent means field slot o
silent_written colour sent means field slot o silent none out_none = record {
  recorded = subst (λ s. IsRecordedAs colour (sent_with s field) o) (sym silent)
      (subst (λ x. IsRecordedAs colour Silent x) (sym out_none) (record { sent = tt; damaged = refl }));
  means_alike = ap (λ x. means (vocoder_of x)) (out_none ∙ sym none);
}

-- the bits of a burst are a recording of what was sent, and it means the same
record AreBitsWritten (colour : ℕ) (sent : SentSlot) (means : List Bool → Said) (field : Option ℕ) (old new : List ℕ) : Type 0
  where
    bits : IsDamagedBurst colour (sent_with sent field) (bits_of_octets new)
    same : means (vocoder_of (Some new)) ≡ means (vocoder_of (Some old))

-- what is repeated is a data burst that was heard
data_bits : (colour kind : ℕ) (information : List Bool) (lc : Option FullLc) (means : List Bool → Said) (field : Option ℕ)
    (old new : List ℕ) (heard : Heard) (said : VoiceOut) → Agrees (Data kind information lc) means
    → IsHeardAs (Data kind information lc) heard → IsSaid colour (means heard.vocoder) said
    → IsDamagedBy colour (burst_mark colour heard said) field (bits_of_octets old) (bits_of_octets new)
    → AreBitsWritten colour (Data kind information lc) means field old new
data_bits colour kind information lc means field old new heard said (role, is) as_sent says damaged =
    let (b, burst_is, gives) = subst (λ (m : List Bool → Said). IsSaid colour (m heard.vocoder) said) is says in
    let marked : burst_mark colour heard said ≡ mark.Data (record { kind = kind; information = information; link_control = lc }) =
    ap (burst_mark colour heard) (gives ∙ ap (λ x. out.Repeat x role) burst_is) ∙ ap mark_of_data as_sent.0 in
    record {
      bits = subst (λ m. IsDamagedBy colour m field (bits_of_octets old) (bits_of_octets new)) marked damaged;
      same = ap (λ (m : List Bool → Said). m (vocoder_of (Some new))) is
          ∙ sym (ap (λ (m : List Bool → Said). m (vocoder_of (Some old))) is);
    }

-- nothing is repeated, whatever was heard
unrepeated_bits : (colour : ℕ) (means : List Bool → Said) (field : Option ℕ) (old new : List ℕ) (heard : Heard) (said : VoiceOut)
    → means ≡ (λ vocoder. Nothing) → IsSaid colour (means heard.vocoder) said
    → IsDamagedBy colour (burst_mark colour heard said) field (bits_of_octets old) (bits_of_octets new)
    → IsDamagedUnrepeated colour (bits_of_octets old) (bits_of_octets new)
unrepeated_bits colour means field old new heard said is says damaged =
    let gives : said ≡ out.Nothing = subst (λ (m : List Bool → Said). IsSaid colour (m heard.vocoder) said) is says in
    subst (λ o. IsDamagedBy colour (burst_mark colour heard o) field (bits_of_octets old) (bits_of_octets new)) gives damaged

nothing_alike : (means : List Bool → Said) (v w : List Bool) → means ≡ (λ vocoder. Nothing) → means v ≡ means w
nothing_alike means v w is = ap (λ (m : List Bool → Said). m v) is ∙ sym (ap (λ (m : List Bool → Said). m w) is)

sync_bits : (colour : ℕ) (means : List Bool → Said) (field : Option ℕ) (old new : List ℕ) (heard : Heard) (said : VoiceOut)
    → Agrees VoiceSync means → IsDamagedBurst colour VoiceSync (bits_of_octets old) → IsHeardAs VoiceSync heard
    → IsSaid colour (means heard.vocoder) said
    → IsDamagedBy colour (burst_mark colour heard said) field (bits_of_octets old) (bits_of_octets new)
    → AreBitsWritten colour VoiceSync means field old new
sync_bits colour means field old new heard said (inl is) was as_sent says damaged =
    let bits = (unrepeated_bits colour means field old new heard said is says damaged).voice was in
    record { bits = bits.sync; same = nothing_alike means _ _ is }
sync_bits colour means field old new heard said (inr (role, is)) was as_sent says damaged =
    let (b, burst_is, gives) = subst (λ (m : List Bool → Said). IsSaid colour (m heard.vocoder) said) is says in
    let marked : burst_mark colour heard said ≡ mark.PlaceA =
    ap (burst_mark colour heard) (gives ∙ ap (λ x. out.Repeat x role) burst_is)
    ∙ ap (λ v. if v then mark.PlaceA else mark.Other) as_sent.1 in
    let bits = subst (λ m. IsDamagedBy colour m field (bits_of_octets old) (bits_of_octets new)) marked damaged in
    record {
      bits = bits.sync;
      same = ap (λ (m : List Bool → Said). m (vocoder_of (Some new))) is
          ∙ ap (λ v. Repeat (content.VoiceA v) role) bits.vocoder
          ∙ sym (ap (λ (m : List Bool → Said). m (vocoder_of (Some old))) is);
    }

-- what a voice burst is written as
voice_at : (colour : ℕ) (emb : Emb) (embedded : ℕ) (field : Option ℕ) (old new : List Bool)
    → IsDamagedBurst colour (Voice emb embedded) old → IsDamagedVoice field old new
    → IsDamagedBurst colour (sent_with (Voice emb embedded) field) new
voice_at colour emb embedded None old new was bits =
    (bits.emb emb was.0, ap number_of bits.embedded ∙ was.1)
voice_at colour emb embedded (Some field) old new was bits = (bits.emb emb was.0, bits.embedded)

own_mark : (colour : ℕ) (emb : Emb) (heard : Heard) → emb.colour ≡ colour → heard.emb ≡ Some emb
    → (if is_own colour heard.emb then mark.PlaceBToF else mark.Other) ≡ mark.PlaceBToF
own_mark colour emb heard own is =
    ap (λ e. if is_own colour e then mark.PlaceBToF else mark.Other) is
    ∙ ap (λ b. if b then mark.PlaceBToF else mark.Other) (eq-eqb emb.colour colour own)

voice_bits : (colour : ℕ) (emb : Emb) (embedded : ℕ) (means : List Bool → Said) (field : Option ℕ) (old new : List ℕ)
    (heard : Heard) (said : VoiceOut) → emb.colour ≡ colour → Agrees (Voice emb embedded) means
    → IsDamagedBurst colour (Voice emb embedded) (bits_of_octets old)
    → IsHeardAs (Voice emb embedded) heard → IsSaid colour (means heard.vocoder) said
    → IsDamagedBy colour (burst_mark colour heard said) field (bits_of_octets old) (bits_of_octets new)
    → AreBitsWritten colour (Voice emb embedded) means field old new
voice_bits colour emb embedded means field old new heard said own (inl (place, pi, lc, role, is)) was as_sent says damaged =
    let (b, burst_is, gives) = subst (λ (m : List Bool → Said). IsSaid colour (m heard.vocoder) said) is says in
    let marked : burst_mark colour heard said ≡ mark.PlaceBToF =
    ap (burst_mark colour heard) (gives ∙ ap (λ x. out.Repeat x role) burst_is.2) ∙ own_mark colour emb heard own as_sent.0 in
    let bits : IsDamagedVoice field (bits_of_octets old) (bits_of_octets new) =
    subst (λ m. IsDamagedBy colour m field (bits_of_octets old) (bits_of_octets new)) marked damaged in
    record {
      bits = voice_at colour emb embedded field (bits_of_octets old) (bits_of_octets new) was bits;
      same = ap (λ (m : List Bool → Said). m (vocoder_of (Some new))) is
          ∙ ap (λ v. Repeat (content.VoiceBToE place pi v lc) role) bits.vocoder
          ∙ sym (ap (λ (m : List Bool → Said). m (vocoder_of (Some old))) is);
    }
voice_bits colour emb embedded means field old new heard said own (inr (pi, f, role, is)) was as_sent says damaged =
    let (b, burst_is, gives) = subst (λ (m : List Bool → Said). IsSaid colour (m heard.vocoder) said) is says in
    let marked : burst_mark colour heard said ≡ mark.PlaceBToF =
    ap (burst_mark colour heard) (gives ∙ ap (λ x. out.Repeat x role) burst_is) ∙ own_mark colour emb heard own as_sent.0 in
    let bits : IsDamagedVoice field (bits_of_octets old) (bits_of_octets new) =
    subst (λ m. IsDamagedBy colour m field (bits_of_octets old) (bits_of_octets new)) marked damaged in
    record {
      bits = voice_at colour emb embedded field (bits_of_octets old) (bits_of_octets new) was bits;
      same = ap (λ (m : List Bool → Said). m (vocoder_of (Some new))) is
          ∙ ap (λ v. Repeat (content.VoiceF pi f v) role) bits.vocoder
          ∙ sym (ap (λ (m : List Bool → Said). m (vocoder_of (Some old))) is);
    }

foreign_data_bits : (colour : ℕ) (old new : List Bool) → IsDamagedBurst colour ForeignData old
    → IsDamagedUnrepeated colour old new → IsDamagedBurst colour ForeignData new
foreign_data_bits colour old new was damaged =
    let bits = damaged.data_sync was.sync in
    record {
      sync = bits.sync;
      other = was.other;
      kind = was.kind;
      foreign = was.foreign;
      slot_type = bits.slot_type _ was.slot_type;
    }

some_same : (a b : Emb) → ◌≡◌ {A = Option Emb} (Some a) (Some b) → a ≡ b
some_same a b e = cc

not_same : (a b : ℕ) → (a == b) ≡ false → a ≢ b
not_same a b differ same = let e = eq-eqb a b same in cc

-- Of a burst with no sync of a mobile station the centre has none again.
cut_off_bits : (colour : ℕ) (old new : List Bool) (found : Option Emb) → HasNoMobileSync old
    → ((emb : Emb) → found ≡ Some emb → HasEmb emb old) → ((emb : Emb) → HasEmb emb old → found ≡ Some emb)
    → IsDamagedUnrepeated colour old new → HasNoMobileSync new
cut_off_bits colour old new None none has one damaged =
    subst HasNoMobileSync (sym (damaged.others none (λ emb h. let e = one emb h in cc))) none
cut_off_bits colour old new (Some emb) none has one damaged =
    ⊎_elim
    (λ (own : (emb.colour == colour) ≡ true). subst HasNoMobileSync
    (sym (damaged.others none (λ other h. ap (λ (x : Emb). x.colour) (sym (some_same emb other (one other h)))
    ∙ eqb-true emb.colour colour own))) none)
    (λ (foreign : (emb.colour == colour) ≡ false).
    (damaged.foreign none emb (has emb refl) (not_same emb.colour colour foreign)).centre)
    (cases_Bool (emb.colour == colour))

emb_heard : (colour : ℕ) (bits : List Bool) (heard : Heard) → IsHeardBurst colour bits heard → (emb : Emb) → heard.emb ≡ Some emb
    → HasEmb emb bits
emb_heard colour bits heard h emb e = rw e at h.emb_within

burst_bits : (colour : ℕ) (sent : SentSlot) (means : List Bool → Said) (field : Option ℕ) (old new : List ℕ)
    (heard : Heard) (said : VoiceOut) → Agrees sent means → IsRecordedAs colour sent (Some old)
    → Hears colour (Some old) heard → IsHeardAs sent heard → IsSaid colour (means heard.vocoder) said
    → IsDamagedBy colour (burst_mark colour heard said) field (bits_of_octets old) (bits_of_octets new)
    → AreBitsWritten colour sent means field old new
burst_bits colour Silent means field old new heard said agrees recorded hears as_sent says damaged = absurd recorded.damaged
burst_bits colour (Data kind information lc) means field old new heard said agrees recorded hears as_sent says damaged =
    data_bits colour kind information lc means field old new heard said agrees as_sent says damaged
burst_bits colour VoiceSync means field old new heard said agrees recorded hears as_sent says damaged =
    sync_bits colour means field old new heard said agrees recorded.damaged as_sent says damaged
burst_bits colour (Voice emb embedded) means field old new heard said agrees recorded hears as_sent says damaged =
    voice_bits colour emb embedded means field old new heard said recorded.sent agrees recorded.damaged as_sent says damaged
burst_bits colour (ForeignVoice emb) means field old new heard said agrees recorded hears as_sent says damaged =
    let bits = unrepeated_bits colour means field old new heard said agrees says damaged in
    let now = bits.foreign recorded.damaged.1 emb recorded.damaged.0 recorded.sent in
    record { bits = (now.emb emb recorded.damaged.0, now.centre); same = nothing_alike means _ _ agrees }
burst_bits colour ForeignData means field old new heard said agrees recorded hears as_sent says damaged =
    let bits = unrepeated_bits colour means field old new heard said agrees says damaged in
    record {
      bits = foreign_data_bits colour (bits_of_octets old) (bits_of_octets new) recorded.damaged bits;
      same = nothing_alike means _ _ agrees;
    }
burst_bits colour CutOff means field old new heard said agrees recorded hears as_sent says damaged =
    let bits = unrepeated_bits colour means field old new heard said agrees says damaged in
    record {
      bits = cut_off_bits colour (bits_of_octets old) (bits_of_octets new) heard.emb recorded.damaged
          (emb_heard colour (bits_of_octets old) heard hears.1) hears.1.emb_only bits;
      same = nothing_alike means _ _ agrees;
    }

sent_stays : (colour : ℕ) (sent : SentSlot) (field : Option ℕ) (slot : Option (List ℕ)) (bits : List ℕ)
    → IsRecordedAs colour sent slot → IsDamagedBurst colour (sent_with sent field) (bits_of_octets bits)
    → IsRecordedAs colour (sent_with sent field) (Some bits)
sent_stays colour Silent field slot bits was now = record { sent = was.sent; damaged = now }
sent_stays colour (Data kind information lc) field slot bits was now = record { sent = was.sent; damaged = now }
sent_stays colour VoiceSync field slot bits was now = record { sent = was.sent; damaged = now }
sent_stays colour (Voice emb embedded) None slot bits was now = record { sent = was.sent; damaged = now }
sent_stays colour (Voice emb embedded) (Some f) slot bits was now = record { sent = was.sent; damaged = now }
sent_stays colour (ForeignVoice emb) field slot bits was now = record { sent = was.sent; damaged = now }
sent_stays colour ForeignData field slot bits was now = record { sent = was.sent; damaged = now }
sent_stays colour CutOff field slot bits was now = record { sent = was.sent; damaged = now }

-- what a slot is written as, by what the rules say of it
pub slot_written : (colour : ℕ) (sent : SentSlot) (means : List Bool → Said) (field : Option ℕ) (slot o : Option (List ℕ))
    (heard : Heard) (said : VoiceOut) → Agrees sent means → IsRecordedAs colour sent slot → Hears colour slot heard
    → IsHeardAs sent heard → IsSaid colour (means heard.vocoder) said
    → IsDamagedSlot colour (burst_mark colour heard said) field slot o → IsWritten colour sent means field slot o
slot_written colour sent means field None o heard said agrees recorded hears as_sent says damaged =
    silent_written colour sent means field None o recorded.damaged refl damaged
slot_written colour sent means field (Some octets) o heard said agrees recorded hears as_sent says (new, is, long, damaged) =
    let bits = burst_bits colour sent means field octets new heard said agrees recorded hears as_sent says damaged in
    record {
      recorded = subst (λ x. IsRecordedAs colour (sent_with sent field) x) (sym is)
          (sent_stays colour sent field (Some octets) new recorded bits.bits);
      means_alike = ap (λ x. means (vocoder_of x)) is ∙ bits.same;
    }
