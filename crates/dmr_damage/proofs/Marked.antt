-- Bursts that are damaged by what they count as.
use Rattle.std.proofs.Common.{◌≡◌, ◌≢◌, ℕ, ◌<◌, ◌≤◌, Bool, true, false, List, Option, Some, None, refl, sym, subst, arith}
use Rattle.std.proofs.Common.{inl, inr}
use Rattle.std.proofs.lemmas.Bool.{cases_lt}
use Rattle.std.specs.Prelude.{IfSome}
use Rattle.dmr_bits.specs.Bits.{distance}
use Rattle.dmr_bptc.specs.Decoding.{IsDamaged}
use Rattle.dmr_bptc.specs.ProductWord.{IsProductWord}
use Rattle.dmr_burst.specs.Emb.{HasEmb}
use Rattle.dmr_burst.specs.Layout.{slot_type_field, emb_field, sync_field}
use Rattle.dmr_burst.specs.SlotType.{HasSlotType, slot_type_of}
use Rattle.dmr_burst.specs.Sync.{HasSync, sync_word}
use Rattle.dmr_burst.specs.declared.emb.Emb.{Emb}
use Rattle.dmr_burst.specs.declared.slot_type.SlotType.{SlotType}
use Rattle.dmr_burst.specs.declared.sync.Side.TheVariants.{Ms}
use Rattle.dmr_burst.specs.declared.sync.Sync.{Sync}
use Rattle.dmr_codes.specs.Seven.{IsGolay20}
use Rattle.dmr_hearing.specs.Damage.{IsDamagedPayload, HasNoMobileSync}
use Rattle.dmr_hearing.specs.Hearing.{Reads}
use Rattle.dmr_hearing.specs.declared.data_types.Payload.{Payload}
use Rattle.dmr_hearing.specs.declared.data_types.Payload.TheVariants.{Word, Sealed, LinkControl, Raw, Nothing}
use Rattle.dmr_link.specs.declared.full_lc.FullLc.{FullLc}
use Rattle.dmr_damage.specs.Bursts.{IsDamagedForeignVoice, IsDamagedUnheardData, IsDamagedUnrepeated, IsDamagedVoiceSync}

-- ---- a field that is as it was says what it said
pub same_sync : (sync : Sync) (a b : List Bool) → sync_field b ≡ sync_field a → HasSync sync a → HasSync sync b
same_sync sync a b e has = subst (λ f. distance (sync_word sync.side sync.voice) f ≤ 3) (sym e) has

-- A burst with the same slot type field has the same slot type.
pub same_slot_type : (slot_type : SlotType) (a b : List Bool) → slot_type_field b ≡ slot_type_field a → HasSlotType slot_type a
    → HasSlotType slot_type b
same_slot_type slot_type a b e has = (has.0, has.1, subst (λ f. distance has.0 f ≤ 3) (sym e) has.2, has.3)

-- A burst with the same EMB field has the same EMB.
pub same_emb : (emb : Emb) (a b : List Bool) → emb_field b ≡ emb_field a → HasEmb emb a → HasEmb emb b
same_emb emb a b e has = (has.0, has.1, subst (λ f. distance has.0 f ≤ 2) (sym e) has.2, has.3)

-- a slot type whose word was decoded reads
pub word_of : (bits field : List Bool) (r : Option (List Bool)) (word : List Bool) → field ≡ slot_type_field bits → r ≡ Some word
    → IfSome r (λ w. IsGolay20 w × (distance w field ≤ 3)) → HasSlotType (slot_type_of word) bits
word_of bits field r word e is within =
    let found : IsGolay20 word × (distance word field ≤ 3) =
    subst (λ x. IfSome x (λ w. IsGolay20 w × (distance w field ≤ 3))) is within in
    (word, found.0, subst (λ f. distance word f ≤ 3) e found.1, refl)

-- ---- the information of a data burst
-- what is read of information that isn't raw is a product word
pub read_word : (payload : Payload) (received information : List Bool) (lc : Option FullLc) → payload ≢ Raw
    → Reads payload received information lc → IsProductWord information
read_word Word received information lc apart reads = reads.2.word
read_word (Sealed mask) received information lc apart reads = reads.3.word
read_word (LinkControl lc_use) received information lc apart reads = reads.4.word
read_word Raw received information lc apart reads = absurd (apart refl)
read_word Nothing received information lc apart reads = absurd reads

-- with wrong bits it is damaged within the limits
pub payload_damaged : (payload : Payload) (received information damaged : List Bool) (lc : Option FullLc) → payload ≢ Raw
    → Reads payload received information lc → IsDamaged information damaged → IsDamagedPayload payload information damaged
payload_damaged Word received information damaged lc apart reads is = (information, reads.2.word, refl, is)
payload_damaged (Sealed mask) received information damaged lc apart reads is = (information, reads.3.word, refl, is)
payload_damaged (LinkControl lc_use) received information damaged lc apart reads is = (information, reads.4.word, refl, is)
payload_damaged Raw received information damaged lc apart reads is = absurd (apart refl)
payload_damaged Nothing received information damaged lc apart reads is = absurd reads

-- raw information is as it was received
pub payload_raw : (payload : Payload) (received information : List Bool) (lc : Option FullLc) → payload ≡ Raw
    → Reads payload received information lc → IsDamagedPayload payload information received
payload_raw Raw received information lc e reads = sym reads.0
payload_raw Word received information lc e reads = cc
payload_raw (Sealed mask) received information lc e reads = cc
payload_raw (LinkControl lc_use) received information lc e reads = cc
payload_raw Nothing received information lc e reads = cc

-- ---- bursts for which nothing is repeated
-- what is known of a sync that was sought
pub record IsSought (bits : List Bool) (r : Option Bool) : Type 0 where
  pub within : IfSome r (λ voice. HasSync (record { side = Ms; voice = voice }) bits)
  pub only : (voice : Bool) → HasSync (record { side = Ms; voice = voice }) bits → r ≡ Some voice

-- where none is found there is none
pub none_sought : (bits : List Bool) (r : Option Bool) → r ≡ None → IsSought bits r → HasNoMobileSync bits
none_sought bits r e is = record {
  voice = far true;
  data_sync = far false;
}
  where
    clash : (voice : Bool) → r ≡ Some voice → ⊥
    clash voice f = cc

    far : (voice : Bool) → 3 < distance (sync_word Ms voice) (sync_field bits)
    far voice =
        elim (cases_lt 3 (distance (sync_word Ms voice) (sync_field bits))) [
          | inl h ↦ h
          | inr h ↦ absurd (clash voice (is.only voice h))
        ]

-- one that is found isn't none
found_any : (voice : Bool) (bits : List Bool) → HasSync (record { side = Ms; voice = voice }) bits → HasNoMobileSync bits → ⊥
found_any true bits has none = omega (arith, has, none.voice)
found_any false bits has none = omega (arith, has, none.data_sync)

has_found : (bits : List Bool) (r : Option Bool) (voice : Bool) → r ≡ Some voice → IsSought bits r
    → HasSync (record { side = Ms; voice = voice }) bits
has_found bits r voice e is = subst (λ x. IfSome x (λ v. HasSync (record { side = Ms; voice = v }) bits)) e is.within

pub other_sync : (r : Option Bool) → r ≡ Some true → r ≡ Some false → ⊥
other_sync r e f = cc

pub by_voice : (colour : ℕ) (old new : List Bool) (r : Option Bool) → r ≡ Some true → IsSought old r → IsDamagedVoiceSync old new
    → IsDamagedUnrepeated colour old new
by_voice colour old new r e is damaged = record {
  voice = λ has. damaged;
  data_sync = λ has. absurd (other_sync r e (is.only false has));
  foreign = λ none emb has apart. absurd (found_any true old (has_found old r true e is) none);
  others = λ none all. absurd (found_any true old (has_found old r true e is) none);
}

pub by_data : (colour : ℕ) (old new : List Bool) (r : Option Bool) → r ≡ Some false → IsSought old r → IsDamagedUnheardData old new
    → IsDamagedUnrepeated colour old new
by_data colour old new r e is damaged = record {
  voice = λ has. absurd (other_sync r (is.only true has) e);
  data_sync = λ has. damaged;
  foreign = λ none emb has apart. absurd (found_any false old (has_found old r false e is) none);
  others = λ none all. absurd (found_any false old (has_found old r false e is) none);
}

not_found : (voice : Bool) (bits : List Bool) (r : Option Bool) → r ≡ None → IsSought bits r
    → HasSync (record { side = Ms; voice = voice }) bits → ⊥
not_found voice bits r e is has = let f = is.only voice has in clash f
  where
    clash : r ≡ Some voice → ⊥
    clash f = cc

-- One result holds one EMB.
pub one_emb : (r : Option Emb) (a b : Emb) → r ≡ Some a → r ≡ Some b → a ≡ b
one_emb r a b e f = cc

-- A burst with no sync and the EMB of another colour code is damaged as such a voice burst.
pub by_emb : (colour : ℕ) (old new : List Bool) (r : Option Bool) (found : Option Emb) (emb : Emb) → r ≡ None → IsSought old r
    → found ≡ Some emb → IfSome found (λ e. HasEmb e old) → emb.colour ≢ colour → IsDamagedForeignVoice old new
    → IsDamagedUnrepeated colour old new
by_emb colour old new r found emb e is f within apart damaged = record {
  voice = λ has. absurd (not_found true old r e is has);
  data_sync = λ has. absurd (not_found false old r e is has);
  foreign = λ none other has different. damaged;
  others = λ none all. absurd (apart (all emb (subst (λ x. IfSome x (λ e. HasEmb e old)) f within)));
}

-- A burst with no sync and no EMB of another colour code stays as it is.
pub by_none : (colour : ℕ) (old new : List Bool) (r : Option Bool) → r ≡ None → IsSought old r
    → ((emb : Emb) → HasEmb emb old → emb.colour ≢ colour → ⊥) → new ≡ old → IsDamagedUnrepeated colour old new
by_none colour old new r e is none same = record {
  voice = λ has. absurd (not_found true old r e is has);
  data_sync = λ has. absurd (not_found false old r e is has);
  foreign = λ far emb has apart. absurd (none emb has apart);
  others = λ far all. same;
}
