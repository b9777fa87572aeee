-- The octets of a slot are those of one burst.
use Rattle.std.proofs.Common.{◌≡◌, ℕ, ◌%◌, Bool, true, false, List, ◌++◌, length, take, drop, get_or, Option, Some, None, refl}
use Rattle.std.proofs.Common.{sym, ap, ◌∙◌, subst, arith, lit≤}
use Rattle.std.proofs.lemmas.List.{take_at, drop_at}
use Rattle.dmr_bits.specs.Bits.{bits_of_octets, part}
use Rattle.dmr_bits.proofs.Parts.{length-part}
use Rattle.dmr_codes.specs.Code.{ones_over}
use Rattle.dmr_codes.specs.Seven.{IsResidue16, residue16_columns}
use Rattle.dmr_burst.specs.Burst.{IsEncoding}
use Rattle.dmr_burst.specs.Layout.{emb_field, sync_field}
use Rattle.dmr_burst.specs.Sync.{sync_word}
use Rattle.dmr_burst.specs.declared.burst.Burst.{Burst}
use Rattle.dmr_burst.specs.declared.burst.Burst.TheVariants.{Data, VoiceSync, Voice}
use Rattle.dmr_burst.specs.declared.emb.Emb.{Emb}
use Rattle.dmr_burst.specs.declared.slot_type.SlotType.{SlotType}
use Rattle.dmr_burst.specs.declared.sync.Side.TheVariants.{Bs}
use Rattle.dmr_burst.proofs.Pieces.{parts_meet}
use Rattle.dmr_station.specs.Clean.{IsEncodedAs}

-- ---- a sync has no EMB
-- the EMB's places in a sync
emb_in_sync : (bits : List Bool) → length bits ≡ 264 → emb_field bits ≡ take 8 (sync_field bits) ++ drop 40 (sync_field bits)
emb_in_sync bits long =
    let front : take 8 (sync_field bits) ≡ part bits 108 116 =
    ap (take 8) (sym (parts_meet bits 108 116 156 (lit≤ tt) (lit≤ tt)))
    ∙ take_at (part bits 108 116) (part bits 116 156) 8 (length-part bits 108 116 (lit≤ tt) (omega arith)) in
    let back : drop 40 (sync_field bits) ≡ part bits 148 156 =
    ap (drop 40) (sym (parts_meet bits 108 148 156 (lit≤ tt) (lit≤ tt)))
    ∙ drop_at (part bits 108 148) (part bits 148 156) 40 (length-part bits 108 148 (lit≤ tt) (omega arith)) in
    sym (ap (λ l. l ++ drop 40 (sync_field bits)) front ∙ ap (λ l. part bits 108 116 ++ l) back)

-- the fifth check of the residue code finds an odd number of ones there
emb_of_sync : (voice : Bool) (bits : List Bool) → length bits ≡ 264 → sync_field bits ≡ sync_word Bs voice
    → emb_field bits ≡ take 8 (sync_word Bs voice) ++ drop 40 (sync_word Bs voice)
emb_of_sync voice bits long sync = subst (λ (l : List Bool). emb_field bits ≡ take 8 l ++ drop 40 l) sync (emb_in_sync bits long)

odd_check : (voice : Bool) → ones_over 4 residue16_columns (take 8 (sync_word Bs voice) ++ drop 40 (sync_word Bs voice)) % 2 ≡ 1
unfolding sync_word
odd_check true = refl
odd_check false = refl

no_emb : (voice : Bool) (bits : List Bool) → length bits ≡ 264 → sync_field bits ≡ sync_word Bs voice
    → IsResidue16 (emb_field bits) → ⊥
no_emb voice bits long sync word =
    let even = subst (λ (l : List Bool). ones_over 4 residue16_columns l % 2 ≡ 0) (emb_of_sync voice bits long sync) (word.even 4
    (omega arith)) in
    let odd = odd_check voice in
    let bad : ◌≡◌ {A = ℕ} 1 0 = sym odd ∙ even in
    absurd (omega (arith, bad))

no_sync_of_both : sync_word Bs false ≡ sync_word Bs true → ⊥
unfolding sync_word
no_sync_of_both e = absurd (let bad : true ≡ false = ap (λ (l : List Bool). get_or l 0 false) e in cc)

-- ---- bursts
same_data : (c d k l : ℕ) (i j : List Bool)
    → ◌≡◌ {A = SlotType} (record { colour = c; kind = k }) (record { colour = d; kind = l }) → i ≡ j → Data c k i ≡ Data d l j
same_data c d k l i j e f =
    let colour : c ≡ d = ap (λ (s : SlotType). s.colour) e in
    let kind : k ≡ l = ap (λ (s : SlotType). s.kind) e in
    cc

same_voice : (a b : Emb) (f g : ℕ) (v w : List Bool) → a ≡ b → f ≡ g → v ≡ w → Voice a f v ≡ Voice b g w
same_voice a b f g v w p q r = cc

one_burst : (a b : Burst) (bits : List Bool) → IsEncoding a Bs bits → IsEncoding b Bs bits → a ≡ b
one_burst (Data c k i) (Data d l j) bits u v = same_data c d k l i j (sym u.2 ∙ v.2) (sym u.3 ∙ v.3)
one_burst (Data c k i) (VoiceSync w) bits u v = absurd (no_sync_of_both (sym u.4 ∙ v.2))
one_burst (Data c k i) (Voice emb f w) bits u v = absurd (no_emb false bits u.0 u.4 v.1)
one_burst (VoiceSync w) (Data c k i) bits u v = absurd (no_sync_of_both (sym v.4 ∙ u.2))
one_burst (VoiceSync w) (VoiceSync x) bits u v = ap VoiceSync (sym u.1 ∙ v.1)
one_burst (VoiceSync w) (Voice emb f x) bits u v = absurd (no_emb true bits u.0 u.2 v.1)
one_burst (Voice emb f w) (Data c k i) bits u v = absurd (no_emb false bits v.0 v.4 u.1)
one_burst (Voice emb f w) (VoiceSync x) bits u v = absurd (no_emb true bits v.0 v.2 u.1)
one_burst (Voice emb f w) (Voice other g x) bits u v = same_voice emb other f g w x (sym u.2 ∙ v.2) (sym u.3 ∙ v.3) (sym u.4
    ∙ v.4)

-- what is sent in a slot is the encoding of one burst alone, or of silence
pub one_reading : (a b : Option Burst) (sent : Option (List ℕ × List ℕ)) → IsEncodedAs a sent → IsEncodedAs b sent → a ≡ b
one_reading None None sent u v = refl
one_reading None (Some b) None u v = absurd v
one_reading None (Some b) (Some s) u v = absurd (cc)
one_reading (Some a) None None u v = absurd u
one_reading (Some a) None (Some s) u v = absurd (cc)
one_reading (Some a) (Some b) None u v = absurd u
one_reading (Some a) (Some b) (Some s) u v = ap Some (one_burst a b (bits_of_octets s.1) u.1 v.1)
