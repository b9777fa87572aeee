-- A burst is a voice burst, or it isn't one, whatever it is read as.
use Rattle.std.proofs.Common.{◌≡◌, Bool, true, false, List, Option, Some, None, length, sym, ap, ◌∙◌, arith}
use Rattle.dmr_bits.proofs.Parts.{length-part}
use Rattle.dmr_burst.proofs.Syncs.{first_is}
use Rattle.dmr_burst.specs.Layout.{sync_field}
use Rattle.dmr_burst.specs.Sync.{HasSync}
use Rattle.dmr_burst.specs.declared.sync.Side.{Side}
use Rattle.dmr_burst.specs.declared.sync.Sync.{Sync}
use Rattle.dmr_compare.specs.Kept.{is_voice}
use Rattle.dmr_reading.specs.Reading.{IsReadAs}
use Rattle.dmr_reading.specs.declared.reading.Reading.{Reading}
use Rattle.dmr_reading.specs.declared.reading.Reading.TheVariants.{Data, Untyped, VoiceSync, Voice, Unreadable}

-- the kind of a sync that was found
abbrev pub is_of_voice : Option Sync → Bool
is_of_voice (Some sync) = sync.voice
is_of_voice None = false

-- no burst has a sync of voice and one of data
two_kinds : (side side' : Side) (bits : List Bool) → length bits ≡ 264 → HasSync (record { side = side; voice = true }) bits
    → HasSync (record { side = side'; voice = false }) bits → ⊥
two_kinds side side' bits long near near' =
    let wide : length (sync_field bits) ≡ 48 = length-part bits 108 156 (omega arith) (omega (arith, long)) ∙ omega arith in
    let one = first_is side true (sync_field bits) wide near in
    let other = first_is side' false (sync_field bits) wide near' in
    let kinds : true ≡ false = ap is_of_voice (sym one ∙ other) in
    absurd (grind (arith, kinds))

-- no burst is read as voice and as something else
pub clash : (bits : List Bool) (r r' : Reading) → length bits ≡ 264 → is_voice r ≡ true → is_voice r' ≡ false
    → IsReadAs bits r → IsReadAs bits r' → ⊥
clash bits (Data side slot_type information) r' long e e' h h' = absurd (grind (arith, e))
clash bits (Untyped side) r' long e e' h h' = absurd (grind (arith, e))
clash bits Unreadable r' long e e' h h' = absurd (grind (arith, e))
clash bits (VoiceSync side) (VoiceSync side') long e e' h h' = absurd (grind (arith, e'))
clash bits (VoiceSync side) (Voice emb) long e e' h h' = absurd (grind (arith, e'))
clash bits (VoiceSync side) (Data side' slot_type information) long e e' h h' = two_kinds side side' bits long h h'.0
clash bits (VoiceSync side) (Untyped side') long e e' h h' = two_kinds side side' bits long h h'.0
clash bits (VoiceSync side) Unreadable long e e' h h' = h'.0 (record { side = side; voice = true }) h
clash bits (Voice emb) (VoiceSync side) long e e' h h' = absurd (grind (arith, e'))
clash bits (Voice emb) (Voice emb') long e e' h h' = absurd (grind (arith, e'))
clash bits (Voice emb) (Data side slot_type information) long e e' h h' = h.0 (record { side = side; voice = false }) h'.0
clash bits (Voice emb) (Untyped side) long e e' h h' = h.0 (record { side = side; voice = false }) h'.0
clash bits (Voice emb) Unreadable long e e' h h' = h'.1 emb h.1
