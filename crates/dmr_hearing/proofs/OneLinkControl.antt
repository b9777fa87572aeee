-- Four fields carry one link control, which has one carrier.
use Rattle.std.proofs.Common.{◌≡◌, ◌<◌, ℕ, List, All, length, Option, Some, None, Result, Ok, Err, refl, sym, ap, ◌∙◌, subst}
use Rattle.dmr_bits.specs.Bits.{bits_of_octets}
use Rattle.dmr_bits.proofs.OctetFronts.{length-octets_of, octets_of-small}
use Rattle.dmr_bits.proofs.Spelled.{same_octets}
use Rattle.dmr_embedded.specs.EmbeddedWord.{IsEmbedded, lc_bits}
use Rattle.dmr_embedded.specs.EmbeddedWord.{bits_of_fields}
use Rattle.dmr_embedded.specs.declared.fault.EmbedFault.{EmbedFault}
use Rattle.dmr_embedded.proofs.Correcting.{one_extracted}
use Rattle.dmr_embedded.proofs.Damage.{damage_undone}
use Rattle.dmr_embedded.proofs.Unique.{one_embedded}
use Rattle.dmr_hearing.specs.Fields.{IsCarrier, IsReceived, IsSpelled, IsReadFrom}
use Rattle.dmr_hearing.specs.Fit.{IsFitLc}
use Rattle.dmr_link.specs.FullLc.{full_lc_bits, FitsFullLc}
use Rattle.dmr_link.specs.declared.full_lc.FullLc.{FullLc}
use Rattle.dmr_link.proofs.Fields.{same_fields}

-- ---- as it is sent
-- What is embedded is nine octets.
embedded_small : (octets fields : List ℕ) → IsEmbedded octets fields → All (λ octet. octet < 256) octets
embedded_small octets fields e = subst (All (λ octet. octet < 256)) e.holds (octets_of-small 9 (lc_bits (bits_of_fields fields)))

embedded_nine : (octets fields : List ℕ) → IsEmbedded octets fields → length octets ≡ 9
embedded_nine octets fields e = sym (ap length e.holds) ∙ length-octets_of 9 (lc_bits (bits_of_fields fields))

-- A link control has one carrier.
pub one_carrier : (lc : FullLc) (a b : List ℕ) → IsCarrier lc a → IsCarrier lc b → a ≡ b
one_carrier lc a b p q =
    let same : p.octets ≡ q.octets =
    same_octets p.octets q.octets (embedded_small p.octets a p.embedded) (embedded_small q.octets b q.embedded)
    (embedded_nine p.octets a p.embedded ∙ sym (embedded_nine q.octets b q.embedded)) (p.spelled ∙ sym q.spelled) in
    one_embedded p.octets a b p.four q.four p.narrow q.narrow p.embedded
    (subst (λ octets. IsEmbedded octets b) (sym same) q.embedded)

-- ---- as it is read
-- Octets spell one link control.
pub one_spelled : (extracted : Result (List ℕ) EmbedFault) (a b : Option FullLc) → IsSpelled extracted a → IsSpelled extracted b
    → a ≡ b
one_spelled (Ok octets) (Some a) (Some b) p q = ap (λ lc. Some lc) (same_fields a b p.1 q.1 (p.0 ∙ sym q.0))
one_spelled (Ok octets) (Some a) None p q = absurd q
one_spelled (Ok octets) None b p q = absurd p
one_spelled (Err fault) (Some a) b p q = absurd p
one_spelled (Err fault) None (Some b) p q = absurd q
one_spelled (Err fault) None None p q = refl

-- the same link control is read from the same fields each time, or none is
pub one_read : (fields : List ℕ) (a b : Option FullLc) → IsReadFrom fields a → IsReadFrom fields b → a ≡ b
one_read fields a b p q =
    one_spelled q.0 a b (subst (λ extracted. IsSpelled extracted a) (one_extracted fields p.0 q.0 p.1 q.1) p.2) q.2

-- Its opcode fits.
pub spelled_fit : (extracted : Result (List ℕ) EmbedFault) (lc : Option FullLc) → IsSpelled extracted lc → IsFitLc lc
spelled_fit (Ok octets) (Some lc) p = p.1.flco
spelled_fit (Ok octets) None p = tt
spelled_fit (Err fault) (Some lc) p = absurd p
spelled_fit (Err fault) None p = tt

-- Octets that are extracted spell the link control whose octets they are.
spelled_is : (extracted : Result (List ℕ) EmbedFault) (octets : List ℕ) (lc : FullLc) (k : Option FullLc) → FitsFullLc lc
    → bits_of_octets octets ≡ full_lc_bits lc → extracted ≡ Ok octets → IsSpelled extracted k → k ≡ Some lc
spelled_is extracted octets lc k fit spelled is p = at_octets k (subst (λ x. IsSpelled x k) is p)
  where
    at_octets : (k : Option FullLc) → IsSpelled (Ok octets) k → k ≡ Some lc
    at_octets None p = absurd p
    at_octets (Some other) p = ap (λ lc. Some lc) (same_fields other lc p.1 fit (p.0 ∙ spelled))

-- What is received is read.
pub received_is_read : (lc : FullLc) (fields : List ℕ) (k : Option FullLc) → IsReceived lc fields → IsReadFrom fields k
    → k ≡ Some lc
received_is_read lc fields k p q =
    let sent : List ℕ = p.1.0 in
    let carrier : IsCarrier lc sent = p.1.1 in
    spelled_is q.0 carrier.octets lc k p.0 carrier.spelled
    (damage_undone fields (bits_of_fields sent) q.0 carrier.embedded.word p.1.2 q.1
    ∙ ap (λ octets. Ok octets) carrier.embedded.holds) q.2
