-- Any four fields carry a link control or nothing: there is what is read from them.
use Rattle.std.proofs.Common.{◌≡◌, ℕ, Bool, true, false, List, length, cond, Option, Some, None, Ok, Err, sym, subst, arith, inl}
use Rattle.std.proofs.Common.{inr}
use Rattle.dmr_bits.specs.Bits.{bits_of_octets}
use Rattle.dmr_bits.proofs.OctetFronts.{length-bits_of_octets, length-octets_of}
use Rattle.dmr_embedded.specs.EmbeddedWord.{lc_bits, lc_octets}
use Rattle.dmr_embedded.specs.Extracting.{outcome}
use Rattle.dmr_embedded.specs.declared.fault.EmbedFault.TheVariants as fault
use Rattle.dmr_embedded.proofs.Existing.{extracted_somehow}
use Rattle.dmr_hearing.specs.Fields.{IsSpelled, IsReadFrom}
use Rattle.dmr_link.specs.declared.full_lc.FullLc.{FullLc}
use Rattle.dmr_link.proofs.Existing.{lc_of_bits}

-- ---- what a table gives is spelled
spelled_at : (x y : Bool) (octets : List ℕ) → length octets ≡ 9
    → (lc : Option FullLc) × IsSpelled (cond x (Err fault.Columns) (cond y (Ok octets) (Err fault.Checksum))) lc
spelled_at true y octets e = (None, tt)
spelled_at false false octets e = (None, tt)
spelled_at false true octets e =
    let (lc, bits, fit) = lc_of_bits (bits_of_octets octets) (omega (arith, length-bits_of_octets octets)) in (Some lc, (bits, fit))

spelled_somehow : (table : List Bool) → (lc : Option FullLc) × IsSpelled (outcome table) lc
spelled_somehow table =
    spelled_at _ _ (lc_octets table) (length-octets_of 9 (lc_bits table))

-- ---- what is read
pub read_somehow : (fields : List ℕ) → (lc : Option FullLc) × IsReadFrom fields lc
read_somehow fields =
    let (result, extracted, how) = extracted_somehow fields in
    elim how [
      | inl lost ↦ (None, (result, extracted, subst (λ r. IsSpelled r None) (sym lost) tt))
      | inr given ↦
          (let (lc, spelled) = spelled_somehow given.0 in
          (lc, (result, extracted, subst (λ r. IsSpelled r lc) (sym given.1) spelled)))
    ]
