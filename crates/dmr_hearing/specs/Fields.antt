-- The link control that four embedded fields carry: as it is sent, as it may be received, and as it is read. The fields are
-- those of four voice bursts in a row. ETSI TS 102 361-1, clause 7.1.3 and annex B.2.1.
use Rattle.std.specs.Prelude.{◌≡◌, ℕ, ◌<◌, ◌^◌, List, All, length, Option, Some, None, Result, Ok, Err}
use Rattle.dmr_bits.specs.Bits.{bits_of_octets}
use Rattle.dmr_embedded.specs.EmbeddedWord.{IsEmbedded}
use Rattle.dmr_embedded.specs.Extracting.{IsExtracted, AreRowsDamaged}
use Rattle.dmr_embedded.specs.EmbeddedWord.{bits_of_fields}
use Rattle.dmr_embedded.specs.declared.fault.EmbedFault.{EmbedFault}
use Rattle.dmr_link.specs.FullLc.{full_lc_bits, FitsFullLc}
use Rattle.dmr_link.specs.declared.full_lc.FullLc.{FullLc}

-- Four fields of 32 bits carry a link control: they are an embedded word of its octets.
pub record IsCarrier (lc : FullLc) (fields : List ℕ) : Type 0 where
  pub octets : List ℕ
  pub spelled : bits_of_octets octets ≡ full_lc_bits lc
  pub embedded : IsEmbedded octets fields
  pub four : length fields ≡ 4
  pub narrow : All (λ field. field < 2 ^ 32) fields

-- Four fields are received where a link control is sent: at most one bit is wrong in each of the eight rows of its table.
abbrev pub IsReceived : FullLc → List ℕ → Type 0
IsReceived lc received =
    FitsFullLc lc × ((sent : List ℕ) × IsCarrier lc sent × AreRowsDamaged (bits_of_fields sent) (bits_of_fields received))

-- The link control whose fields these octets spell, where there are octets.
abbrev pub IsSpelled : Result (List ℕ) EmbedFault → Option FullLc → Type 0
IsSpelled (Ok octets) (Some lc) = (full_lc_bits lc ≡ bits_of_octets octets) × FitsFullLc lc
IsSpelled (Ok octets) None = ⊥
IsSpelled (Err fault) (Some lc) = ⊥
IsSpelled (Err fault) None = Unit {0}

-- What is read from four embedded fields: the link control whose octets are extracted, or nothing where none are.
abbrev pub IsReadFrom : List ℕ → Option FullLc → Type 0
IsReadFrom fields lc = (extracted : Result (List ℕ) EmbedFault) × IsExtracted fields extracted × IsSpelled extracted lc
