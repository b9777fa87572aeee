-- The information of the data bursts that a script names, with all check bits. ETSI TS 102 361-1, clauses 7 to 9.
use Rattle.std.specs.Prelude.{◌≡◌, ℕ, ◌<◌, All, List, Bool, length, take}
use Rattle.dmr_bits.specs.Bits.{bits_of_octets}
use Rattle.dmr_bptc.specs.ProductWord.{IsWritten}
use Rattle.dmr_burst.specs.DataTypes.{voice_lc_header, terminator_with_lc, rate_half_data, rate_one_data}
use Rattle.dmr_checks.specs.Sealed.{IsSealed}
use Rattle.dmr_checks.specs.declared.sealing.Mask.TheVariants as mask
use Rattle.dmr_csbk.specs.Block.{IsCsbk}
use Rattle.dmr_csbk.specs.declared.block.Csbk.{Csbk}
use Rattle.dmr_data.specs.HeaderForms.{IsWrittenForm}
use Rattle.dmr_data.specs.declared.header.Header.{Header}
use Rattle.dmr_data.specs.declared.rate.Rate.{Rate}
use Rattle.dmr_data.specs.declared.rate.Rate.TheVariants.{Half, Full}
use Rattle.dmr_link.specs.Sealed.{IsLc}
use Rattle.dmr_link.specs.declared.full_lc.FullLc.{FullLc}
use Rattle.dmr_link.specs.declared.sealing.LcUse.{LcUse}
use Rattle.dmr_link.specs.declared.sealing.LcUse.TheVariants.{Header as ForHeader, Terminator}

-- A link control, sealed for its use, under the product code.
pub record IsLcInformation (lc_use : LcUse) (lc : FullLc) (information : List Bool) : Type 0 where
  pub message : List Bool
  pub sealed : IsLc lc_use lc message
  pub written : IsWritten message information

-- the data type of a burst that has a link control for this use
abbrev pub kind_of_use : LcUse → ℕ
kind_of_use ForHeader = voice_lc_header
kind_of_use Terminator = terminator_with_lc

-- Ten octets and their check under the mask of PI headers, under the product code.
pub record IsPiInformation (key : List ℕ) (information : List Bool) : Type 0 where
  pub octets : List ℕ
  pub twelve : length octets ≡ 12
  pub small : All (λ octet. octet < 256) octets
  pub front : take 10 octets ≡ key
  pub sealed : IsSealed mask.Pi octets
  pub written : IsWritten (bits_of_octets octets) information

-- A control signalling block under the product code.
pub record IsCsbkInformation (csbk : Csbk) (information : List Bool) : Type 0 where
  pub message : List Bool
  pub block : IsCsbk csbk message
  pub written : IsWritten message information

-- A data header under the product code.
pub record IsHeaderInformation (header : Header) (information : List Bool) : Type 0 where
  pub message : List Bool
  pub form : IsWrittenForm header message
  pub written : IsWritten message information

-- the data type of blocks at this rate
abbrev pub kind_at_rate : Rate → ℕ
kind_at_rate Half = rate_half_data
kind_at_rate Full = rate_one_data
