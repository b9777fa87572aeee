-- A control signalling block in its 96 bits. ETSI TS 102 361-1, clause 7.2.
use Rattle.std.specs.Prelude.{◌≡◌, ◌<◌, List, Bool, ◌∷◌, ◌++◌, length, take, All, Some, None}
use Rattle.dmr_bits.specs.Bits.{bits_of, bits_of_octets, octets_of}
use Rattle.dmr_bptc.specs.Decoding.{IsDecoded}
use Rattle.dmr_checks.specs.Sealed.{IsSealed}
use Rattle.dmr_checks.specs.declared.sealing.Mask.TheVariants as mask
use Rattle.dmr_csbk.specs.declared.block.Csbk.{Csbk}
use Rattle.dmr_csbk.specs.declared.fault.CsbkFault.{CsbkFault}
use Rattle.dmr_csbk.specs.declared.fault.CsbkFault.TheVariants.{Bptc, Crc}

-- LB, PF, CSBKO in six bits, FID in eight, and the body
abbrev pub csbk_bits : Csbk → List Bool
csbk_bits c = c.last ∷ c.protect ∷ (bits_of 6 c.code ++ (bits_of 8 c.fid ++ bits_of_octets c.body))

-- each field fits its bits
pub record FitsCsbk (c : Csbk) : Type 0 where
  pub code : c.code < 64
  pub fid : c.fid < 256
  pub octets : All (λ octet. octet < 256) c.body
  pub count : length c.body ≡ 8

-- the twelve octets of a message are sealed under the mask of these blocks
abbrev pub IsSealedCsbk : List Bool → Type 0
IsSealedCsbk message = IsSealed mask.Csbk (octets_of 12 message)

-- The 96 bits of a block: its fields, and then the check that seals them.
pub record IsCsbk (c : Csbk) (message : List Bool) : Type 0 where
  pub fit : FitsCsbk c
  pub long : length message ≡ 96
  pub fields : take 80 message ≡ csbk_bits c
  pub sealed : IsSealedCsbk message

-- what bits are read as: the block that the product code's bits say
abbrev pub IsReadCsbk : List Bool → Csbk → Type 0
IsReadCsbk bits c = (message : List Bool) × IsDecoded bits (Some message) × IsCsbk c message

-- what the bits show where no block is read: no product word, or a message that isn't sealed
abbrev pub ShowsCsbkFault : CsbkFault → List Bool → Type 0
ShowsCsbkFault Bptc bits = IsDecoded bits None
ShowsCsbkFault Crc bits = (message : List Bool) × IsDecoded bits (Some message) × (IsSealedCsbk message → ⊥)
