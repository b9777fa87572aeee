-- A full link control in its 96 bits, sealed for a use. ETSI TS 102 361-1, annexes B.3.6 and B.3.12.
use Rattle.std.specs.Prelude.{◌≡◌, ◌≤◌, ℕ, List, Bool, ◌++◌, length, take, drop, map, bit_xor, Some, None}
use Rattle.dmr_bits.specs.Bits.{octets_of}
use Rattle.dmr_bptc.specs.Decoding.{IsDecoded}
use Rattle.dmr_rs.specs.Word.{IsRsWord, octet_distance}
use Rattle.dmr_link.specs.FullLc.{full_lc_bits, FitsFullLc}
use Rattle.dmr_link.specs.declared.full_lc.FullLc.{FullLc}
use Rattle.dmr_link.specs.declared.sealing.LcUse.{LcUse}
use Rattle.dmr_link.specs.declared.sealing.LcUse.TheVariants.{Header, Terminator}
use Rattle.dmr_link.specs.declared.fault.LcFault.{LcFault}
use Rattle.dmr_link.specs.declared.fault.LcFault.TheVariants.{Bptc, Parity}

-- what is added to each octet of the parity
abbrev pub parity_mask : LcUse → ℕ
parity_mask Header = 0x96
parity_mask Terminator = 0x99

-- twelve octets, the mask added to the last three; a second time takes it off
abbrev pub masked : LcUse → List ℕ → List ℕ
masked lc_use octets = take 9 octets ++ map (λ octet. bit_xor octet (parity_mask lc_use)) (drop 9 octets)

-- Sealed: 96 bits whose octets, the mask taken off, are a word of the Reed-Solomon code.
pub record IsSealedLc (lc_use : LcUse) (message : List Bool) : Type 0 where
  pub long : length message ≡ 96
  pub word : IsRsWord (masked lc_use (octets_of 12 message))

-- The sealed form of a link control: its fields, and then the parity that seals them.
pub record IsLc (lc_use : LcUse) (lc : FullLc) (message : List Bool) : Type 0 where
  pub fit : FitsFullLc lc
  pub fields : take 72 message ≡ full_lc_bits lc
  pub sealed : IsSealedLc lc_use message

-- the twelve octets of two messages differ in at most one
abbrev pub IsWithinOctet : List Bool → List Bool → Type 0
IsWithinOctet a b = octet_distance (octets_of 12 a) (octets_of 12 b) ≤ 1

-- What bits are read as: the link control whose sealed form is within one octet of what the product code's bits say.
pub record IsReadLc (lc_use : LcUse) (bits : List Bool) (lc : FullLc) : Type 0 where
  pub message : List Bool
  pub sealed : List Bool
  pub decoded : IsDecoded bits (Some message)
  pub near : IsWithinOctet sealed message
  pub is : IsLc lc_use lc sealed

-- What the bits show where no link control is read: no product word, or a message that nothing sealed is near.
abbrev pub ShowsLcFault : LcUse → LcFault → List Bool → Type 0
ShowsLcFault lc_use Bptc bits = IsDecoded bits None
ShowsLcFault lc_use Parity bits =
    (message : List Bool) × IsDecoded bits (Some message)
    × ((sealed : List Bool) → IsSealedLc lc_use sealed → IsWithinOctet sealed message → ⊥)
