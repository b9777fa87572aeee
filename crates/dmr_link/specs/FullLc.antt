-- A full link control and its 72 bits. ETSI TS 102 361-1, clause 7.1.
use Rattle.std.specs.Prelude.{◌≡◌, ◌<◌, List, Bool, ◌∷◌, ◌++◌, length, All}
use Rattle.dmr_bits.specs.Bits.{bits_of, bits_of_octets}
use Rattle.dmr_link.specs.declared.full_lc.FullLc.{FullLc}

-- PF, R, FLCO in six bits, FID in eight, and the body
abbrev pub full_lc_bits : FullLc → List Bool
full_lc_bits lc = lc.protect ∷ lc.reserved ∷ (bits_of 6 lc.flco ++ (bits_of 8 lc.fid ++ bits_of_octets lc.body))

-- each field fits its bits
pub record FitsFullLc (lc : FullLc) : Type 0 where
  pub flco : lc.flco < 64
  pub fid : lc.fid < 256
  pub octets : All (λ octet. octet < 256) lc.body
  pub count : length lc.body ≡ 7
