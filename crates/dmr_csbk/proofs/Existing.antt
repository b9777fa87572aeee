-- Any control signalling block whose fields fit has its 96 bits.
use Rattle.std.proofs.Common.{◌≡◌, List, Bool, ◌++◌, length, arith, length-append}
use Rattle.dmr_bits.specs.Bits.{bits_of, bits_of_octets}
use Rattle.dmr_bits.proofs.Lists.{length-bits_of}
use Rattle.dmr_bits.proofs.OctetFronts.{length-bits_of_octets}
use Rattle.dmr_checks.specs.declared.sealing.Mask.TheVariants as mask
use Rattle.dmr_checks.proofs.Existing.{message_somehow}
use Rattle.dmr_csbk.specs.Block.{csbk_bits, FitsCsbk, IsCsbk}
use Rattle.dmr_csbk.specs.declared.block.Csbk.{Csbk}

length-csbk_bits : (c : Csbk) → FitsCsbk c → length (csbk_bits c) ≡ 80
length-csbk_bits c fit =
    let tail : List Bool = bits_of 8 c.fid ++ bits_of_octets c.body in
    omega (
      arith,
      length-append (bits_of 6 c.code) tail,
      length-append (bits_of 8 c.fid) (bits_of_octets c.body),
      length-bits_of 6 c.code,
      length-bits_of 8 c.fid,
      length-bits_of_octets c.body,
      fit.count,
    )

-- any block whose fields fit has 96 bits, with the check that seals them
pub csbk_somehow : (c : Csbk) → FitsCsbk c → (message : List Bool) × IsCsbk c message
csbk_somehow c fit =
    let (message, is) = message_somehow mask.Csbk (csbk_bits c) (length-csbk_bits c fit) in
    (message, record { fit = fit; long = is.long; fields = is.begins; sealed = is.sealed })
