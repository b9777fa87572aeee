-- What a slot is heard as fits its fields.
use Rattle.std.proofs.Common.{ℕ, ◌<◌, ◌≤◌, ◌^◌, List, Bool, Option, Some, None, IfSome, length, take, drop, sym, ap, subst, arith}
use Rattle.std.proofs.Math.Pow.{pow_mono}
use Rattle.std.proofs.lemmas.List.{length-take}
use Rattle.dmr_bits.specs.Bits.{number_of}
use Rattle.dmr_bits.proofs.Lists.{number_of-lt}
use Rattle.dmr_burst.specs.SlotType.{HasSlotType}
use Rattle.dmr_burst.specs.declared.slot_type.SlotType.{SlotType}
use Rattle.dmr_hearing.specs.DataTypes.{payload_of}
use Rattle.dmr_hearing.specs.Fit.{IsFitLc, IsFitDataBurst, IsFitHeard}
use Rattle.dmr_hearing.specs.Hearing.{Reads, IsHeardData, Hears}
use Rattle.dmr_hearing.specs.declared.data_types.Payload.{Payload}
use Rattle.dmr_hearing.specs.declared.data_types.Payload.TheVariants.{Word, Sealed, LinkControl, Raw, Nothing}
use Rattle.dmr_hearing.specs.declared.heard.DataBurst.{DataBurst}
use Rattle.dmr_hearing.specs.declared.heard.Heard.{Heard}
use Rattle.dmr_link.specs.declared.full_lc.FullLc.{FullLc}

-- four bits spell a number below 16
four_bits : (bits : List Bool) → number_of (take 4 bits) < 16
four_bits bits =
    let few : length (take 4 bits) ≤ 4 = omega (arith, length-take 4 bits) in
    let small : number_of (take 4 bits) < 2 ^ 4 =
    (let below = number_of-lt (take 4 bits) in let wide = pow_mono few in omega arith) in
    small

kind_fit : (colour kind : ℕ) (bits : List Bool) → HasSlotType (record { colour = colour; kind = kind }) bits → kind < 16
kind_fit colour kind bits (word, golay, near, says) =
    let P : ℕ → Type 0 = λ n. n < 16 in
    subst P (ap (λ (s : SlotType). s.kind) says) (four_bits (drop 4 word))

-- a link control that is read is fit
lc_fit : (payload : Payload) (received information : List Bool) (lc : Option FullLc) → Reads payload received information lc
    → IsFitLc lc
lc_fit Word received information lc (message, decoded, encoded, plain) = subst IsFitLc (sym plain) tt
lc_fit (Sealed mask) received information lc (message, decoded, sealed, encoded, plain) = subst IsFitLc (sym plain) tt
lc_fit (LinkControl lc_use) received information lc (read, message, is, sealed, encoded, some) =
    subst IsFitLc (sym some) is.is.fit.flco
lc_fit Raw received information lc (same, plain) = subst IsFitLc (sym plain) tt
lc_fit Nothing received information lc reads = absurd reads

data_burst_fit : (colour : ℕ) (bits : List Bool) (data_burst : Option DataBurst)
    → IfSome data_burst (λ found. IsHeardData colour found bits)
    → IsFitDataBurst data_burst
data_burst_fit colour bits None within = tt
data_burst_fit colour bits (Some data_burst) within = (
  kind_fit colour data_burst.kind bits within.slot_type,
  lc_fit (payload_of data_burst.kind) _ data_burst.information data_burst.link_control within.reads,
)

-- a data burst that is heard fits: its data type has four bits, and the opcode of its link control six
pub heard_fit : (colour : ℕ) (slot : Option (List ℕ)) (heard : Heard) → Hears colour slot heard → IsFitHeard heard
heard_fit colour None heard silent = subst IsFitHeard (sym silent) tt
heard_fit colour (Some octets) heard is = data_burst_fit colour _ heard.data_burst is.1.data_burst_within
