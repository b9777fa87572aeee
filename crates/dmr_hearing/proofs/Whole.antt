-- What a slot is heard as is whole: its lists are as long as the fields of a burst, and its numbers fit.
use Rattle.std.proofs.Common.{◌≡◌, ℕ, ◌^◌, ◌<◌, Bool, false, List, length, Option, Some, None, IfSome, Result, Ok, Err, sym}
use Rattle.std.proofs.Common.{ap, ◌∙◌, subst, arith, lit<, lit≤}
use Rattle.std.proofs.lemmas.List.{length-replicate}
use Rattle.dmr_bits.specs.Bits.{bits_of_octets, number_of, octets_of}
use Rattle.dmr_bits.proofs.Lists.{number_of-lt}
use Rattle.dmr_bits.proofs.OctetFronts.{length-bits_of_octets, length-octets_of, octets_of-small}
use Rattle.dmr_bits.proofs.Octets.{bits_of_octets-octets_of}
use Rattle.dmr_bits.proofs.Parts.{length-part}
use Rattle.dmr_burst.specs.Layout.{information_field, embedded_field}
use Rattle.dmr_embedded.specs.declared.fault.EmbedFault.{EmbedFault}
use Rattle.dmr_embedded.proofs.EveryLinkControl.{embedded_somehow}
use Rattle.dmr_hearing.specs.DataTypes.{payload_of}
use Rattle.dmr_hearing.specs.Fields.{IsCarrier, IsSpelled, IsReadFrom}
use Rattle.dmr_hearing.specs.Fit.{IsFitDataBurst}
use Rattle.dmr_hearing.specs.Hearing.{Reads, IsHeardData, Hears}
use Rattle.dmr_hearing.specs.declared.data_types.Payload.{Payload}
use Rattle.dmr_hearing.specs.declared.data_types.Payload.TheVariants.{Word, Sealed, LinkControl, Raw, Nothing}
use Rattle.dmr_hearing.specs.declared.heard.DataBurst.{DataBurst}
use Rattle.dmr_hearing.specs.declared.heard.Heard.{Heard}
use Rattle.dmr_hearing.proofs.HeardFit.{heard_fit}
use Rattle.dmr_hearing.proofs.OneField.{length-parts}
use Rattle.dmr_link.specs.FullLc.{full_lc_bits, FitsFullLc}
use Rattle.dmr_link.specs.declared.full_lc.FullLc.{FullLc}
use Rattle.dmr_link.proofs.Existing.{length-full_lc_bits}

-- A link control fits all its fields, where there is one.
abbrev pub IsWholeLc : Option FullLc → Type 0
IsWholeLc None = Unit {0}
IsWholeLc (Some lc) = FitsFullLc lc

-- A data burst has a data type of four bits, all its information, and a link control that fits.
abbrev pub IsWholeData : Option DataBurst → Type 0
IsWholeData None = Unit {0}
IsWholeData (Some data_burst) =
    (data_burst.kind < 16) × (length data_burst.information ≡ 196) × IsWholeLc data_burst.link_control

-- All that was heard is whole: the data burst, the vocoder's bits and the embedded field.
pub record IsWholeHeard (heard : Heard) : Type 0 where
  pub data_burst : IsWholeData heard.data_burst
  pub vocoder : length heard.vocoder ≡ 216
  pub embedded : heard.embedded < 2 ^ 32

-- ---- what is heard
read_whole : (payload : Payload) (received information : List Bool) (lc : Option FullLc) → length received ≡ 196
    → Reads payload received information lc → (length information ≡ 196) × IsWholeLc lc
read_whole Word received information lc long (message, decoded, encoded, plain) = (encoded.long, subst IsWholeLc (sym plain) tt)
read_whole (Sealed mask) received information lc long (message, decoded, sealed, encoded, plain) =
    (encoded.long, subst IsWholeLc (sym plain) tt)
read_whole (LinkControl lc_use) received information lc long (read, message, is, sealed, encoded, some) =
    (encoded.long, subst IsWholeLc (sym some) is.is.fit)
read_whole Raw received information lc long (same, plain) = (ap length same ∙ long, subst IsWholeLc (sym plain) tt)
read_whole Nothing received information lc long reads = absurd reads

data_whole : (colour : ℕ) (bits : List Bool) (found : Option DataBurst) → length bits ≡ 264
    → IfSome found (λ data_burst. IsHeardData colour data_burst bits) → IsFitDataBurst found → IsWholeData found
data_whole colour bits None long within fit = tt
data_whole colour bits (Some data_burst) long within fit =
    let received : length (information_field bits) ≡ 196 =
    omega (arith, length-parts bits 0 98 166 264 (lit≤ tt) (omega arith) (lit≤ tt) (omega arith)) in
    let whole = read_whole (payload_of data_burst.kind) (information_field bits) data_burst.information data_burst.link_control
    received within.reads in
    (fit.0, whole.0, whole.1)

-- a slot is heard with 216 vocoder bits, an embedded field of 32 bits, and a whole data burst or none
pub heard_whole : (colour : ℕ) (slot : Option (List ℕ)) (heard : Heard) → Hears colour slot heard → IsWholeHeard heard
heard_whole colour None heard silent =
    subst IsWholeHeard (sym silent)
    (record { data_burst = tt; vocoder = length-replicate {A = Bool} 216 false; embedded = lit< tt })
heard_whole colour (Some octets) heard is =
    let bits : List Bool = bits_of_octets octets in
    let long : length bits ≡ 264 = length-bits_of_octets octets ∙ omega (arith, is.0) in
    let field : length (embedded_field bits) ≡ 32 = length-part bits 116 148 (lit≤ tt) (omega arith) in
    let small : number_of (embedded_field bits) < 2 ^ 32 =
    subst (λ (n : ℕ). number_of (embedded_field bits) < 2 ^ n) field (number_of-lt (embedded_field bits)) in
    record {
      data_burst = data_whole colour bits heard.data_burst long is.1.data_burst_within (heard_fit colour (Some octets) heard is);
      vocoder = ap length is.1.vocoder
          ∙ omega (arith, length-parts bits 0 108 156 264 (lit≤ tt) (omega arith) (lit≤ tt) (omega arith));
      embedded = subst (λ (n : ℕ). n < 2 ^ 32) (sym is.1.embedded) small;
    }

-- ---- what fields carry
spelled_whole : (extracted : Result (List ℕ) EmbedFault) (lc : Option FullLc) → IsSpelled extracted lc → IsWholeLc lc
spelled_whole (Ok octets) (Some lc) p = p.1
spelled_whole (Ok octets) None p = tt
spelled_whole (Err fault) (Some lc) p = absurd p
spelled_whole (Err fault) None p = tt

-- the fields of a link control that is read from four embedded fields fit their bits
pub read_from_whole : (fields : List ℕ) (lc : Option FullLc) → IsReadFrom fields lc → IsWholeLc lc
read_from_whole fields lc read = spelled_whole read.0 lc read.2

-- Any link control whose fields fit has a carrier.
pub carrier_somehow : (lc : FullLc) → FitsFullLc lc → (fields : List ℕ) × IsCarrier lc fields
carrier_somehow lc fit =
    let bits : List Bool = full_lc_bits lc in
    let octets : List ℕ = octets_of 9 bits in
    let (fields, four, narrow, embedded) = embedded_somehow octets (length-octets_of 9 bits) (octets_of-small 9 bits) in (
      fields,
      record {
        octets = octets;
        spelled = bits_of_octets-octets_of 9 bits (length-full_lc_bits lc fit);
        embedded = embedded;
        four = four;
        narrow = narrow;
      },
    )
