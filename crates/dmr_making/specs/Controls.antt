-- Data bursts that stand by themselves in a script.
use Rattle.std.specs.Prelude.{◌≡◌, ℕ, Bool, List, Option, Some, None}
use Rattle.dmr_bits.specs.Bits.{bits_of_octets}
use Rattle.dmr_bptc.specs.ProductWord.{IsWritten}
use Rattle.dmr_burst.specs.DataTypes as data_type
use Rattle.dmr_hearing.specs.Slots.{SentSlot, Data}
use Rattle.dmr_link.specs.declared.full_lc.FullLc.{FullLc}
use Rattle.dmr_link.specs.declared.sealing.LcUse.TheVariants as lc_use
use Rattle.dmr_making.specs.Information.{IsLcInformation}
use Rattle.dmr_script.specs.declared.control.LoneBurst.{LoneBurst}
use Rattle.dmr_script.specs.declared.control.LoneBurst.TheVariants as lone
use Rattle.dmr_voice.specs.CallMeaning.{Control}

-- the data type of a burst that stands by itself
abbrev pub kind_of_lone : LoneBurst → ℕ
kind_of_lone (lone.Terminator lc) = data_type.terminator_with_lc
kind_of_lone (lone.PiHeader octets) = data_type.pi_header
kind_of_lone (lone.MbcHeader octets) = data_type.mbc_header
kind_of_lone (lone.MbcBlock octets) = data_type.mbc_continuation
kind_of_lone (lone.UnifiedBlock octets) = data_type.unified_single_block_data
kind_of_lone (lone.RateHalf octets) = data_type.rate_half_data
kind_of_lone (lone.RateThreeQuarters bits) = data_type.rate_three_quarters_data
kind_of_lone (lone.RateOne bits) = data_type.rate_one_data

-- its information: a link control that is sealed, twelve octets under the product code, or bits as they are
abbrev pub IsLoneInformation : LoneBurst → List Bool → Type 0
IsLoneInformation (lone.Terminator lc) information = IsLcInformation lc_use.Terminator lc information
IsLoneInformation (lone.PiHeader octets) information = IsWritten (bits_of_octets octets) information
IsLoneInformation (lone.MbcHeader octets) information = IsWritten (bits_of_octets octets) information
IsLoneInformation (lone.MbcBlock octets) information = IsWritten (bits_of_octets octets) information
IsLoneInformation (lone.UnifiedBlock octets) information = IsWritten (bits_of_octets octets) information
IsLoneInformation (lone.RateHalf octets) information = IsWritten (bits_of_octets octets) information
IsLoneInformation (lone.RateThreeQuarters bits) information = information ≡ bits
IsLoneInformation (lone.RateOne bits) information = information ≡ bits

-- its link control, where it is a terminator
abbrev pub lc_of_lone : LoneBurst → Option FullLc
lc_of_lone (lone.Terminator lc) = Some lc
lc_of_lone burst = None

-- the data burst that it is
abbrev pub lone_control : LoneBurst → List Bool → Control
lone_control burst information =
    record { kind = kind_of_lone burst; information = information; link_control = lc_of_lone burst }

-- the data burst that a control signalling block is
abbrev pub csbk_control : List Bool → Control
csbk_control information = record { kind = data_type.csbk; information = information; link_control = None }

-- what a data burst by itself sends
abbrev pub control_slot : Control → SentSlot
control_slot control = Data control.kind control.information control.link_control
