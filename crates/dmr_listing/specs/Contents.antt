-- What the information of a data burst holds.
use Rattle.std.specs.Prelude.{◌≡◌, ◌≢◌, ℕ, Bool, true, false, List, Some, None}
use Rattle.dmr_bits.specs.Bits.{bits_of_octets}
use Rattle.dmr_bptc.specs.Decoding.{IsDecoded}
use Rattle.dmr_burst.specs.DataTypes as data_type
use Rattle.dmr_csbk.specs.Block as block
use Rattle.dmr_csbk.specs.declared.fault.CsbkFault.TheVariants as block_fault
use Rattle.dmr_data.specs.HeaderForms as header
use Rattle.dmr_data.specs.declared.fault.HeaderFault.TheVariants as header_fault
use Rattle.dmr_link.specs.Sealed as link
use Rattle.dmr_link.specs.declared.fault.LcFault.TheVariants as link_fault
use Rattle.dmr_link.specs.declared.sealing.LcUse.{LcUse}
use Rattle.dmr_link.specs.declared.sealing.LcUse.TheVariants.{Header, Terminator}
use Rattle.dmr_listing.specs.declared.contents.Contents.{Contents}
use Rattle.dmr_listing.specs.declared.contents.Contents.TheVariants.{LinkControl, ControlBlock, DataHeader, OtherFormat}
use Rattle.dmr_listing.specs.declared.contents.Contents.TheVariants.{Unsealed, Octets, Idle, AsReceived, Unreadable}
use Rattle.dmr_reading.specs.Reading.{is_coded}

-- the product code gives these twelve octets
abbrev pub AreOctetsOf : List Bool → List ℕ → Type 0
AreOctetsOf bits octets = IsDecoded bits (Some (bits_of_octets octets))

-- a link control that is sealed for its use, or octets that aren't
abbrev pub HoldsLinkControl : LcUse → List Bool → Contents → Type 0
HoldsLinkControl lc_use bits (LinkControl lc) = link.IsReadLc lc_use bits lc
HoldsLinkControl lc_use bits (Unsealed octets) = AreOctetsOf bits octets × link.ShowsLcFault lc_use link_fault.Parity bits
HoldsLinkControl lc_use bits Unreadable = IsDecoded bits None
HoldsLinkControl lc_use bits contents = ⊥

-- a control signalling block that is sealed, or octets that aren't
abbrev pub HoldsControlBlock : List Bool → Contents → Type 0
HoldsControlBlock bits (ControlBlock csbk) =
    (message : List Bool) × IsDecoded bits (Some message) × block.IsCsbk csbk message
HoldsControlBlock bits (Unsealed octets) = AreOctetsOf bits octets × block.ShowsCsbkFault block_fault.Crc bits
HoldsControlBlock bits Unreadable = IsDecoded bits None
HoldsControlBlock bits contents = ⊥

-- a data header that is sealed, one of another format, or octets that aren't sealed
abbrev pub HoldsDataHeader : List Bool → Contents → Type 0
HoldsDataHeader bits (DataHeader h) = header.IsReadHeader bits h
HoldsDataHeader bits (OtherFormat octets) = AreOctetsOf bits octets × header.ShowsHeaderFault header_fault.Format bits
HoldsDataHeader bits (Unsealed octets) = AreOctetsOf bits octets × header.ShowsHeaderFault header_fault.Crc bits
HoldsDataHeader bits Unreadable = IsDecoded bits None
HoldsDataHeader bits contents = ⊥

-- anything, which isn't told
abbrev pub HoldsUntold : List Bool → Contents → Type 0
HoldsUntold bits Idle = (message : List Bool) × IsDecoded bits (Some message)
HoldsUntold bits Unreadable = IsDecoded bits None
HoldsUntold bits contents = ⊥

-- twelve octets as they are
abbrev pub HoldsOctets : List Bool → Contents → Type 0
HoldsOctets bits (Octets octets) = AreOctetsOf bits octets
HoldsOctets bits Unreadable = IsDecoded bits None
HoldsOctets bits contents = ⊥

-- a type in the product code whose octets have no meaning here
pub record IsOther (kind : ℕ) : Type 0 where
  pub coded : is_coded kind ≡ true
  pub voice_header : kind ≢ data_type.voice_lc_header
  pub terminator : kind ≢ data_type.terminator_with_lc
  pub control_block : kind ≢ data_type.csbk
  pub data_header : kind ≢ data_type.data_header
  pub idle : kind ≢ data_type.idle

-- What the information of a data burst of a type holds.
pub record HoldsContents (kind : ℕ) (bits : List Bool) (contents : Contents) : Type 0 where
  pub voice_header : kind ≡ data_type.voice_lc_header → HoldsLinkControl Header bits contents
  pub terminator : kind ≡ data_type.terminator_with_lc → HoldsLinkControl Terminator bits contents
  pub control_block : kind ≡ data_type.csbk → HoldsControlBlock bits contents
  pub data_header : kind ≡ data_type.data_header → HoldsDataHeader bits contents
  pub idle : kind ≡ data_type.idle → HoldsUntold bits contents
  pub other : IsOther kind → HoldsOctets bits contents
  pub as_received : is_coded kind ≡ false → contents ≡ AsReceived
