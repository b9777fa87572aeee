-- The pieces of a capture, one after the other.
use Rattle.std.specs.Prelude.{◌≡◌, ◌≢◌, ℕ, ◌<◌, ◌≤◌, ◌⊎◌, Bool, true, false, List, [], ◌∷◌, ◌++◌, Option, length}
use Rattle.std.specs.Prelude.{take}
use Rattle.std.specs.Io.KnownBytes.{Consumes}
use Rattle.std.specs.List.{flat_map}
use Rattle.dmr_capture.specs.Blocks.{IsCaptureBlock, ShowsFaultInBlock, section_type}
use Rattle.dmr_capture.specs.Links.{link_number}
use Rattle.dmr_capture.specs.Orders.{ordered_number}
use Rattle.dmr_capture.specs.Records.{HasPcapMagic, IsLongRecord, IsPartOfRecord, IsPcapHead, IsRecord, IsVersion24}
use Rattle.dmr_capture.specs.Records.{behind_pcap_head}
use Rattle.dmr_capture.specs.State.{CaptureState, CapturedPacket, fresh_pcapng, octet_limit}
use Rattle.dmr_capture.specs.declared.capture.Format.{Format}
use Rattle.dmr_capture.specs.declared.capture.Format.TheVariants.{Pcap, Pcapng}
use Rattle.dmr_capture.specs.declared.fault.CaptureFault.{CaptureFault}
use Rattle.dmr_capture.specs.declared.fault.CaptureFault.TheVariants.{NoCapture, CutHead, CutPacket, CutBlock}
use Rattle.dmr_capture.specs.declared.fault.CaptureFault.TheVariants.{LinkType, TooLong, Read}
use Rattle.dmr_capture.specs.declared.link.Link.{Link}
use Rattle.dmr_capture.specs.declared.order.Order.{Order}
use Rattle.dmr_capture.specs.declared.pcap.Fraction.{Fraction}

-- These octets are a piece of a capture: a record or a block. They lead from one state to the other, and hold these packets.
abbrev pub IsPieceOf : Format → CaptureState → List ℕ → CaptureState → List CapturedPacket → Type 0
IsPieceOf (Pcap link fraction) old octets new found = IsRecord link fraction old octets new found
IsPieceOf Pcapng old octets new found = IsCaptureBlock old octets new found

-- a piece that begins where a piece may begin
pub record IsPiece (old : CaptureState) (octets : List ℕ) (new : CaptureState) (found : List CapturedPacket) : Type 0 where
  pub near : old.octet ≤ octet_limit
  pub piece : IsPieceOf old.format old octets new found

-- A piece that was read: its octets, the state behind it, and its packets.
pub record CapturePiece : Type 0 where
  pub octets : List ℕ
  pub state : CaptureState
  pub found : List CapturedPacket

-- Each of these is a piece behind those before it.
abbrev pub ArePieces : CaptureState → List CapturePiece → Type 0
ArePieces old [] = Unit {0}
ArePieces old (piece ∷ pieces) = IsPiece old piece.octets piece.state piece.found × ArePieces piece.state pieces

-- the state behind these pieces
abbrev pub state_behind : CaptureState → List CapturePiece → CaptureState
state_behind old [] = old
state_behind old (piece ∷ pieces) = state_behind piece.state pieces

-- These octets are pieces in a row, from one state to the other. They hold these packets.
pub record AreRead (old : CaptureState) (octets : List ℕ) (new : CaptureState) (packets : List CapturedPacket) : Type 0 where
  pub pieces : List CapturePiece
  pub each : ArePieces old pieces
  pub spelled : octets ≡ flat_map (λ piece. piece.octets) pieces
  pub held : packets ≡ flat_map (λ piece. piece.found) pieces
  pub behind : new ≡ state_behind old pieces

-- the faults that show only where no octet follows
abbrev pub is_of_capture_end : CaptureFault → Bool
is_of_capture_end CutHead = true
is_of_capture_end (CutPacket octet) = true
is_of_capture_end (CutBlock octet) = true
is_of_capture_end fault = false

-- the one fault that is the device's and not the capture's
abbrev pub is_capture_read : CaptureFault → Bool
is_capture_read (Read octet) = true
is_capture_read fault = false

-- These octets, taken as the front of a record, show this fault.
abbrev pub ShowsRecordFault : CaptureState → CaptureFault → List ℕ → Type 0
ShowsRecordFault state (CutPacket octet) part = (octet ≡ state.octet) × (part ≢ []) × IsPartOfRecord state part
ShowsRecordFault state (Read octet) part = (octet ≡ state.octet) × IsPartOfRecord state part
ShowsRecordFault state (TooLong octet) part = (octet ≡ state.octet) × IsLongRecord state part
ShowsRecordFault state fault part = ⊥

abbrev pub ShowsFaultOf : Format → CaptureState → CaptureFault → List ℕ → Type 0
ShowsFaultOf (Pcap link fraction) state fault part = ShowsRecordFault state fault part
ShowsFaultOf Pcapng state fault part = ShowsFaultInBlock state fault part

-- So many octets stand in front that no piece may begin here, and nothing more was taken.
pub record IsPastLimit (state : CaptureState) (fault : CaptureFault) (part : List ℕ) : Type 0 where
  pub far : octet_limit < state.octet
  pub long : fault ≡ TooLong state.octet
  pub none : part ≡ []

-- These octets, taken as the front of a piece, show this fault.
abbrev pub ShowsFault : CaptureState → CaptureFault → List ℕ → Type 0
ShowsFault state fault part = ((state.octet ≤ octet_limit) × ShowsFaultOf state.format state fault part)
    ⊎ IsPastLimit state fault part

-- These octets begin a pcap, and lead to this state.
pub record BeginsPcap (octets : List ℕ) (new : CaptureState) : Type 0 where
  pub order : Order
  pub fraction : Fraction
  pub link : Link
  pub head : IsPcapHead octets order fraction link
  pub behind : new ≡ behind_pcap_head order fraction link

-- These octets begin a capture, and lead to this state: the head of a pcap, or the first section of a pcapng.
abbrev pub BeginsCapture : List ℕ → CaptureState → Type 0
BeginsCapture octets new = BeginsPcap octets new
    ⊎ ((take 4 octets ≡ section_type) × IsCaptureBlock fresh_pcapng octets new [])

-- Four octets begin no capture.
pub record BeginsNone (octets : List ℕ) : Type 0 where
  pub four : length octets ≡ 4
  pub pcap : (order : Order) (fraction : Fraction) → ¬ HasPcapMagic octets order fraction
  pub pcapng : octets ≢ section_type

-- The head of a pcap is of another version.
pub record HasOtherVersion (octets : List ℕ) : Type 0 where
  pub whole : length octets ≡ 24
  pub order : Order
  pub fraction : Fraction
  pub magic : HasPcapMagic octets order fraction
  pub other : ¬ IsVersion24 octets order

-- The head of a pcap has this link type, which isn't read.
pub record HasOtherLinkType (octets : List ℕ) (number : ℕ) : Type 0 where
  pub whole : length octets ≡ 24
  pub order : Order
  pub fraction : Fraction
  pub magic : HasPcapMagic octets order fraction
  pub version : IsVersion24 octets order
  pub says : number ≡ ordered_number order 4 20 octets
  pub other : (link : Link) → number ≢ link_number link

-- The four octets of the magic of a pcap, and less than its head.
pub record IsPartBehindMagic (part : List ℕ) : Type 0 where
  pub magic : List ℕ
  pub more : List ℕ
  pub order : Order
  pub fraction : Fraction
  pub parts : part ≡ magic ++ more
  pub four : length magic ≡ 4
  pub says : HasPcapMagic magic order fraction
  pub less : length part < 24

-- less than the head of a pcap
abbrev pub IsPartOfHead : List ℕ → Type 0
IsPartOfHead part = (length part < 4) ⊎ IsPartBehindMagic part

-- Octets of the first section of a pcapng show this fault.
pub record ShowsSectionFault (fault : CaptureFault) (part : List ℕ) : Type 0 where
  pub section : take 4 part ≡ section_type
  pub shown : ShowsFaultInBlock fresh_pcapng fault part

-- These octets, taken as the begin of a capture, show this fault.
abbrev pub ShowsBeginFault : CaptureFault → List ℕ → Type 0
ShowsBeginFault NoCapture part = BeginsNone part ⊎ HasOtherVersion part
ShowsBeginFault CutHead part = IsPartOfHead part
ShowsBeginFault (LinkType number) part = HasOtherLinkType part number ⊎ ShowsSectionFault (LinkType number) part
ShowsBeginFault (Read octet) part = ((octet ≡ 0) × IsPartOfHead part) ⊎ ShowsSectionFault (Read octet) part
ShowsBeginFault fault part = ShowsSectionFault fault part

-- These octets are a whole capture, and hold these packets.
pub record IsCapture (octets : List ℕ) (packets : List CapturedPacket) : Type 0 where
  pub head : List ℕ
  pub rest : List ℕ
  pub first : CaptureState
  pub last : CaptureState
  pub parts : octets ≡ head ++ rest
  pub begins : BeginsCapture head first
  pub read : AreRead first rest last packets

-- A capture was read up to this state, and held these packets so far.
pub record IsReadTo (state : CaptureState) (packets : List CapturedPacket) (left left' : Option (List ℕ)) : Type 0 where
  pub head : List ℕ
  pub rest : List ℕ
  pub first : CaptureState
  pub begins : BeginsCapture head first
  pub pieces : AreRead first rest state packets
  pub read : Consumes left left' (head ++ rest)
