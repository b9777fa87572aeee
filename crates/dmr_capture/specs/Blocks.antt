-- The blocks of a pcapng.
use Rattle.std.specs.Prelude.{◌≡◌, ◌≢◌, ℕ, ◌+◌, ◌*◌, ◌%◌, ◌^◌, ◌<◌, ◌≤◌, ◌⊎◌, List, [], ◌∷◌, ◌++◌, length, take}
use Rattle.dmr_capture.specs.Links.{link_number}
use Rattle.dmr_capture.specs.Options.{Says}
use Rattle.dmr_capture.specs.Orders.{ordered_number}
use Rattle.dmr_capture.specs.State.{CaptureState, CapturedPacket, interface_limit, packet_limit}
use Rattle.dmr_capture.specs.Times.{counted_time}
use Rattle.dmr_capture.specs.declared.block.Block.{Block}
use Rattle.dmr_capture.specs.declared.block.BlockHead.{BlockHead}
use Rattle.dmr_capture.specs.declared.block.Block.TheVariants.{NewSection, NewInterface, Captured, Passed}
use Rattle.dmr_capture.specs.declared.capture.Format.TheVariants.{Pcapng}
use Rattle.dmr_capture.specs.declared.fault.CaptureFault.{CaptureFault}
use Rattle.dmr_capture.specs.declared.fault.CaptureFault.TheVariants.{CutBlock, BadBlock, ManyInterfaces, LinkType, TooLong, Read}
use Rattle.dmr_capture.specs.declared.interface.Interface.{Interface}
use Rattle.dmr_capture.specs.declared.link.Link.{Link}
use Rattle.dmr_capture.specs.declared.order.Order.{Order}

-- what a section begins with, in either order of octets
abbrev pub section_type : List ℕ
section_type = 0x0A ∷ 0x0D ∷ 0x0D ∷ 0x0A ∷ []

-- the number by which a section tells its order of octets
abbrev pub section_magic : ℕ
section_magic = 0x1A2B3C4D

-- A block may have this length: it has room for what stands in each block of its type, and is a multiple of four.
pub record IsLength (least len : ℕ) : Type 0 where
  pub room : least ≤ len
  pub fours : len % 4 ≡ 0

-- The first octets of a block that begins a section: its type, its length and its magic, by which its order is known.
pub record IsSectionHead (head : List ℕ) (order : Order) (len : ℕ) : Type 0 where
  pub whole : length head ≡ 12
  pub begins : take 4 head ≡ section_type
  pub magic : ordered_number order 4 8 head ≡ section_magic
  pub long : len ≡ ordered_number order 4 4 head
  pub fit : IsLength 28 len

-- The same of another block, with its type.
pub record HasType (order : Order) (head : List ℕ) (type len : ℕ) : Type 0 where
  pub other : take 4 head ≢ section_type
  pub says : type ≡ ordered_number order 4 0 head
  pub long : len ≡ ordered_number order 4 4 head

-- The first octets of a block of an interface with a length that it can have.
pub record BeginsInterface (state : CaptureState) (head : List ℕ) (len : ℕ) : Type 0 where
  pub whole : length head ≡ 16
  pub typed : HasType state.order head 1 len
  pub fit : IsLength 20 len

-- A block of type 1 is of an interface: the link type in two octets, two that count for nothing, the length to which packets are
-- kept, which counts for nothing either, and options.
pub record IsInterfaceHead (state : CaptureState) (head : List ℕ) (len link : ℕ) : Type 0 where
  pub begins : BeginsInterface state head len
  pub few : length state.interfaces < interface_limit
  pub short : len ≤ 20 + packet_limit
  pub linked : link ≡ ordered_number state.order 2 8 head

-- the time that a block of a packet says, by the resolution of its interface
abbrev pub block_time : ℕ → Order → List ℕ → ℕ
block_time resolution order head =
    counted_time resolution (ordered_number order 4 12 head * 2 ^ 32 + ordered_number order 4 16 head)

-- An interface of this number stands among these.
abbrev pub IsNumbered : List Interface → ℕ → Interface → Type 0
IsNumbered interfaces number interface = (front rest : List Interface) × (interfaces ≡ front ++ interface ∷ rest)
    × (length front ≡ number)

-- The first octets of a block of a packet with a length that it can have.
pub record BeginsPacket (state : CaptureState) (head : List ℕ) (len : ℕ) : Type 0 where
  pub whole : length head ≡ 28
  pub typed : HasType state.order head 6 len
  pub fit : IsLength 32 len

-- The same of a packet of this interface.
pub record IsOfInterface (state : CaptureState) (head : List ℕ) (len : ℕ) (interface : Interface) : Type 0 where
  pub begins : BeginsPacket state head len
  pub numbered : IsNumbered state.interfaces (ordered_number state.order 4 8 head) interface

-- A block of type 6 is of a packet: its interface, its time in four octets and four, how many octets of the packet follow, and how
-- many it had, which counts for nothing.
pub record IsPacketHead (state : CaptureState) (head : List ℕ) (len : ℕ) (link : Link) (time captured : ℕ) : Type 0 where
  pub interface : Interface
  pub begins : IsOfInterface state head len interface
  pub linked : interface.link ≡ link_number link
  pub timed : time ≡ block_time interface.resolution state.order head
  pub says : captured ≡ ordered_number state.order 4 20 head
  pub short : captured ≤ packet_limit
  pub there : 32 + captured ≤ len

-- A block of any other type is passed over.
pub record IsPassedHead (state : CaptureState) (head : List ℕ) (len : ℕ) : Type 0 where
  pub whole : length head ≡ 8
  pub typed : (number : ℕ) × HasType state.order head number len × (number ≢ 1) × (number ≢ 6)
  pub fit : IsLength 12 len

-- The first octets of a block, and what they say.
abbrev pub IsBlockHeadOf : Block → CaptureState → List ℕ → BlockHead → Type 0
IsBlockHeadOf NewSection state head b = IsSectionHead head b.order b.len × (b.kept ≡ 0)
IsBlockHeadOf (NewInterface link) state head b = IsInterfaceHead state head b.len link × (b.order ≡ state.order)
    × (b.len ≡ 20 + b.kept)
IsBlockHeadOf (Captured link time) state head b = IsPacketHead state head b.len link time b.kept × (b.order ≡ state.order)
IsBlockHeadOf Passed state head b = IsPassedHead state head b.len × (b.order ≡ state.order) × (b.kept ≡ 0)

abbrev pub IsBlockHead : CaptureState → List ℕ → BlockHead → Type 0
IsBlockHead state head b = IsBlockHeadOf b.block state head b × (b.head ≡ length head)

-- The state behind a block that keeps these octets of what stands behind its head. A section has no interfaces yet. The options of
-- an interface say its resolution.
abbrev pub IsBehindBlock : Block → CaptureState → BlockHead → List ℕ → CaptureState → Type 0
IsBehindBlock NewSection old b kept new =
    new ≡ record { format = Pcapng; order = b.order; interfaces = []; octet = old.octet + b.len }
IsBehindBlock (NewInterface link) old b kept new = (resolution : ℕ) × Says b.order kept resolution
    × (new ≡ record old {
      interfaces = old.interfaces ++ record { link = link; resolution = resolution } ∷ [];
      octet = old.octet + b.len;
    })
IsBehindBlock (Captured link time) old b kept new = new ≡ record old { octet = old.octet + b.len }
IsBehindBlock Passed old b kept new = new ≡ record old { octet = old.octet + b.len }

-- the packets that a block holds: itself one, or none
abbrev pub packets_in : Block → ℕ → List ℕ → List CapturedPacket
packets_in (Captured link time) octet kept = record { octet = octet; link = link; time = time; octets = kept } ∷ []
packets_in block octet kept = []

-- What stands behind the first octets of a block: those that are kept, others, and its length once more.
pub record IsBlockRest (b : BlockHead) (kept rest : List ℕ) : Type 0 where
  pub passed : List ℕ
  pub last : List ℕ
  pub parts : rest ≡ kept ++ passed ++ last
  pub count : length kept ≡ b.kept
  pub all : b.head + length rest ≡ b.len
  pub four : length last ≡ 4
  pub again : ordered_number b.order 4 0 last ≡ b.len

-- These octets are a block. They lead from one state to the other, and hold these packets.
pub record IsCaptureBlock (old : CaptureState) (octets : List ℕ) (new : CaptureState) (found : List CapturedPacket) : Type 0 where
  pub head : List ℕ
  pub rest : List ℕ
  pub kept : List ℕ
  pub says : BlockHead
  pub parts : octets ≡ head ++ rest
  pub begins : IsBlockHead old head says
  pub ends : IsBlockRest says kept rest
  pub behind : IsBehindBlock says.block old says kept new
  pub held : found ≡ packets_in says.block old.octet kept

-- how many octets of a block are read before it is judged, by its type and its length
abbrev pub HasHeadLength : Order → List ℕ → ℕ → Type 0
HasHeadLength order first count =
    ((take 4 first ≡ section_type) × (count ≡ 12))
    ⊎ ((take 4 first ≢ section_type) × (ordered_number order 4 0 first ≡ 1) × (count ≡ 16))
    ⊎ ((take 4 first ≢ section_type) × (ordered_number order 4 0 first ≡ 6) × (count ≡ 28))
    ⊎ ((take 4 first ≢ section_type) × (ordered_number order 4 0 first ≢ 1) × (ordered_number order 4 0 first ≢ 6) × (count ≡ 8))

-- Its type and its length, and less than what it is judged by.
pub record IsPartOfBlockHead (state : CaptureState) (part : List ℕ) : Type 0 where
  pub first : List ℕ
  pub more : List ℕ
  pub count : ℕ
  pub parts : part ≡ first ++ more
  pub eight : length first ≡ 8
  pub says : HasHeadLength state.order first count
  pub less : length part < count

-- What a block is judged by, and less than its length says.
pub record IsPartBehindHead (state : CaptureState) (part : List ℕ) : Type 0 where
  pub head : List ℕ
  pub rest : List ℕ
  pub says : BlockHead
  pub parts : part ≡ head ++ rest
  pub begins : IsBlockHead state head says
  pub less : length part < says.len

-- Less than a block: less than its type and its length, less than what it is judged by, or less than its length says.
abbrev pub IsPartOfBlock : CaptureState → List ℕ → Type 0
IsPartOfBlock state part = (length part < 8) ⊎ IsPartOfBlockHead state part ⊎ IsPartBehindHead state part

-- The first octets of a section have no order, or no length that it can have.
pub record IsBadSection (head : List ℕ) : Type 0 where
  pub whole : length head ≡ 12
  pub section : take 4 head ≡ section_type
  pub bad : ((order : Order) → ordered_number order 4 8 head ≢ section_magic)
      ⊎ ((order : Order) × (ordered_number order 4 8 head ≡ section_magic) × (¬ IsLength 28 (ordered_number order 4 4 head)))

-- The first octets of another block have no length that it can have.
pub record HasBadLength (order : Order) (head : List ℕ) (count least : ℕ) : Type 0 where
  pub whole : length head ≡ count
  pub other : take 4 head ≢ section_type
  pub bad : ¬ IsLength least (ordered_number order 4 4 head)

-- A block of a packet names no interface.
pub record NamesNoInterface (state : CaptureState) (head : List ℕ) : Type 0 where
  pub len : ℕ
  pub begins : BeginsPacket state head len
  pub none : (interface : Interface) → ¬ IsNumbered state.interfaces (ordered_number state.order 4 8 head) interface

-- It has no room for the octets of its packet.
pub record HasNoRoom (state : CaptureState) (head : List ℕ) : Type 0 where
  pub len : ℕ
  pub interface : Interface
  pub begins : IsOfInterface state head len interface
  pub short : ordered_number state.order 4 20 head ≤ packet_limit
  pub less : len < 32 + ordered_number state.order 4 20 head

-- The first octets of a block show that it can't be one.
abbrev pub IsBadHead : CaptureState → List ℕ → Type 0
IsBadHead state head = IsBadSection head
    ⊎ ((ordered_number state.order 4 0 head ≡ 1) × HasBadLength state.order head 16 20)
    ⊎ ((ordered_number state.order 4 0 head ≡ 6) × HasBadLength state.order head 28 32)
    ⊎ ((ordered_number state.order 4 0 head ≢ 1) × (ordered_number state.order 4 0 head ≢ 6) × HasBadLength state.order head 8 12)
    ⊎ NamesNoInterface state head
    ⊎ HasNoRoom state head

-- A block says another length at its end.
pub record IsBadRest (b : BlockHead) (rest : List ℕ) : Type 0 where
  pub front : List ℕ
  pub last : List ℕ
  pub parts : rest ≡ front ++ last
  pub all : b.head + length rest ≡ b.len
  pub four : length last ≡ 4
  pub other : ordered_number b.order 4 0 last ≢ b.len

-- A whole block says another length at its end.
pub record IsBadBlock (state : CaptureState) (octets : List ℕ) : Type 0 where
  pub head : List ℕ
  pub rest : List ℕ
  pub says : BlockHead
  pub parts : octets ≡ head ++ rest
  pub begins : IsBlockHead state head says
  pub bad : IsBadRest says rest

-- The section has no room for one more interface.
pub record IsOneInterfaceMore (state : CaptureState) (head : List ℕ) : Type 0 where
  pub len : ℕ
  pub begins : BeginsInterface state head len
  pub many : interface_limit ≤ length state.interfaces

-- What describes an interface is too long.
pub record IsLongInterface (state : CaptureState) (head : List ℕ) : Type 0 where
  pub len : ℕ
  pub begins : BeginsInterface state head len
  pub few : length state.interfaces < interface_limit
  pub long : 20 + packet_limit < len

-- A packet is too long.
pub record IsLongPacket (state : CaptureState) (head : List ℕ) : Type 0 where
  pub len : ℕ
  pub interface : Interface
  pub begins : IsOfInterface state head len interface
  pub long : packet_limit < ordered_number state.order 4 20 head

-- A packet of an interface has this link type, which isn't read.
pub record HasOtherLink (state : CaptureState) (head : List ℕ) (number : ℕ) : Type 0 where
  pub len : ℕ
  pub interface : Interface
  pub begins : IsOfInterface state head len interface
  pub short : ordered_number state.order 4 20 head ≤ packet_limit
  pub there : 32 + ordered_number state.order 4 20 head ≤ len
  pub says : number ≡ interface.link
  pub other : (link : Link) → number ≢ link_number link

-- The first octets of a block, taken as its front, show this fault of the block that begins at this octet.
abbrev pub ShowsBlockHeadFault : CaptureState → CaptureFault → List ℕ → Type 0
ShowsBlockHeadFault state (BadBlock octet) head = (octet ≡ state.octet) × IsBadHead state head
ShowsBlockHeadFault state (ManyInterfaces octet) head = (octet ≡ state.octet) × IsOneInterfaceMore state head
ShowsBlockHeadFault state (TooLong octet) head = (octet ≡ state.octet) × (IsLongInterface state head ⊎ IsLongPacket state head)
ShowsBlockHeadFault state (LinkType number) head = HasOtherLink state head number
ShowsBlockHeadFault state fault head = ⊥

-- These octets, taken as the front of a block, show this fault. It is cut or could not be read where less than a block is there.
abbrev pub ShowsFaultInBlock : CaptureState → CaptureFault → List ℕ → Type 0
ShowsFaultInBlock state (CutBlock octet) part = (octet ≡ state.octet) × (part ≢ []) × IsPartOfBlock state part
ShowsFaultInBlock state (Read octet) part = (octet ≡ state.octet) × IsPartOfBlock state part
ShowsFaultInBlock state (BadBlock octet) part = (octet ≡ state.octet) × (IsBadHead state part ⊎ IsBadBlock state part)
ShowsFaultInBlock state fault part = ShowsBlockHeadFault state fault part
