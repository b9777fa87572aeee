-- The head and the records of a pcap.
use Rattle.std.specs.Prelude.{◌≡◌, ℕ, ◌+◌, ◌<◌, ◌≤◌, ◌⊎◌, List, [], ◌∷◌, ◌++◌, length}
use Rattle.dmr_capture.specs.Links.{link_number}
use Rattle.dmr_capture.specs.Orders.{ordered_number}
use Rattle.dmr_capture.specs.State.{CaptureState, CapturedPacket, packet_limit}
use Rattle.dmr_capture.specs.Times.{pcap_time}
use Rattle.dmr_capture.specs.declared.capture.Format.TheVariants.{Pcap}
use Rattle.dmr_capture.specs.declared.link.Link.{Link}
use Rattle.dmr_capture.specs.declared.order.Order.{Order}
use Rattle.dmr_capture.specs.declared.pcap.Fraction.{Fraction}
use Rattle.dmr_capture.specs.declared.pcap.Fraction.TheVariants.{Micro, Nano}

-- the number that a pcap begins with, by what its times count in
abbrev pub pcap_magic : Fraction → ℕ
pcap_magic Micro = 0xA1B2C3D4
pcap_magic Nano = 0xA1B23C4D

-- These octets begin a pcap in this order of octets, whose times count in this fraction.
abbrev pub HasPcapMagic : List ℕ → Order → Fraction → Type 0
HasPcapMagic octets order fraction = ordered_number order 4 0 octets ≡ pcap_magic fraction

-- The version is 2.4.
pub record IsVersion24 (octets : List ℕ) (order : Order) : Type 0 where
  pub major : ordered_number order 2 4 octets ≡ 2
  pub minor : ordered_number order 2 6 octets ≡ 4

-- The 24 octets that begin a pcap: its magic, its version, eight octets that count for nothing, the length to which packets were
-- kept, which counts for nothing either, and the link type.
pub record IsPcapHead (octets : List ℕ) (order : Order) (fraction : Fraction) (link : Link) : Type 0 where
  pub whole : length octets ≡ 24
  pub magic : HasPcapMagic octets order fraction
  pub version : IsVersion24 octets order
  pub linked : ordered_number order 4 20 octets ≡ link_number link

-- the state behind the head of a pcap
abbrev pub behind_pcap_head : Order → Fraction → Link → CaptureState
behind_pcap_head order fraction link = record { format = Pcap link fraction; order = order; interfaces = []; octet = 24 }

-- The head of a record: the seconds and their fraction, how many octets of the packet follow, and how many it had, which counts for
-- nothing.
pub record IsRecordHead (order : Order) (head : List ℕ) (captured : ℕ) : Type 0 where
  pub whole : length head ≡ 16
  pub says : captured ≡ ordered_number order 4 8 head
  pub short : captured ≤ packet_limit

-- the time that the head of a record says
abbrev pub record_time : Fraction → Order → List ℕ → ℕ
record_time fraction order head = pcap_time fraction (ordered_number order 4 0 head) (ordered_number order 4 4 head)

-- These octets are a record: its head, and then so many octets of its packet. They lead from one state to the other, and hold these
-- packets.
pub record IsRecord (link : Link) (fraction : Fraction) (old : CaptureState) (octets : List ℕ) (new : CaptureState)
    (found : List CapturedPacket) : Type 0 where
  pub head : List ℕ
  pub packet : List ℕ
  pub parts : octets ≡ head ++ packet
  pub says : IsRecordHead old.order head (length packet)
  pub behind : new ≡ record old { octet = old.octet + length octets }
  pub held : found ≡ record { octet = old.octet; link = link; time = record_time fraction old.order head; octets = packet } ∷ []

-- The head of a record, and less than its packet.
pub record IsPartOfPacket (state : CaptureState) (part : List ℕ) : Type 0 where
  pub head : List ℕ
  pub packet : List ℕ
  pub captured : ℕ
  pub parts : part ≡ head ++ packet
  pub says : IsRecordHead state.order head captured
  pub less : length packet < captured

-- less than a record: less than its head, or its head and less than its packet
abbrev pub IsPartOfRecord : CaptureState → List ℕ → Type 0
IsPartOfRecord state part = (length part < 16) ⊎ IsPartOfPacket state part

-- the head of a record that asks for more than a packet may have
pub record IsLongRecord (state : CaptureState) (head : List ℕ) : Type 0 where
  pub whole : length head ≡ 16
  pub long : packet_limit < ordered_number state.order 4 8 head
