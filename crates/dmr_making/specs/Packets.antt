-- The tries that a script says.
use Rattle.std.specs.Prelude.{◌≡◌, ℕ, zero, suc, ◌+◌, ◌*◌, ◌==◌, nat_lt, Bool, true, false, List, [], ◌++◌, length, take}
use Rattle.std.specs.Prelude.{replicate, slice_get, Some, if◌then◌else◌}
use Rattle.std.specs.Int.{to_le_bytes, w128}
use Rattle.std.specs.List.{AllZip, list_any}
use Rattle.dmr_data.specs.Packet.{IsWrittenPacket}
use Rattle.dmr_data.specs.declared.block.Block.{Block}
use Rattle.dmr_data.specs.declared.header.Header.{Header}
use Rattle.dmr_data.specs.declared.header.Header.TheVariants as header
use Rattle.dmr_data.specs.declared.packet.Packet.{Packet}
use Rattle.dmr_data.specs.declared.rate.Rate.TheVariants.{Half}
use Rattle.dmr_ip.specs.Contents.{Contents, datagram_of}
use Rattle.dmr_ip.specs.Spelling.{form, written_form}
use Rattle.dmr_making.specs.declared.tries.SentTry.{SentTry}
use Rattle.dmr_script.specs.declared.packet.Answer.{Answer}
use Rattle.dmr_script.specs.declared.packet.AnswerKind.{AnswerKind}
use Rattle.dmr_script.specs.declared.packet.AnswerKind.TheVariants as kind
use Rattle.dmr_script.specs.declared.packet.Body.{Body}
use Rattle.dmr_script.specs.declared.packet.Body.TheVariants as body
use Rattle.dmr_script.specs.declared.packet.PacketTry.{PacketTry}
use Rattle.dmr_script.specs.declared.packet.PartialTry.{PartialTry}
use Rattle.dmr_script.specs.declared.packet.ShortDataTry.{ShortDataTry}
use Rattle.dmr_script.specs.declared.packet.StatusSent.{StatusSent}
use Rattle.dmr_script.specs.declared.packet.UdpMessage.{UdpMessage}
use Rattle.dmr_script.specs.declared.packet.Wanted.{Wanted}

-- 1. What packets carry.

-- what a UDP datagram says behind its addresses
abbrev pub contents_of : UdpMessage → Contents
contents_of m = record {
  identification = m.identification;
  source_port = m.source_port;
  destination_port = m.destination_port;
  payload = m.data.items;
}

-- the compressed form of a datagram that spells both of its ports
abbrev pub plain_form : Bool → UdpMessage → List ℕ
plain_form group m = form 0 0 group (contents_of m)

-- the UDP datagram that a packet carries: from the radio that sends it, to the radio or the group that it is for
abbrev pub datagram_in : PacketTry → UdpMessage → List ℕ
datagram_in p m = datagram_of p.source p.destination p.group (contents_of m)

-- The octets that a packet carries: octets as they are, or a UDP datagram, which goes in its compressed form under service access
-- point 3, and as it is under any other.
abbrev pub body_with : PacketTry → Body → List ℕ
body_with p (body.Octets octets) = octets.items
body_with p (body.Udp m) = if p.sap == 3 then written_form p.group (contents_of m) else datagram_in p m

-- the octets that a packet carries
abbrev pub packet_octets : PacketTry → List ℕ
packet_octets p = body_with p p.body

-- The packet in its blocks.
pub record IsPacketIn (p : PacketTry) (packet : Packet) : Type 0 where
  pub rate : packet.rate ≡ p.rate
  pub confirmed : packet.confirmed ≡ p.confirmed
  pub written : IsWrittenPacket (packet_octets p) packet

-- The header of a try with so many blocks, all of the packet or some of it. It is as a gateway sends it: a confirmed try begins no
-- new numbers, and its fragment is the last one and the first.
abbrev pub packet_header : PacketTry → ℕ → Bool → ℕ → Header
packet_header p pad full blocks =
    if p.confirmed
    then header.Confirmed (record {
      group = p.group;
      wanted = p.wanted;
      pad = pad;
      sap = p.sap;
      destination = p.destination;
      source = p.source;
      full = full;
      blocks = blocks;
      resynchronize = false;
      number = p.number;
      fragment = 8;
    })
    else header.Unconfirmed (record {
      group = p.group;
      wanted = false;
      pad = pad;
      sap = p.sap;
      destination = p.destination;
      source = p.source;
      full = full;
      blocks = blocks;
      fragment = 0;
    })

-- a try of a packet with this header and these blocks
abbrev pub try_with : PacketTry → Header → List Block → SentTry
try_with p h blocks = record {
  source = p.source;
  group = p.group;
  destination = p.destination;
  header = h;
  rate = p.rate;
  blocks = blocks;
}

-- A full try of a packet: its header counts all of its blocks.
pub record IsFullTry (p : PacketTry) (t : SentTry) : Type 0 where
  pub packet : Packet
  pub packet_is : IsPacketIn p packet
  pub is : t ≡ try_with p (packet_header p packet.pad true (length packet.blocks)) packet.blocks

-- these blocks have these numbers among others
abbrev pub ArePicked : List Block → List ℕ → List Block → Type 0
ArePicked blocks serials some = AllZip (λ serial block. slice_get blocks serial ≡ Some block) serials some

-- A try of some blocks of a packet. All else of its header is that of the packet, its number among it.
pub record IsPartialTry (p : PacketTry) (partial : PartialTry) (t : SentTry) : Type 0 where
  pub packet : Packet
  pub packet_is : IsPacketIn p packet
  pub blocks : List Block
  pub picked : ArePicked packet.blocks partial.serials.items blocks
  pub is : t ≡ try_with p (packet_header p packet.pad false (length partial.serials.items)) blocks

-- 2. Other tries.

-- short data in the blocks of this packet, with a header that counts these and the bits of padding
abbrev pub short_try : ShortDataTry → Packet → SentTry
short_try s packet = record {
  source = s.source;
  group = s.group;
  destination = s.destination;
  header = header.ShortData (record {
    group = s.group;
    wanted = false;
    blocks = length packet.blocks;
    destination = s.destination;
    source = s.source;
    data_format = s.format;
    resynchronize = false;
    full = true;
    bit_padding = 8 * packet.pad;
  });
  rate = Half;
  blocks = packet.blocks;
}

-- Short data: its octets go in unconfirmed blocks at rate 1/2.
pub record IsShortDataTry (s : ShortDataTry) (t : SentTry) : Type 0 where
  pub packet : Packet
  pub rate : packet.rate ≡ Half
  pub confirmed : packet.confirmed ≡ false
  pub written : IsWrittenPacket s.octets.items packet
  pub is : t ≡ short_try s packet

-- a status, which has no blocks
abbrev pub status_try : StatusSent → SentTry
status_try s = record {
  source = s.header.source;
  group = s.header.group;
  destination = s.header.destination;
  header = header.Status s.header;
  rate = Half;
  blocks = [];
}

-- whether a number is among others
abbrev pub is_among : List ℕ → ℕ → Bool
is_among serials serial = list_any (λ s. s == serial) serials

-- The flags of so many blocks from this one on, the first of them in the lowest bit: set where a block isn't wanted once more.
abbrev pub flags_from : List ℕ → ℕ → ℕ → ℕ
flags_from serials serial zero = 0
flags_from serials serial (suc more) = (if is_among serials serial then 0 else 1) + 2 * flags_from serials (suc serial) more

-- the octets of the flags: eight, or sixteen and four zeros where the packet has more than 64 blocks
abbrev pub octets_of_flags : Wanted → List ℕ
octets_of_flags w =
    let octets = to_le_bytes w128 (flags_from w.serials.items 0 w.blocks) in
    if nat_lt 64 w.blocks then octets ++ replicate 4 0 else take 8 octets

-- The packet of the flags, in unconfirmed blocks at rate 1/2.
pub record IsPacketOfFlags (w : Wanted) (packet : Packet) : Type 0 where
  pub rate : packet.rate ≡ Half
  pub confirmed : packet.confirmed ≡ false
  pub written : IsWrittenPacket (octets_of_flags w) packet

-- the header of an answer of this class and type, with so many blocks of flags
abbrev pub header_of_answer : Answer → ℕ → ℕ → ℕ → Header
header_of_answer a class kind blocks =
    header.Response (record {
      sap = a.sap;
      destination = a.destination;
      source = a.source;
      blocks = blocks;
      class = class;
      kind = kind;
      status = a.number;
    })

-- an answer with this header and these blocks
abbrev pub try_of_answer : Answer → Header → List Block → SentTry
try_of_answer a h blocks = record {
  source = a.source;
  group = false;
  destination = a.destination;
  header = h;
  rate = Half;
  blocks = blocks;
}

-- An answer: of class 0 where the packet came, 1 where it failed, and 2 with flags where some blocks are wanted once more.
abbrev pub IsAnswerOf : Answer → AnswerKind → SentTry → Type 0
IsAnswerOf a kind.Acknowledged t = t ≡ try_of_answer a (header_of_answer a 0 1 0) []
IsAnswerOf a kind.Failed t = t ≡ try_of_answer a (header_of_answer a 1 1 0) []
IsAnswerOf a (kind.SelectiveRepeat w) t =
    (packet : Packet) × IsPacketOfFlags w packet
    × (t ≡ try_of_answer a (header_of_answer a 2 0 (length packet.blocks)) packet.blocks)
