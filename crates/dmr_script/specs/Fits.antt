-- Which numbers statements have, and how many blocks the shape of a packet has.
use Rattle.std.specs.Prelude.{◌≡◌, ℕ, ◌+◌, ◌*◌, ◌^◌, ◌<◌, ◌≤◌, ◌==◌, ◌||◌, false, All, List, length, IfSome, if◌then◌else◌}
use Rattle.std.specs.Prelude.{nat_lt}
use Rattle.dmr_csbk.specs.Block.{FitsCsbk}
use Rattle.dmr_data.specs.Block.{payload}
use Rattle.dmr_data.specs.declared.header.Status.{Status}
use Rattle.dmr_data.specs.declared.rate.Rate.TheVariants.{Half}
use Rattle.dmr_link.specs.FullLc.{FitsFullLc}
use Rattle.dmr_script.specs.Foreign.{MayBeForeign}
use Rattle.dmr_script.specs.Shapes.{IsCallShape}
use Rattle.dmr_script.specs.declared.call.Call.{Call}
use Rattle.dmr_script.specs.declared.call.Carried.{Carried}
use Rattle.dmr_script.specs.declared.call.Carried.TheVariants as carried
use Rattle.dmr_script.specs.declared.control.LoneBurst.{LoneBurst}
use Rattle.dmr_script.specs.declared.control.LoneBurst.TheVariants as burst
use Rattle.dmr_script.specs.declared.packet.Again.{Again}
use Rattle.dmr_script.specs.declared.packet.Again.TheVariants as again
use Rattle.dmr_script.specs.declared.packet.Answer.{Answer}
use Rattle.dmr_script.specs.declared.packet.AnswerKind.{AnswerKind}
use Rattle.dmr_script.specs.declared.packet.AnswerKind.TheVariants as kind
use Rattle.dmr_script.specs.declared.packet.Body.{Body}
use Rattle.dmr_script.specs.declared.packet.Body.TheVariants as body
use Rattle.dmr_script.specs.declared.packet.PacketTry.{PacketTry}
use Rattle.dmr_script.specs.declared.packet.PartialTry.{PartialTry}
use Rattle.dmr_script.specs.declared.packet.ShortDataTry.{ShortDataTry}
use Rattle.dmr_script.specs.declared.packet.StatusSent.{StatusSent}
use Rattle.dmr_script.specs.declared.packet.UdpMessage.{UdpMessage}
use Rattle.dmr_script.specs.declared.packet.Wanted.{Wanted}
use Rattle.dmr_script.specs.declared.send.Datagram.{Datagram}
use Rattle.dmr_script.specs.declared.send.Datagram.TheVariants as datagram
use Rattle.dmr_script.specs.declared.shape.PacketShape.{PacketShape}
use Rattle.dmr_script.specs.declared.statement.NumberedStatement.{NumberedStatement}
use Rattle.dmr_script.specs.declared.statement.Sender.{Sender}
use Rattle.dmr_script.specs.declared.statement.Sender.TheVariants as sender
use Rattle.dmr_script.specs.declared.statement.Statement.{Statement}
use Rattle.dmr_script.specs.declared.statement.Statement.TheVariants as statement
use Rattle.dmr_script.specs.declared.statement.Transmission.{Transmission}
use Rattle.dmr_script.specs.declared.statement.Transmission.TheVariants as transmission
use Rattle.dmr_script.specs.declared.statement.Transmit.{Transmit}

-- 1. Octets.

-- Each of these numbers is one of eight bits.
abbrev pub AreEightBits : List ℕ → Type 0
AreEightBits octets = All (λ octet. octet < 256) octets

-- These are so many octets.
pub record AreSoManyOctets (many : ℕ) (octets : List ℕ) : Type 0 where
  pub count : length octets ≡ many
  pub small : AreEightBits octets

-- 2. Packets.

-- The shape of a packet has so many blocks, at most 127, and each of its preambles can count what follows it.
pub record HasBlocks (blocks : ℕ) (shape : PacketShape) : Type 0 where
  pub count : length shape.blocks.items ≡ blocks
  pub most : blocks ≤ 127
  pub counted : shape.preambles + length shape.blocks.items ≤ 255

-- So many blocks hold a body and its check, which has four octets, and fewer don't.
pub record HoldsBody (blocks octets block : ℕ) : Type 0 where
  pub enough : octets + 4 ≤ blocks * block
  pub fewest : blocks * block < octets + 4 + block

-- how many octets a port has in the compressed form of a datagram: the ports 5016 and 5017 have identifiers
abbrev pub compressed_port_octets : ℕ → ℕ
compressed_port_octets port = if (port == 5016) || (port == 5017) then 0 else 2

-- how many octets the body of a packet has under this service access point: under 3 a datagram goes in its compressed form
abbrev pub body_octets : ℕ → Body → ℕ
body_octets sap (body.Octets octets) = length octets.items
body_octets sap (body.Udp m) =
    if sap == 3
    then 5 + compressed_port_octets m.source_port + compressed_port_octets m.destination_port + length m.data.items
    else 28 + length m.data.items

-- The data of a datagram are octets, and fit into it.
pub record FitsMessage (m : UdpMessage) : Type 0 where
  pub room : length m.data.items ≤ 1372
  pub octets : AreEightBits m.data.items

abbrev pub FitsBody : Body → Type 0
FitsBody (body.Octets octets) = AreEightBits octets.items
FitsBody (body.Udp m) = FitsMessage m

pub record FitsPacket (p : PacketTry) : Type 0 where
  pub source : p.source < 2 ^ 24
  pub destination : p.destination < 2 ^ 24
  pub sap : p.sap < 16
  pub number : p.number < 8
  pub body : FitsBody p.body
  pub holds : HoldsBody (length p.shape.blocks.items) (body_octets p.sap p.body) (payload p.rate p.confirmed)
  pub shape : HasBlocks (length p.shape.blocks.items) p.shape

pub record FitsPartial (p : PartialTry) : Type 0 where
  pub serials : All (λ serial. serial < 127) p.serials.items
  pub shape : HasBlocks (length p.serials.items) p.shape

abbrev pub FitsAgain : Again → Type 0
FitsAgain (again.Full shape) = IfSome shape (λ shape. HasBlocks (length shape.blocks.items) shape)
FitsAgain (again.Partial p) = FitsPartial p

pub record FitsShortData (s : ShortDataTry) : Type 0 where
  pub source : s.source < 2 ^ 24
  pub destination : s.destination < 2 ^ 24
  pub format : s.format < 64
  pub octets : AreEightBits s.octets.items
  pub holds : HoldsBody (length s.shape.blocks.items) (length s.octets.items) (payload Half false)
  pub most : length s.shape.blocks.items ≤ 63
  pub shape : HasBlocks (length s.shape.blocks.items) s.shape

pub record FitsStatusHeader (s : Status) : Type 0 where
  pub wanted : s.wanted ≡ false
  pub source : s.source < 2 ^ 24
  pub destination : s.destination < 2 ^ 24
  pub source_port : s.source_port < 8
  pub destination_port : s.destination_port < 8
  pub status : s.status < 1024

pub record FitsStatus (s : StatusSent) : Type 0 where
  pub header : FitsStatusHeader s.header
  pub shape : HasBlocks 0 s.shape

-- There are blocks, and those that are wanted are among them.
pub record FitsWanted (w : Wanted) : Type 0 where
  pub some : 0 < w.blocks
  pub most : w.blocks ≤ 127
  pub serials : All (λ serial. serial < w.blocks) w.serials.items

abbrev pub FitsKind : AnswerKind → Type 0
FitsKind kind.Acknowledged = Unit {0}
FitsKind kind.Failed = Unit {0}
FitsKind (kind.SelectiveRepeat w) = FitsWanted w

-- how many blocks of flags an answer has: one tells of 64 blocks
abbrev pub answer_flag_blocks : AnswerKind → ℕ
answer_flag_blocks kind.Acknowledged = 0
answer_flag_blocks kind.Failed = 0
answer_flag_blocks (kind.SelectiveRepeat w) = if nat_lt 64 w.blocks then 2 else 1

pub record FitsAnswer (a : Answer) : Type 0 where
  pub source : a.source < 2 ^ 24
  pub destination : a.destination < 2 ^ 24
  pub number : a.number < 8
  pub sap : a.sap < 16
  pub kind : FitsKind a.kind
  pub shape : HasBlocks (answer_flag_blocks a.kind) a.shape

-- 3. Calls and single bursts.

abbrev pub FitsCarried : Carried → Type 0
FitsCarried carried.Own = Unit {0}
FitsCarried carried.Nothing = Unit {0}
FitsCarried (carried.LinkControl lc) = FitsFullLc lc

pub record FitsCall (c : Call) : Type 0 where
  pub link_control : FitsFullLc c.link_control
  pub key : AreSoManyOctets 10 c.key
  pub carried : All FitsCarried c.carried.items
  pub shape : IsCallShape c.shape

abbrev pub FitsBurst : LoneBurst → Type 0
FitsBurst (burst.Terminator lc) = FitsFullLc lc
FitsBurst (burst.PiHeader octets) = length octets ≡ 12
FitsBurst (burst.MbcHeader octets) = length octets ≡ 12
FitsBurst (burst.MbcBlock octets) = length octets ≡ 12
FitsBurst (burst.UnifiedBlock octets) = length octets ≡ 12
FitsBurst (burst.RateHalf octets) = length octets ≡ 12
FitsBurst (burst.RateThreeQuarters bits) = length bits ≡ 196
FitsBurst (burst.RateOne bits) = length bits ≡ 196

-- 4. Statements.

abbrev pub FitsTransmission : Transmission → Type 0
FitsTransmission (transmission.Call c) = FitsCall c
FitsTransmission (transmission.Packet p) = FitsPacket p
FitsTransmission (transmission.Again a) = FitsAgain a
FitsTransmission (transmission.ShortData s) = FitsShortData s
FitsTransmission (transmission.Status s) = FitsStatus s
FitsTransmission (transmission.Answer a) = FitsAnswer a
FitsTransmission (transmission.Control csbk) = FitsCsbk csbk
FitsTransmission (transmission.Burst b) = FitsBurst b

-- Another colour code is one, and the transmission may have it.
abbrev pub FitsSender : Sender → Transmission → Type 0
FitsSender sender.Own sent = Unit {0}
FitsSender (sender.Foreign colour) sent = (colour < 16) × MayBeForeign sent

pub record FitsTransmit (t : Transmit) : Type 0 where
  pub sender : FitsSender t.sender t.transmission
  pub transmission : FitsTransmission t.transmission

abbrev pub FitsSending : Datagram → Type 0
FitsSending (datagram.Octets octets) = (length octets.items < 2 ^ 16) × AreEightBits octets.items
FitsSending (datagram.Udp m) = FitsMessage m.message

abbrev pub FitsStatement : Statement → Type 0
FitsStatement (statement.Colour colour) = colour < 16
FitsStatement (statement.Slot slot) = Unit {0}
FitsStatement (statement.Silence n) = n < 2 ^ 32
FitsStatement (statement.At frame) = frame < 2 ^ 32
FitsStatement (statement.Frames n) = n < 2 ^ 32
FitsStatement (statement.Transmit t) = FitsTransmit t
FitsStatement (statement.Send s) = (s.frame < 2 ^ 32) × FitsSending s.datagram

abbrev pub FitsNumbered : NumberedStatement → Type 0
FitsNumbered s = FitsStatement s.statement
