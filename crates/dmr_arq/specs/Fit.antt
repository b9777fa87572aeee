-- What fits its fields: all that goes out, and all that is kept for it.
use Rattle.std.specs.Prelude.{ℕ, ◌^◌, ◌<◌, ◌≤◌, List, length, Option, IfSome}
use Rattle.dmr_data.specs.Block.{FitsBlock, IsCounted}
use Rattle.dmr_data.specs.Header.{IsFitHeader}
use Rattle.dmr_data.specs.Packet.{IsWrittenPacket}
use Rattle.dmr_data.specs.declared.block.Block.{Block}
use Rattle.dmr_data.specs.declared.header.Header.TheVariants as header
use Rattle.dmr_data.specs.declared.packet.Packet.{Packet}
use Rattle.dmr_arq.specs.declared.answer.Answer.{Answer}
use Rattle.dmr_arq.specs.declared.received.ReceiverOut.{ReceiverOut}
use Rattle.dmr_arq.specs.declared.receiver_state.Kind.{Kind}
use Rattle.dmr_arq.specs.declared.receiver_state.Kind.TheVariants.{Single, InProgress, Repeat}
use Rattle.dmr_arq.specs.declared.receiver_state.ReceiverState.{ReceiverState}
use Rattle.dmr_arq.specs.declared.sender.GateBurst.{GateBurst}
use Rattle.dmr_arq.specs.declared.sender.GateBurst.TheVariants as burst
use Rattle.dmr_arq.specs.declared.sender_state.Held.{Held}
use Rattle.dmr_arq.specs.declared.sender_state.Route.{Route}
use Rattle.dmr_arq.specs.SenderRules.{SenderState}

-- 1. What goes out.

-- A route has an address of 24 bits, and a service access point of four.
pub record IsFitRoute (route : Route) : Type 0 where
  pub destination : route.destination < 2 ^ 24
  pub sap : route.sap < 2 ^ 4

-- An answer has addresses of 24 bits, a service access point of four and the number of its packet in three.
pub record IsFitAnswer (answer : Answer) : Type 0 where
  pub from : answer.from < 2 ^ 24
  pub to : answer.to < 2 ^ 24
  pub sap : answer.sap < 2 ^ 4
  pub number : answer.number < 2 ^ 3

-- What a place of a try gives fits its fields: the header of the packet that is delivered, and the answer, where there are any.
pub record IsFitReceiverOut (out : ReceiverOut) : Type 0 where
  pub delivered : IfSome out.delivered (λ joined. IsFitHeader joined.header)
  pub answer : IfSome out.answer IsFitAnswer

-- a burst of a try: a preamble counts in eight bits, and a block fits its rate
abbrev pub IsFitGateBurst : GateBurst → Type 0
IsFitGateBurst (burst.Preamble left route) = (left < 2 ^ 8) × IsFitRoute route
IsFitGateBurst (burst.Header h) = IsFitHeader h
IsFitGateBurst (burst.Block block rate) = FitsBlock rate block.serial block.octets

-- 2. What comes in, what is offered, and what is kept.

-- A block fits a place of a try: it has a serial exactly where the try is of a confirmed packet, below the number of its blocks.
abbrev pub FitsPlace : Option (Option ℕ) → Option Block → Type 0
FitsPlace try block = IfSome try (λ total. IfSome block (λ b. IsCounted total b.serial))

-- A packet is the one that is sent for some body.
abbrev pub IsOfferedPacket : Packet → Type 0
IsOfferedPacket packet = (body : List ℕ) × IsWrittenPacket body packet

-- What an open try is of fits its fields: a try of a confirmed packet keeps its header, and one of a packet without confirmation
-- keeps nothing.
abbrev pub IsFitKind : Kind → Type 0
IsFitKind Single = Unit {0}
IsFitKind (InProgress h) = IsFitHeader (header.Confirmed h)
IsFitKind (Repeat h) = IsFitHeader (header.Confirmed h)

-- All that a receiver keeps fits its fields: its LLID of 24 bits, the header of the packet in progress, and what the open try is
-- of.
pub record IsFitReceiver (r : ReceiverState) : Type 0 where
  pub llid : r.llid < 2 ^ 24
  pub packet : IfSome r.packet (λ p. IsFitHeader p.header)
  pub attempt : IfSome r.attempt (λ a. IsFitKind a.kind)

-- The packet in hand fits: it is the packet that is sent for some body, its route fits, its number has three bits, and a try of
-- it has at most 127 blocks.
pub record IsFitHeld (h : Held) : Type 0 where
  pub packet : IsOfferedPacket h.packet
  pub route : IsFitRoute h.route
  pub number : h.number < 2 ^ 3
  pub serials : length h.selection.serials ≤ 127

-- All that a sender keeps fits its fields: its LLID of 24 bits, and the packet in hand, where there is one.
pub record IsFitSender (s : SenderState) : Type 0 where
  pub llid : s.llid < 2 ^ 24
  pub held : IfSome s.held IsFitHeld
