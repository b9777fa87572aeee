-- Whose colour code a transmission has, and what has to hold of it before it is sent.
use Rattle.std.specs.Prelude.{ℕ, ◌<◌, All, length, Option, Some, None}
use Rattle.dmr_making.specs.Fit.{IsFitCall, IsFitLone}
use Rattle.dmr_script.specs.Fits.{FitsPacket, FitsPartial, FitsShortData, FitsStatus, FitsAnswer, HasBlocks}
use Rattle.dmr_script.specs.declared.packet.Again.{Again}
use Rattle.dmr_script.specs.declared.packet.Again.TheVariants as again
use Rattle.dmr_script.specs.declared.packet.PacketTry.{PacketTry}
use Rattle.dmr_script.specs.declared.statement.Sender.{Sender}
use Rattle.dmr_script.specs.declared.statement.Sender.TheVariants as sender
use Rattle.dmr_script.specs.declared.statement.Transmission.{Transmission}
use Rattle.dmr_script.specs.declared.statement.Transmission.TheVariants as said

-- the colour code that is sent with in a recording of this one
abbrev pub colour_of : ℕ → Sender → ℕ
colour_of own sender.Own = own
colour_of own (sender.Foreign colour) = colour

-- another colour code is one
abbrev pub IsSenderColour : Sender → Type 0
IsSenderColour sender.Own = Unit {0}
IsSenderColour (sender.Foreign colour) = colour < 16

-- A further try fits the packet: a shape of all of it has as many blocks, and the blocks of a part are among them.
abbrev pub IsFitAgain : PacketTry → Again → Type 0
IsFitAgain p (again.Full None) = Unit {0}
IsFitAgain p (again.Full (Some shape)) = HasBlocks (length p.shape.blocks.items) shape
IsFitAgain p (again.Partial partial) =
    FitsPartial partial × All (λ serial. serial < length p.shape.blocks.items) partial.serials.items

-- what a script reads fits, and a further try has a packet that it fits
abbrev pub IsSendable : Option PacketTry → Transmission → Type 0
IsSendable last (said.Call call) = IsFitCall call
IsSendable last (said.Packet p) = FitsPacket p
IsSendable None (said.Again again) = ⊥
IsSendable (Some p) (said.Again again) = FitsPacket p × IsFitAgain p again
IsSendable last (said.ShortData s) = FitsShortData s
IsSendable last (said.Status s) = FitsStatus s
IsSendable last (said.Answer a) = FitsAnswer a
IsSendable last (said.Control csbk) = csbk.code < 64
IsSendable last (said.Burst lone) = IsFitLone lone
