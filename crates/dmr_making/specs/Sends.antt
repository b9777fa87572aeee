-- What the transmissions of a script send, and which transmissions they are in a channel.
use Rattle.std.specs.Prelude.{◌≡◌, ℕ, Bool, true, List, [], ◌∷◌, length, replicate, Option, Some, None}
use Rattle.dmr_hearing.specs.Slots.{SentSlot}
use Rattle.dmr_making.specs.Calls.{CallForms, AreFormsOf, call_of, call_slots}
use Rattle.dmr_making.specs.Controls.{IsLoneInformation, control_slot, csbk_control, lone_control}
use Rattle.dmr_making.specs.Information.{IsCsbkInformation}
use Rattle.dmr_making.specs.Packets.{IsFullTry, IsPartialTry, IsShortDataTry, IsAnswerOf, status_try}
use Rattle.dmr_making.specs.Tries.{TryForms, AreTryForms, transmission_of_try, try_slots}
use Rattle.dmr_making.specs.declared.tries.SentTry.{SentTry}
use Rattle.dmr_script.specs.declared.packet.Again.{Again}
use Rattle.dmr_script.specs.declared.packet.Again.TheVariants as again
use Rattle.dmr_script.specs.declared.packet.PacketTry.{PacketTry}
use Rattle.dmr_script.specs.declared.statement.Transmission.{Transmission as Said}
use Rattle.dmr_script.specs.declared.statement.Transmission.TheVariants as said
use Rattle.dmr_csbk.specs.declared.block.Csbk.{Csbk}
use Rattle.dmr_script.specs.declared.call.Call.{Call}
use Rattle.dmr_script.specs.declared.control.LoneBurst.{LoneBurst}
use Rattle.dmr_script.specs.declared.packet.Answer.{Answer}
use Rattle.dmr_script.specs.declared.packet.ShortDataTry.{ShortDataTry}
use Rattle.dmr_voice.specs.CallMeaning.{Transmission, Control, Controls}

-- What is sent: a transmission of dmr_voice, and what each of its slots sends. A transmission says no more of some slots than that
-- a burst is there.
pub record Transmitted : Type 0 where
  pub transmission : Transmission
  pub slots : List SentSlot

-- This is sent of a try, with so many preambles and these blocks.
pub record SendsTry (t : SentTry) (preambles : ℕ) (presence : List Bool) (sent : Transmitted) : Type 0 where
  pub forms : TryForms
  pub forms_are : AreTryForms t preambles presence forms
  pub is : sent ≡ record {
    transmission = transmission_of_try t preambles presence forms;
    slots = try_slots t preambles presence forms;
  }

-- This is sent of a call, with this colour code.
pub record SendsCall (colour : ℕ) (call : Call) (sent : Transmitted) : Type 0 where
  pub forms : CallForms
  pub forms_are : AreFormsOf call forms
  pub is : sent ≡ record { transmission = call_of call forms; slots = call_slots colour call forms }

-- a data burst that stands by itself
abbrev pub one_burst : Control → Transmitted
one_burst control = record { transmission = Controls (control ∷ []); slots = control_slot control ∷ [] }

-- This is sent of a further try of a packet.
abbrev pub SendsAgain : PacketTry → Again → Transmitted → Type 0
SendsAgain p (again.Full None) sent =
    (t : SentTry) × IsFullTry p t × SendsTry t 0 (replicate (length p.shape.blocks.items) true) sent
SendsAgain p (again.Full (Some shape)) sent = (t : SentTry) × IsFullTry p t × SendsTry t shape.preambles shape.blocks.items sent
SendsAgain p (again.Partial partial) sent =
    (t : SentTry) × IsPartialTry p partial t × SendsTry t partial.shape.preambles partial.shape.blocks.items sent

-- This is sent of a full try of a packet, of short data, of an answer, of a control signalling block, and of a data burst by
-- itself.
abbrev pub SendsPacket : PacketTry → Transmitted → Type 0
SendsPacket p sent = (t : SentTry) × IsFullTry p t × SendsTry t p.shape.preambles p.shape.blocks.items sent

abbrev pub SendsShortData : ShortDataTry → Transmitted → Type 0
SendsShortData s sent = (t : SentTry) × IsShortDataTry s t × SendsTry t s.shape.preambles s.shape.blocks.items sent

abbrev pub SendsAnswer : Answer → Transmitted → Type 0
SendsAnswer a sent = (t : SentTry) × IsAnswerOf a a.kind t × SendsTry t a.shape.preambles a.shape.blocks.items sent

abbrev pub SendsControl : Csbk → Transmitted → Type 0
SendsControl csbk sent =
    (information : List Bool) × IsCsbkInformation csbk information × (sent ≡ one_burst (csbk_control information))

abbrev pub SendsLone : LoneBurst → Transmitted → Type 0
SendsLone lone sent =
    (information : List Bool) × IsLoneInformation lone information × (sent ≡ one_burst (lone_control lone information))

-- This is sent with this colour code of a transmission of a script, where this is the last confirmed packet in front of it.
abbrev pub SendsSaid : (colour : ℕ) → Option PacketTry → Said → Transmitted → Type 0
SendsSaid colour last (said.Call call) sent = SendsCall colour call sent
SendsSaid colour last (said.Packet p) sent = SendsPacket p sent
SendsSaid colour None (said.Again again) sent = ⊥
SendsSaid colour (Some p) (said.Again again) sent = SendsAgain p again sent
SendsSaid colour last (said.ShortData s) sent = SendsShortData s sent
SendsSaid colour last (said.Status s) sent = SendsTry (status_try s) s.shape.preambles s.shape.blocks.items sent
SendsSaid colour last (said.Answer a) sent = SendsAnswer a sent
SendsSaid colour last (said.Control csbk) sent = SendsControl csbk sent
SendsSaid colour last (said.Burst lone) sent = SendsLone lone sent
