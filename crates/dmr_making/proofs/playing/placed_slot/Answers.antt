use Rattle.std.proofs.Common.{◌≡◌, ℕ, List, Option, Some, sym, subst}
use Rattle.std.specs.Option.{option_copied}
use Rattle.dmr_hearing.specs.Slots.{SentSlot}
use Rattle.dmr_making.proofs.Standing.{at_map}
use Rattle.dmr_making.proofs.TrySlots.{copied}
use Rattle.dmr_making.specs.Made.{IsMade}
use Rattle.dmr_making.specs.Playing.{IsMadeIn, SlotFrames, packet_in, transmit_in}
use Rattle.dmr_making.specs.Senders.{colour_of}
use Rattle.dmr_making.specs.Sends.{SendsSaid}
use Rattle.dmr_making.specs.Standing.{HoldsAt}
use Rattle.dmr_script.specs.declared.packet.PacketTry.{PacketTry}
use Rattle.dmr_script.specs.declared.statement.Transmit.{Transmit}
use Rattle.dmr_making.proofs.playing.placed_slot.Goals as goal

pub returns : goal.returns
returns c = record {
  slot = λ line p.
      let own : ℕ = c.args.own in
      let frame : ℕ = c.args.frame in
      let made : Option (List ℕ) = c.slot.result in
      let there : transmit_in c.args.statements.now c.args.placed.statement ≡ Some c.in_ok-transmit.transmit.now =
      copied c.transmit_in.result (transmit_in c.args.statements.now c.args.placed.statement) c.in_ok-transmit.transmit
      c.transmit_in.ensures.value c.in_ok-transmit.was in
      let same : c.in_ok-transmit.transmit.now ≡ p.transmit = cc (there, p.there) in
      let Q : Transmit → Option PacketTry → Type 0 = λ t last. SendsSaid (colour_of own t.sender) last t.transmission p.sent
      → HoldsAt (λ (slot : SentSlot). IsMade (colour_of own t.sender) frame slot made) p.sent.slots c.args.place in
      let here : Q p.transmit (packet_in c.args.statements.now c.args.placed.packet) =
      subst (λ (last : Option PacketTry). Q p.transmit last) c.packet_in-last.ensures.value
      (subst (λ (t : Transmit). Q t (option_copied c.packet_in-last.result)) same (c.slot.ensures.slot p.sent)) in
      subst (λ (l : SlotFrames). HoldsAt (IsMadeIn frame made) l c.args.place) (sym p.is)
      (at_map (IsMadeIn frame made) (λ (slot : SentSlot). (colour_of own p.transmit.sender, slot)) p.sent.slots c.args.place
      (here p.sends));
}
