use Rattle.std.proofs.Common.{ℕ, ◌≤◌, true, length, replicate, Option, Some, None, sym, subst, ◌∙◌, arith}
use Rattle.std.proofs.lemmas.List.{length-replicate}
use Rattle.dmr_making.proofs.TryFits.{one_full_try, full_try_fits}
use Rattle.dmr_making.specs.Sends.{SendsTry, SendsAgain}
use Rattle.dmr_making.specs.Senders.{IsFitAgain}
use Rattle.dmr_making.specs.declared.tries.SentTry.{SentTry}
use Rattle.dmr_script.specs.Fits.{HasBlocks}
use Rattle.dmr_script.specs.declared.packet.Again.TheVariants as again
use Rattle.dmr_script.specs.declared.shape.PacketShape.{PacketShape}
use Rattle.dmr_making.proofs.sending.full_slot.Goals as goal

pub unshaped_slot-requires-clause-count : goal.unshaped_slot-requires-clause-count
unshaped_slot-requires-clause-count c =
    let most : length c.args.packet.now.shape.blocks.items ≤ 127 = c.requires.packet.shape.most in
    let count = c.block_count-count.ensures.value in
    omega (arith, most, count)

pub unshaped_slot-requires-clause-fit : goal.unshaped_slot-requires-clause-fit
unshaped_slot-requires-clause-fit c =
    let p = c.args.packet.now in
    let count = c.block_count-count.ensures.value in
    let long = length-replicate c.block_count-count.result true in
    let most : length p.shape.blocks.items ≤ 127 = c.requires.packet.shape.most in
    full_try_fits p c.full_try.result 0 (replicate c.block_count-count.result true) c.requires.packet c.full_try.ensures.is
    (long ∙ count) (omega (arith, long, count, most))

pub shaped_slot-requires-clause-fit : goal.shaped_slot-requires-clause-fit
shaped_slot-requires-clause-fit c =
    let p = c.args.packet.now in
    let fit : HasBlocks (length p.shape.blocks.items) c.in-Some.shape =
    subst (λ (s : Option PacketShape). IsFitAgain p (again.Full s)) c.in-Some.is c.requires.fit in
    full_try_fits p c.full_try-in-Some.result c.in-Some.shape.preambles c.in-Some.shape.blocks.items c.requires.packet
    c.full_try-in-Some.ensures.is fit.count fit.counted

pub returns-in-None : goal.returns-in-None
returns-in-None c = record {
  slot = λ frame sent p.
      let packet = c.args.packet.now in
      let sends : SendsAgain packet (again.Full None) sent =
      subst (λ (s : Option PacketShape). SendsAgain packet (again.Full s) sent) c.in-None.is p in
      c.unshaped_slot.ensures.slot frame sent
      (subst (λ (n : ℕ). SendsTry c.full_try.result 0 (replicate n true) sent) (sym c.block_count-count.ensures.value)
      (subst (λ (t : SentTry). SendsTry t 0 (replicate (length packet.shape.blocks.items) true) sent)
      (one_full_try packet sends.0 c.full_try.result sends.1 c.full_try.ensures.is) sends.2));
}

pub returns-in-Some : goal.returns-in-Some
returns-in-Some c = record {
  slot = λ frame sent p.
      let packet = c.args.packet.now in
      let sends : SendsAgain packet (again.Full (Some c.in-Some.shape)) sent =
      subst (λ (s : Option PacketShape). SendsAgain packet (again.Full s) sent) c.in-Some.is p in
      c.shaped_slot.ensures.slot frame sent
      (subst (λ (t : SentTry). SendsTry t c.in-Some.shape.preambles c.in-Some.shape.blocks.items sent)
      (one_full_try packet sends.0 c.full_try-in-Some.result sends.1 c.full_try-in-Some.ensures.is) sends.2);
}
