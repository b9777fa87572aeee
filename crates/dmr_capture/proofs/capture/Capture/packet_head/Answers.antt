use Rattle.std.proofs.Common.{rules, inl, inr, sym, subst, ap, ◌∙◌}
use Rattle.dmr_capture.specs.Blocks.{NamesNoInterface, BeginsPacket, HasType, IsNumbered}
use Rattle.dmr_capture.specs.Orders.{ordered_number}
use Rattle.dmr_capture.specs.declared.interface.Interface.{Interface}
use Rattle.dmr_capture.proofs.capture.Capture.packet_head.Goals as goal

pub returns-in_default-clause-fault : goal.returns-in_default-clause-fault
returns-in_default-clause-fault c =
    let typed : HasType c.args.self.now.order c.args.head.now 6 c.u32_at-len.result =
    record { other = c.requires.typed; says = sym c.requires.number; long = search rules } in
    let begins : BeginsPacket c.args.self.now c.args.head.now c.u32_at-len.result =
    record { whole = c.requires.whole; typed = typed; fit = search rules } in
    let number = c.u32_at.ensures.number ∙ ap (λ s. ordered_number s.order 4 8 c.args.head.now) c.self.view_is in
    let names : NamesNoInterface c.args.self.now c.args.head.now =
    record {
      len = c.u32_at-len.result;
      begins = begins;
      none = subst (λ n. (interface : Interface) → ¬ IsNumbered c.args.self.now.interfaces n interface) number
          c.in_default.ensures.none;
    } in
    (search rules, inr (inr (inr (inr (inl names)))))
