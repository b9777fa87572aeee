use Rattle.std.proofs.Common.{Some, sym, subst}
use Rattle.dmr_hearing.specs.Slots.{SentSlot}
use Rattle.dmr_making.proofs.Standing.{at_one}
use Rattle.dmr_making.specs.Controls.{control_slot, lone_control}
use Rattle.dmr_making.specs.Made.{IsMade}
use Rattle.dmr_making.specs.Sends.{Transmitted}
use Rattle.dmr_making.specs.Standing.{HoldsAt}
use Rattle.dmr_making.proofs.sending.lone_slot.Goals as goal

pub returns : goal.returns
returns c = record {
  slot = λ frame place sent p.
      let P : SentSlot → Type 0 = λ slot. IsMade c.args.colour frame slot (Some c.lone_burst.result) in
      subst (λ (x : Transmitted). HoldsAt P x.slots place) (sym p.2)
      (at_one P (control_slot (lone_control c.args.lone.now p.0)) place (c.lone_burst.ensures.burst p.0 p.1));
}
