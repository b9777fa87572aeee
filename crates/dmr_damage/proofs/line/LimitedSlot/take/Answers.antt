use Rattle.dmr_damage.proofs.Heard.{fit_moved, heard_moved}
use Rattle.dmr_damage.proofs.line.LimitedSlot.take.Goals as goal

pub invariant_of-self : goal.invariant_of-self
invariant_of-self c =
    rw (c.moved-self-inside.ensures.moved, c.moved-self-inside-2.ensures.moved) (
      c.self.invariant.0,
      c.self.invariant.1,
      heard_moved c.self.inside.colour c.self.inside.slots c.self.inside.heard c.args.slot c.heard_in-heard.result
          c.self.invariant.2
          c.heard_in-heard.ensures.heard,
      fit_moved c.self.inside.heard c.heard_in-heard.result c.self.invariant.3 c.heard_in-heard.ensures.fit,
    )
