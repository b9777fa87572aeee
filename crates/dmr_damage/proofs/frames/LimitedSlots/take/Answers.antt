use Rattle.std.proofs.Common.{◌+◌, refl, arith}
use Rattle.dmr_damage.proofs.Behind.{lines_wait, lines_decide}
use Rattle.dmr_damage.proofs.frames.LimitedSlots.take.Goals as goal

pub returns-then-self-lt-AHEAD-clause-waits : goal.returns-then-self-lt-AHEAD-clause-waits
returns-then-self-lt-AHEAD-clause-waits c colour frames outs is =
    lines_wait colour c.args.self.now (record {
      first = c.take.new.self;
      second = c.take-2.new.self;
      waiting = c.args.self.now.waiting + 1;
    }) frames outs c.args.frame.now (omega (arith, c.if-self-lt-AHEAD.true)) c.told-frame refl
    c.take.ensures.taken c.take-2.ensures.taken is

pub returns-clause-decided : goal.returns-clause-decided
returns-clause-decided c colour frames outs is =
    lines_decide colour c.args.self.now (record {
      first = c.decide.new.self;
      second = c.decide-2.new.self;
      waiting = c.args.self.now.waiting;
    }) c.take.new.self c.take-2.new.self frames outs c.args.frame.now c.decide.result c.decide-2.result c.oldest.result
    c.oldest-2.result
    (omega (arith, c.if-self-lt-AHEAD.false)) c.told-frame refl
    (record {
      takes = c.take.ensures.taken;
      decides = c.decide.ensures.decided;
      colour = c.decide.ensures.colour;
      slots = c.decide.ensures.slots;
    })
    (record {
      takes = c.take-2.ensures.taken;
      decides = c.decide-2.ensures.decided;
      colour = c.decide-2.ensures.colour;
      slots = c.decide-2.ensures.slots;
    })
    c.oldest.ensures.oldest c.oldest-2.ensures.oldest is
