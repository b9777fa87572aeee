use Rattle.std.proofs.Common.{rules, refl, IfSome}
use Rattle.dmr_burst.specs.Burst.{IsBurst}
use Rattle.dmr_slot.specs.Bursts.{IsFitSlotOut}
use Rattle.dmr_station.proofs.Pairs.{both_hold, both_set}
use Rattle.dmr_station.proofs.decider.Decider.pass.Goals as goal

pub returns-clause-sent : goal.returns-clause-sent
returns-clause-sent c =
    let outs = both_set c.args.room.now.outs c.push.new.out c.push-2.new.out (search rules) in
    let gate = both_set c.args.room.now.gate c.next_burst.new.burst c.next_burst-2.new.burst (search rules) in
    rw (← c.self.view_is) (
      _,
      record {
        first = c.push.new.out;
        second = c.push-2.new.out;
        first_line = c.push.ensures.pushed;
        second_line = c.push-2.ensures.pushed;
        between = c.next_burst.new.gateway;
        first_gate = c.next_burst.new.burst;
        second_gate = c.next_burst-2.new.burst;
        first_asked = rw outs at c.next_burst.ensures.asked;
        second_asked = rw outs at c.next_burst-2.ensures.asked;
        bursts = _;
        sent = rw (outs, gate) at c.bursts-bursts.ensures.sent;
        channel = rw (outs, gate) at c.go_on.ensures.memory;
        message = c.next-message.result;
        announces = rw outs at c.next-message.ensures.announced;
        marks = refl;
      },
      rw outs at c.encode_frame.ensures.sent,
      rw outs at (c.count_repeated-repeated.ensures.value c.next-message.result),
    )

pub encode_frame-requires-clause-fit : goal.encode_frame-requires-clause-fit
encode_frame-requires-clause-fit c = c.bursts-bursts.ensures.fit
    (both_hold IsFitSlotOut c.args.room.now.outs c.push.new.out c.push-2.new.out (search rules) c.push.ensures.fit
    c.push-2.ensures.fit)
    (both_hold (λ burst. IfSome burst IsBurst) c.args.room.now.gate c.next_burst.new.burst c.next_burst-2.new.burst (search rules)
    c.next_burst.ensures.fit c.next_burst-2.ensures.fit)
