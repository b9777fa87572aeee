use Rattle.std.proofs.Common.{subst}
use Rattle.dmr_recording.specs.declared.place.Place.{Place}
use Rattle.dmr_dmrd_export.specs.Streams.{IsStreamed}
use Rattle.dmr_dmrd_export.proofs.streams.BothStreams.take.Goals as goal

pub returns-clause-streamed : goal.returns-clause-streamed
returns-clause-streamed c =
    let before = c.args.self.now in
    record {
      stream = c.take-packet.new.self;
      names = c.take-packet.new.names;
      goes_on = subst (λ (p : Place). IsStreamed before.next before.names p c.args.burst.now c.args.carried c.take-packet.result
          c.take-packet.new.self c.take-packet.new.names) c.of_slot-place.ensures.value c.take-packet.ensures.goes_on;
      turn = c.turn.ensures.turn;
    }
