use Rattle.std.proofs.Common.{rules}
use Rattle.dmr_station.proofs.Pairs.{both_set}
use Rattle.dmr_station.proofs.station.Station.exchange_into.Goals as goal

pub returns-then-rests_in : goal.returns-then-rests_in
returns-then-rests_in c =
    let frame = c.rests_in.ensures.silent c.if-rests_in.true in
    record {
      exchanged = rw frame
          (rw (both_set c.args.records.now c.clear.new.place c.clear-then-rests_in.new.place (search rules))
          (rw (c.clear.ensures.gone, c.clear-then-rests_in.ensures.gone) c.pass_silent_frame.ensures.exchanged));
    }
