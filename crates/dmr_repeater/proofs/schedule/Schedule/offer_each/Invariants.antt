-- What is offered so far was due.
use Rattle.std.proofs.Common.{◌≡◌, ◌+◌, ◌-◌, length, false, true}
use Rattle.std.specs.Io.KnownBytes.{IsAtEnd}
use Rattle.dmr_record.specs.Head.{record_limit}
use Rattle.dmr_repeater.specs.Schedule.{OffersDue, waiting}
use Rattle.dmr_repeater.proofs.schedule.Schedule.offer_each.Given as goal

abbrev pub invariant-loop-self : goal.invariant-loop-self
invariant-loop-self g l = record {
  well : g.S.Source.has_failed l.source ≡ false;
  end : l.self.at_end ≡ true → IsAtEnd (g.S.Source.left l.source);
  offers : OffersDue l.frame l.fn.self l.self l.fn.station l.station (g.S.Source.left l.initial.source) (g.S.Source.left l.source);
  counted : l.self.records ≡ l.station.offered + length (waiting l.self);
  frames : l.station.frames ≡ l.fn.station.frames;
  stays : l.fn.self.at_end ≡ true → l.self.at_end ≡ true;
}

abbrev pub decreases-loop-self : goal.decreases-loop-self
decreases-loop-self g l = record_limit + length (waiting l.self) - l.self.records
