use Rattle.std.proofs.Common.{refl}
use Rattle.dmr_record.specs.Downlink.{downlink_octets}
use Rattle.dmr_repeater.proofs.Fronts.{torn_front}
use Rattle.dmr_repeater.proofs.writing.send.Goals as goal

pub returns-in-Err-clause-leaves : goal.returns-in-Err-clause-leaves
returns-in-Err-clause-leaves g c = (
  c.in-Err.ensures.fault,
  record {
    records = c.exchange_into.new.records;
    next = c.exchange_into.new.self;
    exchanged = c.exchange_into.ensures.exchanged;
    written = (torn_front (downlink_octets c.exchange_into.new.records) _ _ c.in-Err.ensures.torn, refl);
  },
)

pub returns-in-Err-write_all_received-clause-leaves : goal.returns-in-Err-write_all_received-clause-leaves
returns-in-Err-write_all_received-clause-leaves g c = (
  c.in-Err-write_all_received.ensures.fault,
  record {
    records = c.exchange_into.new.records;
    next = c.exchange_into.new.self;
    exchanged = c.exchange_into.ensures.exchanged;
    written = (c.in_default.ensures.slots, rw c.counts-number.ensures.frames at c.in-Err-write_all_received.ensures.torn);
  },
)
