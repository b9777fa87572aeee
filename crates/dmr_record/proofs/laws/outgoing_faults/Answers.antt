use Rattle.std.proofs.Common.{◌++◌, Some}
use Rattle.dmr_record.specs.Outgoing.{sending_octets, ShowsOutgoingFault}
use Rattle.dmr_record.proofs.NoFault.{sendings_no_fault}
use Rattle.dmr_record.proofs.OutgoingReading.{sending_at, sending_at-spelled, sending_at-shown}
use Rattle.dmr_record.proofs.Readings.{no_fault_read, one_fault_read}
use Rattle.dmr_record.proofs.laws.outgoing_faults.Goals as goal

pub returns : goal.returns
returns c = record {
  none = λ limit before last s rest e is below order has.
      no_fault_read (ShowsOutgoingFault limit before last) (sending_at limit before last) (sending_at-shown limit before last)
      (sending_octets s ++ rest)
      (Some (s, rest)) e (sending_at-spelled limit before last s rest below order is) has;
  one = λ limit before last. one_fault_read (ShowsOutgoingFault limit before last) (sending_at limit before last) (sending_at-shown
      limit before last);
  all = sendings_no_fault;
}
