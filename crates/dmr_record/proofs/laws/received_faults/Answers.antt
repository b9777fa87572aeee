use Rattle.std.proofs.Common.{◌++◌, Some}
use Rattle.dmr_record.specs.Received.{receipt_octets, ShowsReceivedFault}
use Rattle.dmr_record.proofs.Readings.{no_fault_read, one_fault_read}
use Rattle.dmr_record.proofs.ReceivedReading.{receipt_at, receipt_at-spelled, receipt_at-shown, receipts_no_fault}
use Rattle.dmr_record.proofs.laws.received_faults.Goals as goal

pub returns : goal.returns
returns c = record {
  none = λ limit before last r rest e is below order has.
      no_fault_read (ShowsReceivedFault limit before last) (receipt_at limit before last) (receipt_at-shown limit before last)
      (receipt_octets r ++ rest)
      (Some (r, rest)) e (receipt_at-spelled limit before last r rest below is.1 order is.0) has;
  one = λ limit before last. one_fault_read (ShowsReceivedFault limit before last) (receipt_at limit before last)
      (receipt_at-shown limit before last);
  all = receipts_no_fault;
}
