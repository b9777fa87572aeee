use Rattle.std.proofs.Common.{◌++◌, Some}
use Rattle.dmr_record.specs.Downlink.{sent_octets, ShowsDownlinkFault}
use Rattle.dmr_record.proofs.DownlinkReading.{sent_at, sent_at-spelled, sent_at-shown, slots_no_fault}
use Rattle.dmr_record.proofs.Readings.{no_fault_read, one_fault_read}
use Rattle.dmr_record.proofs.laws.downlink_faults.Goals as goal

pub returns : goal.returns
returns c = record {
  none = λ limit before slot rest e is below has.
      no_fault_read (ShowsDownlinkFault limit before) (sent_at limit before) (sent_at-shown limit before) (sent_octets slot ++
      rest) (Some (slot, rest)) e
      (sent_at-spelled limit before slot rest below is) has;
  one = λ limit before. one_fault_read (ShowsDownlinkFault limit before) (sent_at limit before) (sent_at-shown limit before);
  all = slots_no_fault;
}
