use Rattle.std.proofs.Common.{◌++◌, Some}
use Rattle.dmr_record.specs.Uplink.{frame_octets, ShowsUplinkFault}
use Rattle.dmr_record.proofs.NoFault.{frames_no_fault}
use Rattle.dmr_record.proofs.Readings.{no_fault_read, one_fault_read}
use Rattle.dmr_record.proofs.UplinkReading.{frame_at, frame_at-spelled, frame_at-shown}
use Rattle.dmr_record.proofs.laws.uplink_faults.Goals as goal

pub returns : goal.returns
returns c = record {
  none = λ limit before frame rest e is below has.
      no_fault_read (ShowsUplinkFault limit before) (frame_at limit before) (frame_at-shown limit before) (frame_octets frame
      ++ rest)
      (Some (frame, rest)) e
      (frame_at-spelled limit before frame rest below is) has;
  one = λ limit before. one_fault_read (ShowsUplinkFault limit before) (frame_at limit before) (frame_at-shown limit before);
  all = frames_no_fault;
}
