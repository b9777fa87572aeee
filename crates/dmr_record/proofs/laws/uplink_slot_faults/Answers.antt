use Rattle.dmr_record.proofs.UplinkLemmas.{slot_in_frame}
use Rattle.dmr_record.proofs.laws.uplink_slot_faults.Goals as goal

pub returns : goal.returns
returns c = record { frame = slot_in_frame }
