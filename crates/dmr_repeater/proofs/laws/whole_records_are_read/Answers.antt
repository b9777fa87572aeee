use Rattle.dmr_repeater.proofs.Leaving.{whole_at_uplink_fault, whole_at_write_fault, whole_where_untouched}
use Rattle.dmr_repeater.proofs.laws.whole_records_are_read.Goals as goal

pub returns : goal.returns
returns c = record { uplink_fault = whole_at_uplink_fault; write_fault = whole_at_write_fault; no_room = whole_where_untouched }
