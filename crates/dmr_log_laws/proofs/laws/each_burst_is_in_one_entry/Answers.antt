use Rattle.dmr_log_laws.proofs.Agreeing.{each_burst_is_in_one_entry}
use Rattle.dmr_log_laws.proofs.laws.each_burst_is_in_one_entry.Goals as goal

pub returns : goal.returns
returns c = record { law = each_burst_is_in_one_entry c.each_burst_is_in_one.ensures.law }
