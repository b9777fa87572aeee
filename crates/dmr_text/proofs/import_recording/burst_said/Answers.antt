use Rattle.dmr_text.proofs.import_recording.burst_said.Goals as goal

pub returns-in-Uplink-clause-none : goal.returns-in-Uplink-clause-none
returns-in-Uplink-clause-none c = rw c.in-Uplink.is c.uplink_burst_said.ensures.none

pub returns-in-Downlink-clause-none : goal.returns-in-Downlink-clause-none
returns-in-Downlink-clause-none c = rw c.in-Downlink.is c.downlink_burst_said.ensures.none
