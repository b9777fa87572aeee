-- What five numbers of a run count of the gateway.
use Rattle.dmr_station.specs.StationRules.{Counts}
use Rattle.dmr_repeater.specs.declared.summary.Summary.{Summary}

-- what the gateway did
abbrev pub counts_in : Summary → Counts
counts_in s =
    record { received = s.received; delivered = s.delivered; sent = s.sent; given_up = s.given_up; refused = s.refused }
