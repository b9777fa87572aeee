use Rattle.dmr_station.proofs.Resting.{exchanged_in_silence}
use Rattle.dmr_station.proofs.station.Station.pass_silent_frame.Goals as goal

pub returns-clause-exchanged : goal.returns-clause-exchanged
returns-clause-exchanged c =
    rw (← c.self.view_is)
    (exchanged_in_silence _ c.pass_silence.new.self c.pass_silence.ensures.rests c.pass_silence.ensures.asked)
