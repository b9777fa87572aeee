use Rattle.dmr_station.proofs.Resting.{asked_in_silence}
use Rattle.dmr_station.proofs.decider.Decider.pass_silence.Goals as goal

pub returns-clause-asked : goal.returns-clause-asked
returns-clause-asked c =
    let rests = rw (← c.self.view_is) at c.requires.rests in
    rw (← c.self.view_is) (asked_in_silence _ c.pass_silence.ensures.announced.0 _ rests c.pass_silence.ensures.announced.1)
