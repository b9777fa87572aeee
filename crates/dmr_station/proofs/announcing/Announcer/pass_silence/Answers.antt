use Rattle.std.proofs.Common.{refl}
use Rattle.dmr_station.proofs.Resting.{nothing_announced}
use Rattle.dmr_station.proofs.announcing.Announcer.pass_silence.Goals as goal

pub returns-in-None-clause-announced : goal.returns-in-None-clause-announced
returns-in-None-clause-announced c = (record { slco = 0; body = 0 }, rw c.in-None.is (nothing_announced, refl))
