use Rattle.std.proofs.Common.{ap}
use Rattle.dmr_record.specs.Uplink.{uplink_file}
use Rattle.dmr_damage.proofs.AtRate.{frames_same}
use Rattle.dmr_damage.proofs.laws.nothing_damaged_is_the_same.Goals as goal

pub returns : goal.returns
returns c = record { law = λ frames outs a b all. ap uplink_file (frames_same frames outs a b all) }
