use Rattle.dmr_station.proofs.Encodings.{one_encoding}
use Rattle.dmr_station.proofs.laws.one_encoding.Goals as goal

pub returns : goal.returns
returns c = record { law = one_encoding }
