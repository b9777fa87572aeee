use Rattle.dmr_dmrd.proofs.PlacedBursts.{stands_where_placed}
use Rattle.dmr_dmrd.proofs.laws.bursts_stand_where_their_packets_are_placed.Goals as goal

pub returns : goal.returns
returns c = record { stands = stands_where_placed }
