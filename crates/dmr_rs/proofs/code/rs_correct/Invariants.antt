use Rattle.dmr_rs.proofs.Correcting.{IsSearched}
use Rattle.dmr_rs.proofs.code.rs_correct.Given as goal

abbrev pub invariant-loop-place : goal.invariant-loop-place
invariant-loop-place l = IsSearched l.octets l.place l.first l.second l.third
