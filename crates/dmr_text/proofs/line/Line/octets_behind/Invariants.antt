-- The digits so far are those of the octets that went before.
use Rattle.std.proofs.Common.{◌≡◌, ◌+◌, ◌*◌, ◌≤◌, ◌++◌, length}
use Rattle.hex.specs.Hex.{encode_upper}
use Rattle.dmr_text.proofs.line.Line.octets_behind.Given as goal

abbrev pub invariant-loop-rest : goal.invariant-loop-rest
invariant-loop-rest l = record {
  room : length l.self + 2 * length l.rest ≤ 131201;
  digits : l.self ++ encode_upper l.rest ≡ l.initial.self ++ encode_upper l.initial.rest;
}

abbrev pub decreases-loop-rest : goal.decreases-loop-rest
decreases-loop-rest l = length l.rest
