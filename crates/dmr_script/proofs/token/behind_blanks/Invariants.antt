-- Blanks alone so far.
use Rattle.std.proofs.Common.{◌≡◌, ◌≤◌, length}
use Rattle.dmr_script.specs.Quiet.{is_quiet}
use Rattle.dmr_script.proofs.token.behind_blanks.Given as goal

abbrev pub invariant-loop-rest : goal.invariant-loop-rest
invariant-loop-rest l = record {
  quiet : is_quiet l.rest ≡ is_quiet l.octets;
  within : length l.rest ≤ length l.octets;
}

abbrev pub decreases-loop-rest : goal.decreases-loop-rest
decreases-loop-rest l = length l.rest
