-- So many silent frames were taken and told of.
use Rattle.std.proofs.Common.{◌≡◌, ◌+◌, List, None, false, replicate}
use Rattle.dmr_listing.specs.ListingRules.{GivenInTurn}
use Rattle.dmr_log.specs.RecordingLogs.{Logs}
use Rattle.dmr_log.specs.declared.log.FrameTold.{FrameTold}
use Rattle.dmr_log.proofs.recording_log.tell_rest.Given as goal

abbrev pub invariant-loop-past : goal.invariant-loop-past
invariant-loop-past g l = record {
  lines : g.L.Taker.has_failed l.lines ≡ false;
  kept : g.L.Taker.kept l.lines ≡ g.L.Taker.kept l.initial.lines;
  taken : l.log.taken ≡ l.initial.log.taken + l._past;
  so_far : (told : List FrameTold) × Logs l.initial.log (replicate l._past (None, None)) told l.log
      × GivenInTurn g.L.Taker.Takes l.initial.lines told l.lines;
}
