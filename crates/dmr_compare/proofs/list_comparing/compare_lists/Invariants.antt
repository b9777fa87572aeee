-- What was read of the two lists was compared.
use Rattle.std.proofs.Common.{◌≡◌, ◌+◌, ◌≤◌, List, length, false}
use Rattle.dmr_compare.proofs.RecordsBeside.{RecordsBeside}
use Rattle.dmr_compare.specs.ListReading.{kind_behind, records_to_come}
use Rattle.dmr_compare.specs.ListRecords.{ListRecord}
use Rattle.dmr_compare.proofs.list_comparing.compare_lists.Given as goal

abbrev pub invariant-loop-found : goal.invariant-loop-found
invariant-loop-found g l = record {
  first : g.S.Source.has_failed l.first ≡ false;
  second : g.T.Source.has_failed l.second ≡ false;
  sink : g.K.Sink.has_failed l.sink ≡ false;
  first_room : 65535 ≤ length l.first_room;
  second_room : 65535 ≤ length l.second_room;
  one : kind_behind l.one.last ≡ l.fn.list;
  other : kind_behind l.other.last ≡ l.fn.list;
  beside : (firsts : List ListRecord) × (seconds : List ListRecord) × RecordsBeside l.settings l.one l.other l.counts firsts seconds
      (g.S.Source.left l.fn.first) (g.S.Source.left l.first) (g.T.Source.left l.fn.second) (g.T.Source.left l.second)
      (g.K.Sink.held l.fn.sink) (g.K.Sink.held l.sink);
}

abbrev pub decreases-loop-found : goal.decreases-loop-found
decreases-loop-found g l = records_to_come l.one + records_to_come l.other
