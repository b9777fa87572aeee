-- Two readers of lists stand beside each other, record by record.
use Rattle.std.proofs.Common.{◌≡◌, ℕ, ◌<◌, List, [], ◌++◌, Option, Some, None, refl, subst, arith}
use Rattle.std.proofs.Common.{append-nil}
use Rattle.dmr_compare.proofs.Beside.{IsStep, StandBeside, beside_begun, beside_by, beside_next, by_end, found_as_far, has_room}
use Rattle.dmr_compare.proofs.Beside.{put_alone}
use Rattle.dmr_compare.proofs.ListReading.{read_of}
use Rattle.dmr_compare.specs.ListComparing.{AreListsCompared, IsFirstListAtFault, IsSecondListAtFault}
use Rattle.dmr_compare.specs.ListReading.{AreRecordsRead, AreRecordsReadUpToFault, HasReadRecords, kind_behind}
use Rattle.dmr_compare.specs.ListRecords.{ListRecord, PutsRecords, is_same_record, list_limit}
use Rattle.dmr_compare.specs.Taking.{HasRoom, PutsFound, counted_found, found_next}
use Rattle.dmr_compare.specs.declared.counts.PlaceCounts.{PlaceCounts}
use Rattle.dmr_compare.specs.declared.list_reader.ListReader.{ListReader}
use Rattle.dmr_compare.specs.declared.list_record.ListKind.{ListKind}
use Rattle.dmr_compare.specs.declared.list_record.ListKind.TheVariants as kind
use Rattle.dmr_compare.specs.declared.settings.CompareSettings.{CompareSettings}
use Rattle.dmr_recording.specs.declared.fault_line.FaultLine.{FaultLine}

-- Two readers of lists have read records, and these were compared as far as both have them.
pub record RecordsBeside (settings : CompareSettings) (first second : ListReader) (counts : PlaceCounts)
    (firsts seconds : List ListRecord) (first_old first_new second_old second_new held_old held_new : Option (List ℕ))
    : Type 0 where
  pub first_read : HasReadRecords first firsts first_old first_new
  pub second_read : HasReadRecords second seconds second_old second_new
  pub beside : StandBeside is_same_record (PutsRecords settings) 0 0 first.is_over second.is_over counts firsts seconds
      held_old held_new

-- what a reader of a list has read
read_by : (reader : ListReader) (list : ListKind) (records : List ListRecord) (a b : Option (List ℕ))
    → kind_behind reader.last ≡ list → HasReadRecords reader records a b → AreRecordsRead list records a b
read_by reader list records a b e h = read_of reader.last list records a b e h.read

-- what it has read up to a fault
fault_by : (reader : ListReader) (list : ListKind) (records : List ListRecord) (fault : FaultLine) (a b : Option (List ℕ))
    → kind_behind reader.last ≡ list → AreRecordsReadUpToFault (kind_behind reader.last) records fault a b
    → AreRecordsReadUpToFault list records fault a b
fault_by reader list records fault a b e h = subst (λ (k : ListKind). AreRecordsReadUpToFault k records fault a b) e h

-- two readers that have read nothing stand beside each other
pub records_begun : (settings : CompareSettings) (one other : ListReader) (counts : PlaceCounts) (a c h : Option (List ℕ))
    → HasReadRecords one [] a a → HasReadRecords other [] c c
    → counts.same ≡ 0 → counts.different ≡ 0 → counts.only_in_first ≡ 0 → counts.only_in_second ≡ 0
    → RecordsBeside settings one other counts [] [] a a c c h h
records_begun settings one other counts a c h read read' same different first second = record {
  first_read = read;
  second_read = read';
  beside = beside_begun is_same_record (PutsRecords settings) 0 0 one.is_over other.is_over counts [] [] h (omega arith)
      (omega arith) (λ going. refl) (λ going. refl) same different first second;
}

-- and do so behind a step of both, by whatever counts these are
pub records_next : (settings : CompareSettings) (one one' other other' : ListReader) (counts counts' : PlaceCounts)
    (firsts seconds : List ListRecord) (first second : Option ListRecord) (a b b' c d d' h i i' : Option (List ℕ))
    → RecordsBeside settings one other counts firsts seconds a b c d h i
    → HasReadRecords one' (firsts ++ found_next first) a b' → HasReadRecords other' (seconds ++ found_next second) c d'
    → IsStep one.is_over one'.is_over first → IsStep other.is_over other'.is_over second
    → PutsFound (PutsRecords settings) first second i i' → counts' ≡ counted_found is_same_record first second counts
    → RecordsBeside settings one' other' counts' (firsts ++ found_next first) (seconds ++ found_next second) a b' c d' h i'
records_next settings one one' other other' counts counts' firsts seconds first second a b b' c d d' h i i' stood read read' step
    step' put counted = record {
      first_read = read;
      second_read = read';
      beside = beside_by is_same_record (PutsRecords settings) 0 0 one'.is_over other'.is_over
          (counted_found is_same_record first second counts) counts' (firsts ++ found_next first) (seconds ++ found_next second) h
          i' counted
          (beside_next is_same_record (PutsRecords settings) 0 0 one.is_over one'.is_over other.is_over other'.is_over counts firsts
          seconds first second h i i' stood.beside step step' put);
    }

-- the first is at fault behind records that were compared
pub first_list_at_fault : (settings : CompareSettings) (one other : ListReader) (list : ListKind) (counts : PlaceCounts)
    (firsts seconds : List ListRecord) (fault : FaultLine) (a b b' c d h i : Option (List ℕ))
    → RecordsBeside settings one other counts firsts seconds a b c d h i → kind_behind one.last ≡ list
    → kind_behind other.last ≡ list → AreRecordsReadUpToFault (kind_behind one.last) firsts fault a b'
    → IsFirstListAtFault settings list fault a b' c d h i
first_list_at_fault settings one other list counts firsts seconds fault a b b' c d h i stood e e' read = record {
  firsts = firsts;
  seconds = seconds;
  first_read = fault_by one list firsts fault a b' e read;
  second_read = read_by other list seconds c d e' stood.second_read;
  beside = by_end other.is_over stood.beside.second_beside stood.second_read.over;
  put = stood.beside.put;
}

-- the second is at fault behind records that were compared, and perhaps one more of the first
pub second_list_at_fault : (settings : CompareSettings) (one one' other : ListReader) (list : ListKind) (counts : PlaceCounts)
    (firsts seconds : List ListRecord) (found : Option ListRecord) (fault : FaultLine) (a b b' c d d' h i : Option (List ℕ))
    → RecordsBeside settings one other counts firsts seconds a b c d h i → kind_behind one'.last ≡ list
    → kind_behind other.last ≡ list → HasReadRecords one' (firsts ++ found_next found) a b'
    → IsStep one.is_over one'.is_over found → AreRecordsReadUpToFault (kind_behind other.last) seconds fault c d'
    → IsSecondListAtFault settings list fault a b' c d' h i
second_list_at_fault settings one one' other list counts firsts seconds found fault a b b' c d d' h i stood e e' read step read' =
    record {
      firsts = firsts ++ found_next found;
      seconds = seconds;
      first_read = read_by one' list (firsts ++ found_next found) a b' e read;
      second_read = fault_by other list seconds fault c d' e' read';
      beside = found_as_far is_same_record (PutsRecords settings) 0 0 one.is_over one'.is_over other.is_over counts firsts seconds
          found h i stood.beside step read.over;
      put = put_alone is_same_record (PutsRecords settings) 0 0 one.is_over one'.is_over other.is_over counts firsts seconds found h
          i stood.beside step;
    }

-- both are read to their ends
pub lists_compared : (settings : CompareSettings) (one one' other other' : ListReader) (list : ListKind)
    (counts : PlaceCounts) (firsts seconds : List ListRecord) (first second : Option ListRecord)
    (a b b' c d d' h i : Option (List ℕ))
    → RecordsBeside settings one other counts firsts seconds a b c d h i → kind_behind one'.last ≡ list
    → kind_behind other'.last ≡ list → HasReadRecords one' (firsts ++ found_next first) a b'
    → HasReadRecords other' (seconds ++ found_next second) c d' → IsStep one.is_over one'.is_over first
    → IsStep other.is_over other'.is_over second → first ≡ None → second ≡ None
    → AreListsCompared settings list firsts seconds counts a b' c d' h i
lists_compared settings one one' other other' list counts firsts seconds None None a b b' c d d' h i stood e e' read read' step
    step' none none' = record {
      first_read = subst (λ (l : List ListRecord). AreRecordsRead list l a b') (append-nil firsts)
          (read_by one' list (firsts ++ []) a b' e read);
      second_read = subst (λ (l : List ListRecord). AreRecordsRead list l c d') (append-nil seconds)
          (read_by other' list (seconds ++ []) c d' e' read');
      first_end = read.over step.none;
      second_end = read'.over step'.none;
      counted = stood.beside.counted;
      put = stood.beside.put;
    }
lists_compared settings one one' other other' list counts firsts seconds (Some x) second a b b' c d d' h i stood e e' read read'
    step step' none none' = absurd (grind (arith, none))
lists_compared settings one one' other other' list counts firsts seconds None (Some y) a b b' c d d' h i stood e e' read read' step
    step' none none' = absurd (grind (arith, none'))

-- a list has fewer records than can be counted
few_records : (list : ListKind) → list_limit list < 4294967295
few_records kind.Outgoing = omega arith
few_records kind.Received = omega arith

-- there is room for one more of each kind
pub records_room : (settings : CompareSettings) (one other : ListReader) (counts : PlaceCounts) (firsts seconds : List ListRecord)
    (a b c d h i : Option (List ℕ)) → RecordsBeside settings one other counts firsts seconds a b c d h i → HasRoom counts
records_room settings one other counts firsts seconds a b c d h i stood =
    let few = stood.first_read.few in
    let few' = stood.second_read.few in
    let most = few_records (kind_behind one.last) in
    let most' = few_records (kind_behind other.last) in
    let many = stood.first_read.count in
    let many' = stood.second_read.count in
    has_room is_same_record (PutsRecords settings) 0 0 one.is_over other.is_over counts firsts seconds h i stood.beside
    (omega (arith, few, most, many)) (omega (arith, few', most', many'))
