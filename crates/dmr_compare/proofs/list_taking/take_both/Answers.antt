use Rattle.std.proofs.Common.{◌≡◌, ℕ, List, true, false, take, subst}
use Rattle.dmr_compare.proofs.Printed.{on_ok, put_different, put_quiet, put_same}
use Rattle.dmr_compare.specs.ListReading.{length_of, record_in, record_with}
use Rattle.dmr_compare.specs.ListRecords.{ListRecord, ending_of_records, is_same_record, told_of_records}
use Rattle.dmr_compare.specs.declared.list_record.RecordHead.{RecordHead}
use Rattle.dmr_compare.proofs.list_taking.take_both.Goals as goal

-- what holds of two records whose octets are cut to their lengths holds of those in the rooms
of_rooms : (P : ListRecord → ListRecord → Type 0) (x y : RecordHead) (xs ys : List ℕ) (m n : ℕ) → m ≡ length_of x
    → n ≡ length_of y → P (record_with x (take m xs)) (record_with y (take n ys)) → P (record_in x xs) (record_in y ys)
of_rooms P x y xs ys m n e e' p =
    subst (λ k. P (record_with x (take (length_of x) xs)) (record_with y (take k ys))) e'
    (subst (λ k. P (record_with x (take k xs)) (record_with y (take n ys))) e p)

pub returns-in-None-clause-lines : goal.returns-in-None-clause-lines
returns-in-None-clause-lines g c =
    let first = record_in c.args.first c.args.first_room.now in
    let second = record_in c.args.second c.args.second_room.now in
    put_same (is_same_record first second) c.args.settings.now.is_quiet (told_of_records first second) _
    (of_rooms (λ x y. is_same_record x y ≡ true) c.args.first c.args.second c.args.first_room.now c.args.second_room.now
    c.length.result c.length-2.result c.length.ensures.value c.length-2.ensures.value c.in-None.ensures.none)

pub returns-then-settings-clause-lines : goal.returns-then-settings-clause-lines
returns-then-settings-clause-lines g c =
    let first = record_in c.args.first c.args.first_room.now in
    let second = record_in c.args.second c.args.second_room.now in
    put_quiet (is_same_record first second) c.args.settings.now.is_quiet (told_of_records first second) _ c.if-settings.true

pub returns-else-settings-clause-lines : goal.returns-else-settings-clause-lines
returns-else-settings-clause-lines g c =
    let first = record_in c.args.first c.args.first_room.now in
    let second = record_in c.args.second c.args.second_room.now in
    let (differ, told) = c.in-Some.ensures.some in
    on_ok c.print.result
    (put_different (is_same_record first second) c.args.settings.now.is_quiet (told_of_records first second)
    (ending_of_records c.in-Some.difference) _ _
    (of_rooms (λ x y. is_same_record x y ≡ false) c.args.first c.args.second c.args.first_room.now c.args.second_room.now
    c.length.result c.length-2.result c.length.ensures.value c.length-2.ensures.value differ)
    c.if-settings.false
    (of_rooms (λ x y. ending_of_records c.in-Some.difference ≡ told_of_records x y) c.args.first c.args.second
    c.args.first_room.now c.args.second_room.now c.length.result c.length-2.result c.length.ensures.value
    c.length-2.ensures.value told))
    c.print.ensures.lines
