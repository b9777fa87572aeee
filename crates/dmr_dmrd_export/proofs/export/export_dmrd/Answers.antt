use Rattle.std.proofs.Common.{inr}
use Rattle.dmr_dmrd_export.proofs.Slots.{exported_all, exported_before, torn_at_end, torn_at_fault, torn_before, torn_in_head}
use Rattle.dmr_dmrd_export.proofs.export.export_dmrd.Goals as goal

pub returns-in-Err-write_capture_head-clause-torn : goal.returns-in-Err-write_capture_head-clause-torn
returns-in-Err-write_capture_head-clause-torn g c =
    torn_in_head c.args.settings.now _ _ _ _ c.in_default.ensures.head c.in-Err-write_capture_head.ensures.torn

pub returns-in-Ok-finish-clause-whole : goal.returns-in-Ok-finish-clause-whole
returns-in-Ok-finish-clause-whole g c =
    let (more, long, rest) = c.in-Ok-finish.ensures.written in
    exported_all c.args.settings.now c.in-Ok.counted c.in-Ok-finish.count more c.new-state.result c.take_slots.new.state
    c.finish.new.self _ _ _ _ _ _ _ c.new-state.ensures.value c.in_default.ensures.head
    c.in_default-write_capture_head.ensures.head c.in-Ok.ensures.all rest long c.in-Ok.ensures.end

pub returns-in-Err-finish-clause-torn : goal.returns-in-Err-finish-clause-torn
returns-in-Err-finish-clause-torn g c =
    torn_at_end c.args.settings.now c.in-Ok.counted c.new-state.result c.take_slots.new.state _ _ _ _ _ _ _
    c.new-state.ensures.value c.in_default.ensures.head c.in_default-write_capture_head.ensures.head c.in-Ok.ensures.all
    c.in-Err-finish.ensures.torn

pub returns-in-Ok-finish-2-clause-fault : goal.returns-in-Ok-finish-2-clause-fault
returns-in-Ok-finish-2-clause-fault g c =
    let (more, long, rest) = c.in-Ok-finish-2.ensures.written in
    let before = rw c.in-Err-File.field-0-is at c.in-Err-File.ensures.fault in
    inr (exported_before c.args.settings.now c.in-Err-File.fault more c.new-state.result c.take_slots.new.state
    c.finish-in-Err-File.new.self _ _ _ _ _ _ _ c.new-state.ensures.value c.in_default.ensures.head
    c.in_default-write_capture_head.ensures.head before rest)

pub returns-in-Err-finish-2-clause-torn : goal.returns-in-Err-finish-2-clause-torn
returns-in-Err-finish-2-clause-torn g c =
    let before = rw c.in-Err-File.field-0-is at c.in-Err-File.ensures.fault in
    torn_at_fault c.args.settings.now c.in-Err-File.fault c.new-state.result c.take_slots.new.state _ _ _ _ _ _ _
    c.new-state.ensures.value c.in_default.ensures.head c.in_default-write_capture_head.ensures.head before
    c.in-Err-finish-2.ensures.torn

pub returns-in-Err-Output-clause-torn : goal.returns-in-Err-Output-clause-torn
returns-in-Err-Output-clause-torn g c =
    let before = rw c.in-Err-Output.field-0-is at c.in-Err-Output.ensures.torn in
    torn_before c.args.settings.now c.new-state.result _ _ _ _ _ _ c.new-state.ensures.value c.in_default.ensures.head
    c.in_default-write_capture_head.ensures.head before
