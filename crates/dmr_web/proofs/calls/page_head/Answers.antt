use Rattle.std.proofs.Common.{rules}
use Rattle.dmr_web.proofs.Ended.{head_fault_told, head_told, none_held, same_held}
use Rattle.dmr_web.proofs.calls.page_head.Goals as goal

pub returns-in-Ok-clause-head : goal.returns-in-Ok-clause-head
returns-in-Ok-clause-head c is = head_told c.args.file.now _ _ _ c.in-Ok.format _ _ _ _ (search rules)
    c.new-source.ensures.octets (none_held _ _ c.new-window.ensures.none) c.in-Ok.ensures.head c.in-Ok.ensures.line
    (same_held _ _ _ (search rules))

pub returns-in-Err-clause-fault : goal.returns-in-Err-clause-fault
returns-in-Err-clause-fault c is = head_fault_told c.in-Err.stop _ _ _ c.args.file.now _ _ _ _ _ _
    c.status_at.ensures.value c.told_at.ensures.value c.new-source.ensures.octets (none_held _ _ c.new-window.ensures.none)
    c.in-Err.ensures.fault c.in-Err.ensures.fault_line (same_held _ _ _ (search rules)) is
