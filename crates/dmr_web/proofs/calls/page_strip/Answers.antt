use Rattle.std.proofs.Common.{rules}
use Rattle.dmr_web.proofs.Ended.{none_held, picture_fault_by_end, pictured_by_end, same_held}
use Rattle.dmr_web.proofs.calls.page_strip.Goals as goal

pub returns-clause-all : goal.returns-clause-all
returns-clause-all c is = pictured_by_end c.picture-ended.result _ _ _ _ _ _ _ _ _ _ _ _ _ c.status_by_end.ensures.value
    c.told_by_end.ensures.value (search rules) c.new-source.ensures.octets (none_held _ _ c.new-window.ensures.none)
    c.picture-ended.ensures.whole c.picture-ended.ensures.end (same_held _ _ _ (search rules)) is

pub returns-clause-fault : goal.returns-clause-fault
returns-clause-fault c is = picture_fault_by_end c.picture-ended.result _ _ _ _ _ _ _ _ _ _ _ _ _ c.status_by_end.ensures.value
    c.told_by_end.ensures.value (search rules) c.new-source.ensures.octets (none_held _ _ c.new-window.ensures.none)
    c.picture-ended.ensures.fault (same_held _ _ _ (search rules)) is
