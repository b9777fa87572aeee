use Rattle.std.proofs.Common.{rules, ◌∙◌}
use Rattle.dmr_web.proofs.Ended.{all_by_end, fault_by_end, none_held, part_by_end, same_held}
use Rattle.dmr_web.proofs.calls.page_list.Goals as goal

pub returns-clause-all : goal.returns-clause-all
returns-clause-all c is = all_by_end c.list_window-ended.result c.args.is_json _ _ _ _ _ _ _ _ _ _ _ _ _ _ _ _ _
    c.status_by_end.ensures.value
    c.told_by_end.ensures.value (search rules) c.new-source.ensures.octets (none_held _ _ c.new-window.ensures.none)
    (c.new-window.ensures.notation ∙ c.notation_of.ensures.value) c.new-window.ensures.frame c.new-window.ensures.left_out
    c.list_window-ended.ensures.whole c.list_window-ended.ensures.end (same_held _ _ _ (search
    rules)) is

pub returns-clause-fault : goal.returns-clause-fault
returns-clause-fault c is = fault_by_end c.list_window-ended.result c.args.is_json _ _ _ _ _ _ _ _ _ _ _ _ _ _ _ _ _
    c.status_by_end.ensures.value
    c.told_by_end.ensures.value (search rules) c.new-source.ensures.octets (none_held _ _ c.new-window.ensures.none)
    (c.new-window.ensures.notation ∙ c.notation_of.ensures.value) c.new-window.ensures.frame c.new-window.ensures.left_out
    c.list_window-ended.ensures.fault (same_held _ _ _ (search rules)) is

pub returns-clause-part : goal.returns-clause-part
returns-clause-part c is = part_by_end c.list_window-ended.result c.args.is_json _ _ _ _ _ _ _ _ _ _ _ _ _ _ _ _ _
    c.status_by_end.ensures.value
    c.told_by_end.ensures.value (search rules) c.new-source.ensures.octets (none_held _ _ c.new-window.ensures.none)
    (c.new-window.ensures.notation ∙ c.notation_of.ensures.value) c.new-window.ensures.frame c.new-window.ensures.left_out
    c.list_window-ended.ensures.part (same_held _ _ _ (search rules)) is
