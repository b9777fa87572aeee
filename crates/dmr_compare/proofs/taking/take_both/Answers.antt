use Rattle.dmr_compare.proofs.Printed.{on_ok, put_different, put_quiet, put_same}
use Rattle.dmr_compare.specs.Kept.{is_same}
use Rattle.dmr_compare.specs.Printed.{told_of}
use Rattle.dmr_compare.proofs.taking.take_both.Goals as goal

pub returns-in-None-clause-lines : goal.returns-in-None-clause-lines
returns-in-None-clause-lines g c =
    let ignored = c.args.settings.now.ignored in
    put_same (is_same ignored c.args.first.now c.args.second.now) c.args.settings.now.is_quiet
    (told_of ignored c.args.first.now c.args.second.now) _ c.in-None.ensures.none

pub returns-then-settings-clause-lines : goal.returns-then-settings-clause-lines
returns-then-settings-clause-lines g c =
    let ignored = c.args.settings.now.ignored in
    put_quiet (is_same ignored c.args.first.now c.args.second.now) c.args.settings.now.is_quiet
    (told_of ignored c.args.first.now c.args.second.now) _ c.if-settings.true

pub returns-else-settings-clause-lines : goal.returns-else-settings-clause-lines
returns-else-settings-clause-lines g c =
    let ignored = c.args.settings.now.ignored in
    let (differ, told) = c.in-Some.ensures.some in
    on_ok c.print.result
    (put_different (is_same ignored c.args.first.now c.args.second.now) c.args.settings.now.is_quiet
    (told_of ignored c.args.first.now c.args.second.now) _ _ _ differ c.if-settings.false told)
    c.print.ensures.lines
