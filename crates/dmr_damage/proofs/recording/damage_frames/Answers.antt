use Rattle.dmr_damage.proofs.Passed.{ended_written, front_torn, none_passed, rest_torn}
use Rattle.dmr_damage.proofs.recording.damage_frames.Goals as goal

pub returns-in-Err-clause-torn : goal.returns-in-Err-clause-torn
returns-in-Err-clause-torn g c held head =
    front_torn c.args.settings.now c.pass_all.new.damager held _ _ _
    (c.in-Err.ensures.torn c.args.settings.now.damage held
    (none_passed c.args.settings.now.damage c.new-damager.result c.none-counts.result held _ c.new-damager.ensures.fresh
    c.none-counts.ensures.value head))

pub returns-in-Err-pass_rest-clause-torn : goal.returns-in-Err-pass_rest-clause-torn
returns-in-Err-pass_rest-clause-torn g c held head =
    let (frames, outs, whole, passed, reached) = c.in-Ok.ensures.all c.args.settings.now.damage held
    (none_passed c.args.settings.now.damage c.new-damager.result c.none-counts.result held _ c.new-damager.ensures.fresh
    c.none-counts.ensures.value head) in
    let (silent, few, torn) = c.in-Err-pass_rest.ensures.torn c.args.settings.now.damage frames outs held passed in
    rest_torn c.args.settings.now c.pass_rest.new.damager c.in-Ok.reached silent frames held _ _ _ whole reached few torn

pub returns-in-End-clause-whole : goal.returns-in-End-clause-whole
returns-in-End-clause-whole g c held head =
    let (frames, outs, whole, passed, reached) = c.in-Ok.ensures.all c.args.settings.now.damage held
    (none_passed c.args.settings.now.damage c.new-damager.result c.none-counts.result held _ c.new-damager.ensures.fresh
    c.none-counts.ensures.value head) in
    let (more, ended) = c.in_default.ensures.passed c.args.settings.now.damage frames outs held passed in
    let read = rw c.in-End.is at reached in
    let both = ended_written c.args.settings.now c.pass_rest.new.damager c.pass_rest.new.counts frames more held _ ended in
    record {
      frames = frames;
      outs = more;
      whole = whole;
      read = read.0;
      end = read.1;
      written = both.0;
      counted = both.1;
    }

pub returns-in-Fault-clause-fault : goal.returns-in-Fault-clause-fault
returns-in-Fault-clause-fault g c held head =
    let (frames, outs, whole, passed, reached) = c.in-Ok.ensures.all c.args.settings.now.damage held
    (none_passed c.args.settings.now.damage c.new-damager.result c.none-counts.result held _ c.new-damager.ensures.fresh
    c.none-counts.ensures.value head) in
    let (more, ended) = c.in_default.ensures.passed c.args.settings.now.damage frames outs held passed in
    let read = rw c.in-Fault.is at reached in
    let both = ended_written c.args.settings.now c.pass_rest.new.damager c.pass_rest.new.counts frames more held _ ended in
    record {
      frames = frames;
      outs = more;
      whole = whole;
      part = read.0;
      read = read.1;
      shown = read.2;
      written = both.0;
    }
