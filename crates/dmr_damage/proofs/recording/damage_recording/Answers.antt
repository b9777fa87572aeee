use Rattle.std.proofs.Common.{[]}
use Rattle.dmr_damage.proofs.Passed.{faults_with_head, none_damaged}
use Rattle.dmr_damage.proofs.recording.damage_recording.Goals as goal

pub returns-in-Err-write_head-clause-torn : goal.returns-in-Err-write_head-clause-torn
returns-in-Err-write_head-clause-torn g c =
    let head = rw c.in-Ok-Uplink.field-0-is at c.in-Ok-Uplink.ensures.head in
    record {
      frames = [];
      outs = [];
      whole = tt;
      part = [];
      read = head;
      damaged = none_damaged c.args.settings.now.damage;
      written = c.in-Err-write_head.ensures.torn;
    }

pub returns-clause-fault : goal.returns-clause-fault
returns-clause-fault g c =
    let head = rw c.in-Ok-Uplink.field-0-is at c.in-Ok-Uplink.ensures.head in
    faults_with_head c.args.settings.now c.damage_frames.result _ _ _ _ _ _ head c.in_default.ensures.head
    c.damage_frames.ensures.fault
