use Rattle.std.proofs.Common.{length, max}
use Rattle.dmr_record.proofs.Torn.{Tears_more}
use Rattle.dmr_record.specs.Head.{head_octets, uplink_magic}
use Rattle.dmr_record.specs.Uplink.{frames_octets}
use Rattle.dmr_dmrd.specs.Holding.{first_frames}
use Rattle.dmr_dmrd.proofs.Frames.{second_torn}
use Rattle.dmr_dmrd.proofs.recording.write_recording.Goals as goal

pub returns-in-Err-clause-torn : goal.returns-in-Err-clause-torn
returns-in-Err-clause-torn g c =
    let frames = frames_octets (first_frames c.args.one.now c.args.two.now
    (max (length c.args.one.now) (length c.args.two.now))) in
    Tears_more _ _ (head_octets uplink_magic) frames c.in-Err.ensures.torn

pub returns-clause-torn : goal.returns-clause-torn
returns-clause-torn g c =
    let frames = frames_octets (first_frames c.args.one.now c.args.two.now
    (max (length c.args.one.now) (length c.args.two.now))) in
    second_torn c.write_frames.result _ _ _ (head_octets uplink_magic) frames c.in_default.ensures.head c.write_frames.ensures.torn
