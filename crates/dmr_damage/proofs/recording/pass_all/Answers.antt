use Rattle.std.proofs.Common.{◌≡◌, ◌+◌, ◌++◌, ◌∷◌, [], length, sym, ap, subst, ◌∙◌, arith, length-append}
use Rattle.std.specs.Io.KnownBytes.{Consumes}
use Rattle.std.proofs.KnownBytes.{Consumes-trans}
use Rattle.std.proofs.lemmas.List.{append-nil}
use Rattle.dmr_record.specs.Uplink.{IsFrame, frame_octets, frames_octets}
use Rattle.dmr_damage.specs.Recordings.{IsFrameFault}
use Rattle.dmr_damage.proofs.Behind.{all_more}
use Rattle.dmr_damage.proofs.Passed.{frames_more}
use Rattle.dmr_damage.proofs.recording.pass_all.Goals as goal

pub returns-in-Ok-None-clause-all : goal.returns-in-Ok-None-clause-all
returns-in-Ok-None-clause-all g c damage held is =
    let (frames, count, octet, whole, read, so_far) = c.loop-frame.invariant.so_far in
    let (outs, passed) = so_far damage held is in
    let end = rw c.in-Ok-None.field-0-is at c.in-Ok-None.ensures.end in (
      frames,
      outs,
      whole,
      passed,
      (
        subst (Consumes (g.S.Source.left c.args.source.now) (g.S.Source.left c.read_pair.new.source))
            (append-nil (frames_octets frames))
            (Consumes-trans _ _ _ (frames_octets frames) [] read end.0),
        end.1,
      ),
    )

pub returns-in-Err-clause-all : goal.returns-in-Err-clause-all
returns-in-Err-clause-all g c damage held is =
    let (frames, count, octet, whole, read, so_far) = c.loop-frame.invariant.so_far in
    let (outs, passed) = so_far damage held is in
    let fault = c.in-Err.ensures.fault in (
      frames,
      outs,
      whole,
      passed,
      (
        fault.0,
        Consumes-trans _ _ _ (frames_octets frames) fault.0 read fault.1,
        subst (λ n. IsFrameFault n (8 + length (frames_octets frames)) c.in-Err.fault fault.0) (sym count)
            (subst (λ n. IsFrameFault c.loop-frame.frames n c.in-Err.fault fault.0) octet fault.2),
      ),
    )

pub returns-in-Err-pass-clause-torn : goal.returns-in-Err-pass-clause-torn
returns-in-Err-pass-clause-torn g c damage held is =
    let (frames, count, octet, whole, read, so_far) = c.loop-frame.invariant.so_far in
    let (outs, passed) = so_far damage held is in
    let (below, is_frame, taken) = rw c.in-Ok-Some.field-0-is at c.in-Ok-Some.ensures.frame in
    record {
      frames = frames ++ c.in-Ok-Some.frame ∷ [];
      whole = all_more IsFrame frames c.in-Ok-Some.frame whole is_frame;
      read = subst (Consumes (g.S.Source.left c.args.source.now) (g.S.Source.left c.read_pair.new.source))
          (frames_more frames c.in-Ok-Some.frame)
          (Consumes-trans _ _ _ (frames_octets frames) (frame_octets c.in-Ok-Some.frame) read taken);
      torn = c.in-Err-pass.ensures.torn damage frames outs held passed;
    }

pub loop-frame-preserved : goal.loop-frame-preserved
loop-frame-preserved g c =
    let inv = c.loop-frame.invariant in
    let (frames, count, octet, whole, read, so_far) = inv.so_far in
    let (below, is_frame, taken) = rw c.in-Ok-Some.field-0-is at c.in-Ok-Some.ensures.frame in
    let long : length (frames_octets frames) + length (frame_octets c.in-Ok-Some.frame)
    ≡ length (frames_octets (frames ++ c.in-Ok-Some.frame ∷ [])) =
    sym (length-append (frames_octets frames) (frame_octets c.in-Ok-Some.frame))
    ∙ ap length (frames_more frames c.in-Ok-Some.frame) in
    record {
      source = c.in-Ok-Some.ensures.well;
      sink = c.in_default.ensures.well;
      limit = omega (arith, below);
      room = omega (arith, inv.room, c.frame_length-octet.ensures.few);
      fewer = omega (arith, inv.fewer, c.in_default.ensures.frames);
      few = c.in_default.ensures.few;
      rest = c.pass.ensures.rest ∙ inv.rest;
      so_far = (
        frames ++ c.in-Ok-Some.frame ∷ [],
        length-append frames (c.in-Ok-Some.frame ∷ []) ∙ ap (λ n. n + 1) count,
        omega (arith, octet, long, c.frame_length-octet.ensures.octets),
        all_more IsFrame frames c.in-Ok-Some.frame whole is_frame,
        subst (Consumes (g.S.Source.left c.args.source.now) (g.S.Source.left c.read_pair.new.source))
            (frames_more frames c.in-Ok-Some.frame)
            (Consumes-trans _ _ _ (frames_octets frames) (frame_octets c.in-Ok-Some.frame) read taken),
        λ damage held is.
            let (outs, passed) = so_far damage held is in
            c.in_default.ensures.passed damage frames outs held passed,
      );
    }
