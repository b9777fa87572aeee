use Rattle.std.proofs.Common.{rules, ◌≡◌, ℕ, ◌∷◌, ◌++◌, [], ◌∙◌, None, subst, replicate, arith, ◌≤◌, inr, refl}
use Rattle.std.proofs.lemmas.Result.{on_err_weaker, on_ok_weaker}
use Rattle.std.proofs.lemmas.List.{replicate_more}
use Rattle.dmr_log.specs.RecordingLogs.{Logs, RecordedFrames}
use Rattle.dmr_log.specs.declared.log.FrameTold.{FrameTold}
use Rattle.dmr_log.proofs.Logging.{given_one_more, logs_one_more}
use Rattle.dmr_log.proofs.recording_log.tell_rest.Goals as goal

pub loop-past-preserved : goal.loop-past-preserved
loop-past-preserved g c =
    let inv = c.loop-past.invariant in
    let (told, logs, given) = inv.so_far in
    let logged = c.pass.ensures.logged in
    record {
      lines = search rules;
      kept = c.put.ensures.kept ∙ inv.kept;
      taken = omega (arith, inv.taken, logged.taken);
      so_far = (
        told ++ c.pass.new.self.told ∷ [],
        subst (λ (l : RecordedFrames). Logs c.args.log.now l (told ++ c.pass.new.self.told ∷ []) c.pass.new.self)
            (replicate_more c.loop-past._past (None, None))
            (logs_one_more c.args.log.now c.loop-past.log c.pass.new.self _ told None None logs logged),
        given_one_more g.L.Taker.Takes c.args.lines.now c.loop-past.lines c.put.new.self told c.pass.new.self.told given
            (search rules),
      );
    }

pub returns-clause-told : goal.returns-clause-told
returns-clause-told g c =
    let (told, logs, given) = c.loop-past.invariant.so_far in
    let end : c.loop-past._past ≡ 5 = omega (arith, c.loop-past-test.false, c.loop-past.auto._past-end) in
    on_ok_weaker c.put-2.result
    (λ takes. record {
      told = told;
      decided = c.loop-past.log;
      logged = subst (λ (n : ℕ). Logs c.args.log.now (replicate n (None, None)) told c.loop-past.log) end logs;
      ended = c.end.ensures.logged;
      given = given_one_more g.L.Taker.Takes c.args.lines.now c.loop-past.lines c.put-2.new.self told c.end.new.self.told given
          (subst (λ (t : FrameTold). g.L.Taker.Takes c.loop-past.lines t c.put-2.new.self) c.told-2.ensures.value takes);
    })
    c.put-2.ensures.line

-- Of the frames before, as many were told as were taken; then the end was refused.
pub returns-clause-output : goal.returns-clause-output
returns-clause-output g c =
    let (told, logs, given) = c.loop-past.invariant.so_far in
    let few : c.loop-past._past ≤ 5 = omega (arith, c.loop-past.auto._past-end) in
    on_err_weaker c.put-2.result
    (λ refuses. (
      c.loop-past._past,
      few,
      record {
        told = told;
        decided = c.loop-past.log;
        refused = c.end.new.self.told;
        logged = logs;
        next = inr (c.end.new.self, c.end.ensures.logged, refl);
        given = record {
          between = c.loop-past.lines;
          taken = given;
          last = subst (λ (t : FrameTold). g.L.Taker.Refuses c.loop-past.lines t c.put-2.new.self) c.told-2.ensures.value
              refuses;
        };
      },
    ))
    c.put-2.ensures.none
