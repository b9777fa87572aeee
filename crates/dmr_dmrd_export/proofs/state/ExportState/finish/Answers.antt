use Rattle.std.proofs.Common.{rules, ◌≡◌, ℕ, ◌+◌, ◌∷◌, ◌++◌, [], List, Option, None, replicate, refl, subst, arith}
use Rattle.std.proofs.lemmas.List.{length-append, replicate_more}
use Rattle.dmr_dmrd_export.specs.Deciding.{AreMoreTorn, AreMoreWritten}
use Rattle.dmr_dmrd_export.specs.declared.burst.RepeatedBurst.{RepeatedBurst}
use Rattle.dmr_dmrd_export.proofs.Writing.{torn_then, written_none, written_then}
use Rattle.dmr_dmrd_export.proofs.state.ExportState.finish.Goals as goal

pub loop-past-init : goal.loop-past-init
loop-past-init g c = record {
  sink = search rules;
  room = omega arith;
  names = search rules;
  few = omega arith;
  so_far = ([], refl, written_none c.args.settings.now c.args.self.now _);
}

pub loop-past-preserved : goal.loop-past-preserved
loop-past-preserved g c =
    let inv = c.loop-past.invariant in
    let (more, counted, written) = inv.so_far in
    let (next, count, next_written) = c.in-Ok.ensures.written in
    let few = c.in-Ok.ensures.few in
    let long = length-append more next in
    record {
      sink = c.in-Ok.ensures.well;
      room = omega (arith, inv.room, c.take.ensures.room);
      names = c.take.ensures.names;
      few = omega (arith, inv.few, few);
      so_far = (
        more ++ next,
        omega (arith, counted, count, long),
        subst (λ (l : List (Option RepeatedBurst)). AreMoreWritten c.args.settings.now c.args.self.now l (more ++ next)
            c.take.new.self (g.K.Sink.held c.args.sink.now) (g.K.Sink.held c.take.new.sink))
            (replicate_more c.loop-past._past None)
            (written_then c.args.settings.now c.args.self.now c.loop-past.self c.take.new.self
            (replicate c.loop-past._past None) (None ∷ []) more next _ _ _ written next_written),
      );
    }

pub returns-clause-written : goal.returns-clause-written
returns-clause-written g c =
    let (more, counted, written) = c.loop-past.invariant.so_far in
    let end : c.loop-past._past ≡ 8 = omega (arith, c.loop-past-test.false, c.loop-past.auto._past-end) in (
      more,
      counted,
      subst (λ (n : ℕ). AreMoreWritten c.args.settings.now c.args.self.now (replicate n None) more c.loop-past.self
          (g.K.Sink.held c.args.sink.now) (g.K.Sink.held c.loop-past.sink)) end written,
    )

pub returns-in-Err-clause-torn : goal.returns-in-Err-clause-torn
returns-in-Err-clause-torn g c =
    let (more, counted, written) = c.loop-past.invariant.so_far in
    record {
      silent = c.loop-past._past + 1;
      few = omega arith;
      torn = subst (λ (l : List (Option RepeatedBurst)). AreMoreTorn c.args.settings.now c.args.self.now l
          (g.K.Sink.held c.args.sink.now) (g.K.Sink.held c.take.new.sink)) (replicate_more c.loop-past._past None)
          (torn_then c.args.settings.now c.args.self.now c.loop-past.self (replicate c.loop-past._past None) (None ∷ []) more
          _ _ _ written c.in-Err.ensures.torn);
    }
