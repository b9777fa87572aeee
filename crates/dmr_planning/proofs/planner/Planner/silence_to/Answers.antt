use Rattle.std.proofs.Common.{refl}
use Rattle.std.proofs.lemmas.Result.{on_ok_weaker}
use Rattle.dmr_planning.proofs.Changing.{changed}
use Rattle.dmr_planning.specs.Planning.{planned_by}
use Rattle.dmr_planning.specs.Slots.{IsSilencedTo, so_far}
use Rattle.dmr_script.specs.declared.statement.Slot.TheVariants.{One, Two}
use Rattle.dmr_planning.proofs.planner.Planner.silence_to.Goals as goal

pub returns-in-One-clause-planned : goal.returns-in-One-clause-planned
returns-in-One-clause-planned c =
    on_ok_weaker c.silence_to.result (λ q.
    changed (IsSilencedTo c.args.frame) One (planned_by c.args.self.now)
    (planned_by (record c.args.self.now { first = c.silence_to.new.self })) (so_far c.silence_to.new.self) c.in-One.is q refl)
    c.silence_to.ensures.planned

pub returns-in-Two-clause-planned : goal.returns-in-Two-clause-planned
returns-in-Two-clause-planned c =
    on_ok_weaker c.silence_to-in-Two.result (λ q.
    changed (IsSilencedTo c.args.frame) Two (planned_by c.args.self.now)
    (planned_by (record c.args.self.now { second = c.silence_to-in-Two.new.self })) (so_far c.silence_to-in-Two.new.self)
    c.in-Two.is q refl) c.silence_to-in-Two.ensures.planned
