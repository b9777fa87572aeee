use Rattle.std.proofs.Common.{refl}
use Rattle.std.proofs.lemmas.Result.{on_ok_weaker}
use Rattle.dmr_planning.proofs.Changing.{changed}
use Rattle.dmr_planning.specs.Planning.{planned_by}
use Rattle.dmr_planning.specs.Slots.{IsTransmitted, numbered_of, so_far}
use Rattle.dmr_script.specs.declared.statement.Slot.TheVariants.{One, Two}
use Rattle.dmr_planning.proofs.planner.Planner.transmit.Goals as goal

pub returns-in-One-clause-planned : goal.returns-in-One-clause-planned
returns-in-One-clause-planned c =
    on_ok_weaker c.transmit.result (λ q.
    changed (IsTransmitted c.args.statements.now c.args.own (numbered_of c.args.numbered)) One (planned_by c.args.self.now)
    (planned_by (record c.args.self.now { first = c.transmit.new.self })) (so_far c.transmit.new.self) c.in-One.is q refl)
    c.transmit.ensures.planned

pub returns-in-Two-clause-planned : goal.returns-in-Two-clause-planned
returns-in-Two-clause-planned c =
    on_ok_weaker c.transmit-in-Two.result (λ q.
    changed (IsTransmitted c.args.statements.now c.args.own (numbered_of c.args.numbered)) Two (planned_by c.args.self.now)
    (planned_by (record c.args.self.now { second = c.transmit-in-Two.new.self })) (so_far c.transmit-in-Two.new.self) c.in-Two.is q
    refl) c.transmit-in-Two.ensures.planned
