use Rattle.std.proofs.Common.{◌≡◌, ℕ, suc, ◌+◌, ◌<◌, List, ◌∷◌, drop, slice_get, Some, arith, ap, sym, ◌∙◌}
use Rattle.dmr_making.proofs.Lines.{ends_behind, left_have_slots, left_is, none_left, step_gap, step_in, step_none, step_over}
use Rattle.dmr_making.proofs.Lines.{front_none, front_in, front_over, ordered_over}
use Rattle.dmr_making.proofs.TrySlots.{fit_at}
use Rattle.dmr_making.specs.Playing.{IsFitPlaced, still_placed}
use Rattle.dmr_making.specs.declared.playing.PlacedTransmission.{PlacedTransmission}
use Rattle.dmr_making.specs.declared.playing.Player.{Player}
use Rattle.dmr_making.proofs.playing.Player.slot.Goals as goal

pub returns-in_default-clause-step : goal.returns-in_default-clause-step
returns-in_default-clause-step c = λ line l.
    let old : Player = c.args.self.now in
    step_none old c.args.frame line (none_left old.placed.now old.at (sym c.placed_at.ensures.value ∙ c.in_default.is))
    c.requires.front l

pub returns-then-frame-placed-clause-step : goal.returns-then-frame-placed-clause-step
returns-then-frame-placed-clause-step c = λ line l.
    let old : Player = c.args.self.now in
    let p : PlacedTransmission = c.in-Some.placed in
    let there : slice_get old.placed.now old.at ≡ Some p = sym c.placed_at.ensures.value ∙ c.in-Some.is in
    let fit : IsFitPlaced old.statements.now p =
    fit_at (IsFitPlaced old.statements.now) old.placed.now old.at p c.requires.fit there in
    step_gap old c.args.frame line p (drop (suc old.at) old.placed.now) (left_is old.placed.now old.at p there)
    c.if-frame-placed.true fit.some c.requires.front l

pub placed_slot-made-requires-clause-fit : goal.placed_slot-made-requires-clause-fit
placed_slot-made-requires-clause-fit c =
    let old : Player = c.args.self.now in
    fit_at (IsFitPlaced old.statements.now) old.placed.now old.at c.in-Some.placed c.requires.fit
    (sym c.placed_at.ensures.value ∙ c.in-Some.is)

pub overflow_add-self : goal.overflow_add-self
overflow_add-self c = let room = c.in-Some.ensures.room in omega (arith, room)

pub returns-then-place-placed-clause-step : goal.returns-then-place-placed-clause-step
returns-then-place-placed-clause-step c = λ line l.
    let old : Player = c.args.self.now in
    let new : Player = record old { at = old.at + 1; from = c.args.frame + 1 } in
    let p : PlacedTransmission = c.in-Some.placed in
    let ps : List PlacedTransmission = drop (suc old.at) old.placed.now in
    let there : slice_get old.placed.now old.at ≡ Some p = sym c.placed_at.ensures.value ∙ c.in-Some.is in
    let left : still_placed old ≡ p ∷ ps = left_is old.placed.now old.at p there in
    let one : old.at + 1 ≡ suc old.at = omega arith in
    let less : c.args.frame < p.start + p.length = ends_behind old c.args.frame p ps left c.requires.front in
    let begun = c.if-frame-placed.false in
    let over = c.if-place-placed.true in
    step_over old new c.args.frame c.placed_slot-made.result line p ps left (ap (λ (k : ℕ). drop k old.placed.now) one)
    (omega arith) begun (omega (arith, less, begun, over)) (left_have_slots old.statements.now old.placed.now (suc old.at)
    c.requires.fit) c.placed_slot-made.ensures.slot l

pub returns-else-place-placed-clause-step : goal.returns-else-place-placed-clause-step
returns-else-place-placed-clause-step c = λ line l.
    let old : Player = c.args.self.now in
    let p : PlacedTransmission = c.in-Some.placed in
    let ps : List PlacedTransmission = drop (suc old.at) old.placed.now in
    let there : slice_get old.placed.now old.at ≡ Some p = sym c.placed_at.ensures.value ∙ c.in-Some.is in
    let begun = c.if-frame-placed.false in
    let more = c.if-place-placed.false in
    step_in old c.args.frame c.placed_slot-made.result line p ps (left_is old.placed.now old.at p there) begun
    (omega (arith, begun, more)) c.requires.front c.placed_slot-made.ensures.slot l

pub returns-in_default-clause-front : goal.returns-in_default-clause-front
returns-in_default-clause-front c =
    let old : Player = c.args.self.now in
    front_none old c.args.frame (none_left old.placed.now old.at (sym c.placed_at.ensures.value ∙ c.in_default.is)) c.requires.front

pub returns-then-frame-placed-clause-front : goal.returns-then-frame-placed-clause-front
returns-then-frame-placed-clause-front c =
    let old : Player = c.args.self.now in
    let p : PlacedTransmission = c.in-Some.placed in
    let there : slice_get old.placed.now old.at ≡ Some p = sym c.placed_at.ensures.value ∙ c.in-Some.is in
    let fit : IsFitPlaced old.statements.now p =
    fit_at (IsFitPlaced old.statements.now) old.placed.now old.at p c.requires.fit there in
    let some = fit.some in
    let less = c.if-frame-placed.true in
    front_in old c.args.frame p (drop (suc old.at) old.placed.now) (left_is old.placed.now old.at p there)
    (omega (arith, some, less)) c.requires.front

pub returns-else-place-placed-clause-front : goal.returns-else-place-placed-clause-front
returns-else-place-placed-clause-front c =
    let old : Player = c.args.self.now in
    let p : PlacedTransmission = c.in-Some.placed in
    let there : slice_get old.placed.now old.at ≡ Some p = sym c.placed_at.ensures.value ∙ c.in-Some.is in
    let begun = c.if-frame-placed.false in
    let more = c.if-place-placed.false in
    front_in old c.args.frame p (drop (suc old.at) old.placed.now) (left_is old.placed.now old.at p there)
    (omega (arith, begun, more)) c.requires.front

pub returns-then-place-placed-clause-ordered : goal.returns-then-place-placed-clause-ordered
returns-then-place-placed-clause-ordered c =
    let old : Player = c.args.self.now in
    let new : Player = record old { at = old.at + 1; from = c.args.frame + 1 } in
    let p : PlacedTransmission = c.in-Some.placed in
    let ps : List PlacedTransmission = drop (suc old.at) old.placed.now in
    let there : slice_get old.placed.now old.at ≡ Some p = sym c.placed_at.ensures.value ∙ c.in-Some.is in
    let left : still_placed old ≡ p ∷ ps = left_is old.placed.now old.at p there in
    let one : old.at + 1 ≡ suc old.at = omega arith in
    let less : c.args.frame < p.start + p.length = ends_behind old c.args.frame p ps left c.requires.front in
    let begun = c.if-frame-placed.false in
    let over = c.if-place-placed.true in
    ordered_over old new c.args.frame p ps left (ap (λ (k : ℕ). drop k old.placed.now) one) (omega arith)
    (omega (arith, less, begun, over)) c.requires.ordered

pub returns-then-place-placed-clause-front : goal.returns-then-place-placed-clause-front
returns-then-place-placed-clause-front c =
    front_over (record c.args.self.now { at = c.args.self.now.at + 1; from = c.args.frame + 1 }) c.args.frame (omega arith)
    (returns-then-place-placed-clause-ordered c)
