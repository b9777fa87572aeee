use Rattle.std.proofs.Common.{◌≡◌, Option, get_or, drop, None, subst, sym, ap, arith}
use Rattle.dmr_link.specs.declared.full_lc.FullLc.{FullLc}
use Rattle.dmr_voice.specs.Bursts.{IsSaid}
use Rattle.dmr_voice.specs.CallRules.{step_of}
use Rattle.dmr_voice.specs.Carried.{IsCarried}
use Rattle.dmr_voice.specs.Tracking.{Tracking}
use Rattle.dmr_damage.specs.Bursts.{IsDamagedSlot}
use Rattle.dmr_damage.specs.Marks.{burst_mark}
use Rattle.dmr_hearing.specs.Hearing.{Hears}
use Rattle.dmr_damage.proofs.Deciding.{decided_first, first_heard}
use Rattle.dmr_damage.proofs.line.LimitedSlot.decide.Goals as goal

pub returns-clause-decided : goal.returns-clause-decided
returns-clause-decided c =
    let same = c.self.invariant.1 in
    rw (← c.self.view_is) (decided_first c.self.inside.colour
    (record { state = c.self.inside.track.state; fields = c.self.inside.fields })
    (record { state = c.step-said.new.self.state; fields = c.fields_behind-self-inside.result })
    c.self.inside.slots c.self.inside.heard c.first_heard-here.result c.carried_behind-carried.result c.step-said.result
    c.damaged_slot-damaged.result (omega (arith, c.first_slot-slot.ensures.six)) c.self.invariant.2
    (c.first_heard-here.ensures.first c.first_heard-here.result)
    c.carried_behind-carried.ensures.carried
    (subst (λ k. (lc : Option FullLc) × IsCarried k (drop 1 c.self.inside.heard) lc
    × IsSaid k (step_of k c.self.inside.track.state c.self.inside.heard lc).0 c.step-said.result) same c.step-said.ensures.out)
    (subst (λ k. c.step-said.new.self.state
    ≡ (step_of k c.self.inside.track.state c.self.inside.heard c.carried_behind-carried.result).1) same
    (ap (λ (t : Tracking). t.state) (c.step-said.ensures.state c.carried_behind-carried.result
    (subst (λ k. IsCarried k (drop 1 c.self.inside.heard) c.carried_behind-carried.result) (sym same)
    c.carried_behind-carried.ensures.carried))))
    (subst (λ s. IsDamagedSlot c.self.inside.colour (burst_mark c.self.inside.colour c.first_heard-here.result c.step-said.result)
    (get_or c.self.inside.fields 0 None) s c.damaged_slot-damaged.result) c.first_slot-slot.ensures.first
    c.damaged_slot-damaged.ensures.damaged)
    c.fields_behind-self-inside.ensures.fields)

pub damaged_slot-damaged-requires : goal.damaged_slot-damaged-requires
damaged_slot-damaged-requires c = record {
  heard = subst (λ s. Hears c.self.inside.colour s c.first_heard-here.result) (sym c.first_slot-slot.ensures.first)
      (first_heard c.self.inside.colour c.self.inside.slots c.self.inside.heard c.first_heard-here.result
      (omega (arith, c.first_slot-slot.ensures.six)) c.self.invariant.2
      (c.first_heard-here.ensures.first c.first_heard-here.result));
}
