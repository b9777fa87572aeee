use Rattle.std.proofs.Common.{ap}
use Rattle.dmr_voice.specs.declared.track.Track.{Track}
use Rattle.dmr_voice.specs.Tracking.{Tracking}
use Rattle.dmr_voice.proofs.Fitting.{said_fit}
use Rattle.dmr_voice.proofs.Steps.{step_fit, step_state}
use Rattle.dmr_voice.proofs.track.VoiceTrack.step_into.Goals as goal

pub repeat-requires : goal.repeat-requires
repeat-requires c = record {
  fit = (step_fit _ _ _ _ _ _ c.type_inv.window c.index-places-0.is c.carried-carried.ensures.carried
      c.decide-decision.ensures.decided c.requires.fit c.self.invariant.1).1;
}

pub invariant_of-self-2 : goal.invariant_of-self-2
invariant_of-self-2 c = (
  c.self.invariant.0,
  (step_fit _ _ _ _ _ _ c.type_inv.window c.index-places-0.is c.carried-carried.ensures.carried
      c.decide-decision.ensures.decided c.requires.fit c.self.invariant.1).1,
)

pub returns-clause-fit : goal.returns-clause-fit
returns-clause-fit c =
    said_fit _ _ _ c.self.invariant.0
    (step_fit _ _ _ _ _ _ c.type_inv.window c.index-places-0.is c.carried-carried.ensures.carried
    c.decide-decision.ensures.decided c.requires.fit c.self.invariant.1).0 c.repeat.ensures.said

pub returns-clause-state : goal.returns-clause-state
returns-clause-state c =
    rw (← c.self.view_is) (λ k l.
    ap (λ (state : Track). let t : Tracking = record { colour = c.self.inside.colour; state = state } in t)
    (step_state _ _ _ _ _ _ c.type_inv.window c.index-places-0.is c.carried-carried.ensures.carried
    c.decide-decision.ensures.decided k l))
