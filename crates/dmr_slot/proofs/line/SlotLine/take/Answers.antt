use Rattle.std.proofs.Common.{◌≡◌, ◌∙◌, ap, refl, subst, sym, All}
use Rattle.std.specs.Prelude.{option_copied}
use Rattle.dmr_hearing.specs.Fit.{IsFitHeard}
use Rattle.dmr_voice.specs.Tracking.{Tracking}
use Rattle.dmr_voice.specs.Bursts.{repeated_out}
use Rattle.dmr_slot.proofs.Pushing.{fit_after, push_is, role_fit, role_said, sound_after}
use Rattle.dmr_slot.specs.LineRules.{EndsSilent, known_after, call_left_after}
use Rattle.dmr_slot.proofs.Quiet.{heard_silent, state_silent}
use Rattle.dmr_slot.proofs.line.SlotLine.take.Goals as goal

pub step_into-role-requires : goal.step_into-role-requires
step_into-role-requires c =
    let one = c.hear.ensures.heard in
    record {
      fit = subst (All IsFitHeard) (sym (c.places.ensures.value ∙ one.moves))
          (fit_after c.self.inside.recent one.heard c.self.invariant.0.heard_fit one.fit);
    }

ends_after : (c : goal.After-advance) → EndsSilent c.silent_after-self-inside.result c.hear.new.self
ends_after c =
    subst (EndsSilent c.silent_after-self-inside.result)
    (sym c.hear.ensures.heard.moves)
    (c.silent_after-self-inside.ensures.silent c.self.inside.recent c.hear.ensures.heard.heard c.self.invariant.1
    (heard_silent c.self.inside.colour (option_copied c.args.slot) c.hear.ensures.heard.heard c.hear.ensures.heard.hears))

-- the call hang goes on from what it was
known_is : (c : goal.After-advance)
    → c.advance.new.self.link_control ≡ known_after c.self.inside.hang.link_control c.step_into-role.result
known_is c = c.advance.ensures.link_control ∙ ap (λ lc. known_after lc c.step_into-role.result) c.complete.ensures.link_control

left_is : (c : goal.After-advance)
    → c.advance.new.self.left ≡ call_left_after c.self.inside.hang.frames c.self.inside.hang.left c.step_into-role.result
left_is c =
    c.advance.ensures.left
    ∙ ap (λ frames. call_left_after frames c.complete.new.hang.left c.step_into-role.result) c.complete.ensures.frames
    ∙ ap (λ left. call_left_after c.self.inside.hang.frames left c.step_into-role.result) c.complete.ensures.left

pub invariant_of-self : goal.invariant_of-self
invariant_of-self c = record {
  0 = sound_after c.self.inside.colour c.self.inside.track c.step_into-role.new.self c.self.inside.recent
      c.hear.new.self c.self.inside.hang.link_control c.advance.new.self.link_control
      c.hear.ensures.heard.heard c.step_into-role.result c.self.invariant.0
      c.hear.ensures.heard.moves c.hear.ensures.heard.fit
      (let k = c.step_into-role.ensures.out in ap (λ (t : Tracking). t.colour) (c.step_into-role.ensures.state k.0 k.1))
      (role_fit _ c.step_into-role.result c.step_into-role.ensures.other c.step_into-role.ensures.fit) (known_is c);
  1 = ends_after c;
  2 = let k = c.step_into-role.ensures.out in
      state_silent c.self.inside.track.colour c.silent_after-self-inside.result c.self.inside.track.state
      c.step_into-role.new.self.state
      c.places.result.now k.0 (subst (EndsSilent c.silent_after-self-inside.result) (sym c.places.ensures.value) (ends_after c))
      (ap (λ (t : Tracking). t.state) (c.step_into-role.ensures.state k.0 k.1));
  3 = c.advance.ensures.kept c.self.inside.colour c.complete.ensures.kept;
}

pub returns-clause-pushed : goal.returns-clause-pushed
returns-clause-pushed c =
    rw (← c.self.view_is) (push_is
    (record {
      colour = c.self.inside.colour;
      call_hang = c.self.inside.hang.frames;
      window = c.self.inside.recent;
      state = c.self.inside.track.state;
      left = c.self.inside.hang.left;
      lc = c.self.inside.hang.link_control;
    })
    c.self.inside.track c.step_into-role.new.self (option_copied c.args.slot) c.hear.ensures.heard.heard c.places.result.now
    (repeated_out c.step_into-role.new.repeated c.step_into-role.result) c.complete.new.out c.step_into-role.result
    c.advance.new.self.frames c.advance.new.self.left c.hear.new.self c.advance.new.self.link_control
    (record {
      colour_is = c.self.invariant.0.same;
      state_is = refl;
      window_is = c.places.ensures.value ∙ c.hear.ensures.heard.moves;
      hears = c.hear.ensures.heard.hears;
      says = c.step_into-role.ensures.out;
      steps = c.step_into-role.ensures.state;
      gives = c.complete.ensures.out;
      role_is = role_said _ c.step_into-role.result c.step_into-role.ensures.other;
    })
    (c.advance.ensures.frames ∙ c.complete.ensures.frames) (sym c.places.ensures.value) (left_is c) (known_is c))
