-- Whichever slot hears and is asked first, the same comes of it.
use Rattle.std.proofs.Common.{◌≡◌, Bool, Option, refl, ◌∙◌, ap, subst}
use Rattle.dmr_burst.specs.declared.burst.Burst.{Burst}
use Rattle.dmr_gateway.specs.declared.heard.Heard.{Heard}
use Rattle.dmr_gateway.specs.BothSlots.{SlotTurn, AreAskedInTurn, InEitherOrder}
use Rattle.dmr_gateway.specs.GatewayRules.{Gate, IsAskedFor, IsNext, after_next}
use Rattle.dmr_gateway.specs.SideRules.{side_hears}

-- What is left where a slot has heard.
abbrev hearing_1 : Heard → Gate → Gate
hearing_1 heard g = record g { first = side_hears g.llid 1 heard g.first }

abbrev hearing_2 : Heard → Gate → Gate
hearing_2 heard g = record g { second = side_hears g.llid 2 heard g.second }

-- What is left where it was asked too.
asked_1 : (repeated : Option Burst) (free : Bool) (before : Gate) (burst : Option Burst) (after : Gate)
    (a : IsAskedFor 1 repeated free before burst after) → after ≡ after_next 1 free (hearing_1 a.hears.heard before)
asked_1 repeated free before burst after a = a.state ∙ ap (after_next 1 free) a.hears.state

asked_2 : (repeated : Option Burst) (free : Bool) (before : Gate) (burst : Option Burst) (after : Gate)
    (a : IsAskedFor 2 repeated free before burst after) → after ≡ after_next 2 free (hearing_2 a.hears.heard before)
asked_2 repeated free before burst after a = a.state ∙ ap (after_next 2 free) a.hears.state

second_first : (first second : SlotTurn) (before after : Gate) →
    AreAskedInTurn 1 2 first second before after → AreAskedInTurn 2 1 second first before after
second_first first second before after t =
    let a : IsAskedFor 1 first.repeated first.free before first.burst t.between = t.asked in
    let b : IsAskedFor 2 second.repeated second.free t.between second.burst after = t.later_asked in
    let e : t.between ≡ after_next 1 first.free (hearing_1 a.hears.heard before) =
    asked_1 first.repeated first.free before first.burst t.between a in
    let heard : Gate = hearing_2 b.hears.heard before in
    let other : Gate = after_next 2 second.free heard in
    record {
      between = other;
      asked = record {
        heard = heard;
        hears = record { heard = b.hears.heard; reads = b.hears.reads; state = refl };
        next = subst (λ (x : Gate). IsNext 2 second.free (hearing_2 b.hears.heard x) second.burst) e
            (subst (λ (x : Gate). IsNext 2 second.free x second.burst) b.hears.state b.next);
        state = refl;
      };
      later_asked = record {
        heard = hearing_1 a.hears.heard other;
        hears = record { heard = a.hears.heard; reads = a.hears.reads; state = refl };
        next = subst (λ (x : Gate). IsNext 1 first.free x first.burst) a.hears.state a.next;
        state = asked_2 second.repeated second.free t.between second.burst after b
            ∙ ap (λ (x : Gate). after_next 2 second.free (hearing_2 b.hears.heard x)) e;
      };
    }

first_first : (first second : SlotTurn) (before after : Gate) →
    AreAskedInTurn 2 1 second first before after → AreAskedInTurn 1 2 first second before after
first_first first second before after t =
    let b : IsAskedFor 2 second.repeated second.free before second.burst t.between = t.asked in
    let a : IsAskedFor 1 first.repeated first.free t.between first.burst after = t.later_asked in
    let e : t.between ≡ after_next 2 second.free (hearing_2 b.hears.heard before) =
    asked_2 second.repeated second.free before second.burst t.between b in
    let heard : Gate = hearing_1 a.hears.heard before in
    let other : Gate = after_next 1 first.free heard in
    record {
      between = other;
      asked = record {
        heard = heard;
        hears = record { heard = a.hears.heard; reads = a.hears.reads; state = refl };
        next = subst (λ (x : Gate). IsNext 1 first.free (hearing_1 a.hears.heard x) first.burst) e
            (subst (λ (x : Gate). IsNext 1 first.free x first.burst) a.hears.state a.next);
        state = refl;
      };
      later_asked = record {
        heard = hearing_2 b.hears.heard other;
        hears = record { heard = b.hears.heard; reads = b.hears.reads; state = refl };
        next = subst (λ (x : Gate). IsNext 2 second.free x second.burst) b.hears.state b.next;
        state = asked_1 first.repeated first.free t.between first.burst after a
            ∙ ap (λ (x : Gate). after_next 1 first.free (hearing_1 a.hears.heard x)) e;
      };
    }

-- Whichever slot comes first, the bursts are the same, and so is what the gateway remembers.
pub in_either_order : InEitherOrder
in_either_order first second before after =
    (second_first first second before after, first_first first second before after)
