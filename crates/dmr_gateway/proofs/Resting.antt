-- Where nothing comes in and nothing is to go out, a frame in which nothing is repeated changes nothing.
use Rattle.std.proofs.Common.{◌≡◌, ℕ, true, Option, None, refl, sym, ◌∙◌, ap, subst}
use Rattle.dmr_arq.specs.declared.sender_state.Held.{Held}
use Rattle.dmr_arq.specs.declared.sender_state.Outcome.{Outcome}
use Rattle.dmr_arq.specs.SenderRules.{SenderState, outcome_taken, ticked, ticked_in}
use Rattle.dmr_gateway.specs.Bursts.{IsGatewayOut}
use Rattle.dmr_gateway.specs.GatewayRules.{Gate, IsAskedFor, GateRests, with_side}
use Rattle.dmr_gateway.specs.Heard.{nothing_said}
use Rattle.dmr_gateway.specs.Inbox.{InboxOut}
use Rattle.dmr_gateway.specs.Received.{record_given, status_gives}
use Rattle.dmr_gateway.specs.SideRules as side
use Rattle.dmr_gateway.specs.SideRules.{HasNothing, StaysAtRest, StaysIdle, StaysQuiet, inbox_after, outbox_hears, owes}
use Rattle.dmr_gateway.specs.declared.inbox.Inbox.{Inbox}
use Rattle.dmr_gateway.specs.declared.outbox.OutboxState.{OutboxState}
use Rattle.dmr_gateway.specs.SlotBurst.{SlotBurst}
use Rattle.dmr_gateway.specs.declared.received.Received.{Received}
use Rattle.dmr_gateway.specs.declared.side.SideState.{SideState}

-- A sender with no packet in hand and nothing to tell stays so.
told : (s : SenderState) → s.outcome ≡ None → outcome_taken s ≡ s
told s none = ap (λ (o : Option Outcome). record s { outcome = o }) (sym none)

settled : (s : SenderState) → s.held ≡ None → s.outcome ≡ None → ticked (outcome_taken s) ≡ s
settled s idle none = ap (λ (h : Option Held). ticked_in h (outcome_taken s)) idle ∙ told s none

-- What is to go out stays nothing.
pub stays_idle : (s : OutboxState) → StaysQuiet true s → s.sender.held ≡ None → s.sender.outcome ≡ None → StaysIdle s
stays_idle s quiet idle none = record {
  hears = ap (λ (x : SenderState). record s { sender = x }) (settled s.sender idle none);
  quiet = quiet;
  untold = none;
  told = ap (λ (x : SenderState). record s { sender = x }) (told s.sender none);
}

side_stays : (llid slot : ℕ) (s : SideState) → HasNothing s → StaysAtRest s.inbox → StaysIdle s.outbox
    → side.side_hears llid slot nothing_said s ≡ s
side_stays llid slot s nothing rest idle =
    ap (λ (out : InboxOut). record {
      inbox = inbox_after nothing_said s.inbox;
      outbox = owes out.due (outbox_hears out.answer s.outbox);
      status = status_gives llid slot None;
      packet = record_given llid slot out.delivered;
    }) rest.silent
    ∙ ap (λ (i : Inbox). record { inbox = i; outbox = outbox_hears None s.outbox; status = None; packet = None }) rest.stays
    ∙ ap (λ (o : OutboxState). record { inbox = s.inbox; outbox = o; status = None; packet = None }) idle.hears
    ∙ ap (λ (x : Option Received). record { inbox = s.inbox; outbox = s.outbox; status = x; packet = None }) (sym nothing.0)
    ∙ ap (λ (x : Option Received). record { inbox = s.inbox; outbox = s.outbox; status = s.status; packet = x }) (sym nothing.1)

-- A slot in which nothing comes in and nothing is to go out rests.
pub side_rests : (s : SideState) → HasNothing s → StaysAtRest s.inbox → StaysIdle s.outbox → side.SideRests s
side_rests s nothing rest idle = record {
  hears = λ llid slot. side_stays llid slot s nothing rest idle;
  stays = ap (λ (o : OutboxState). record s { outbox = o }) idle.quiet.stays;
  silent = idle.quiet.silent;
  nothing = nothing;
  untold = idle.untold;
  told = ap (λ (o : OutboxState). record s { outbox = o }) idle.told;
}

-- At rest each slot is asked for nothing, and nothing changes.
pub first_asked : (g : Gate) → GateRests g → IsAskedFor 1 None true g None g
first_asked g rests = record {
  heard = g;
  hears = record {
    heard = nothing_said;
    reads = refl;
    state = ap (λ (s : SideState). with_side 1 s g) (sym (rests.first.hears g.llid 1));
  };
  next = subst (λ (b : Option SlotBurst). IsGatewayOut g.colour g.llid b None) (sym rests.first.silent) refl;
  state = ap (λ (s : SideState). with_side 1 s g) (sym rests.first.stays);
}

-- slot 2 of a gateway at rest is asked, sends nothing, and stays as it is
pub second_asked : (g : Gate) → GateRests g → IsAskedFor 2 None true g None g
second_asked g rests = record {
  heard = g;
  hears = record {
    heard = nothing_said;
    reads = refl;
    state = ap (λ (s : SideState). with_side 2 s g) (sym (rests.second.hears g.llid 2));
  };
  next = subst (λ (b : Option SlotBurst). IsGatewayOut g.colour g.llid b None) (sym rests.second.silent) refl;
  state = ap (λ (s : SideState). with_side 2 s g) (sym rests.second.stays);
}
