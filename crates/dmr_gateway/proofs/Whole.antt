-- What both slots of the gateway keep is whole, whatever happens, and so is what they send.
use Rattle.std.proofs.Common.{◌≡◌, ℕ, ◌^◌, ◌<◌, ltb, eqb, Bool, true, false, List, [], ◌∷◌, Option, Some, None, IfSome}
use Rattle.std.proofs.Common.{Result, Err, refl, arith}
use Rattle.std.specs.List.{All}
use Rattle.std.proofs.lemmas.Bool.{ltb-true}
use Rattle.std.proofs.lemmas.List.Elements.{All-nil, All-head, All-tail, All-push}
use Rattle.dmr_burst.specs.declared.burst.Burst.{Burst}
use Rattle.dmr_data.specs.Header.{IsFitHeader}
use Rattle.dmr_data.specs.declared.header.Header.{Header}
use Rattle.dmr_data.specs.declared.header.Header.TheVariants as header
use Rattle.dmr_arq.specs.Fit.{IsFitAnswer, IsFitReceiver, IsFitSender, IsFitGateBurst}
use Rattle.dmr_arq.specs.Received.{frame_heard, reads}
use Rattle.dmr_arq.specs.ReceiverMeaning.{Heads}
use Rattle.dmr_arq.specs.ReceiverRules.{open_of}
use Rattle.dmr_arq.specs.SenderRules as sender
use Rattle.dmr_arq.specs.SenderRules.{SenderState}
use Rattle.dmr_arq.specs.declared.answer.Answer.{Answer}
use Rattle.dmr_arq.specs.declared.receiver_state.ReceiverState.{ReceiverState}
use Rattle.dmr_arq.specs.declared.sender.GateBurst.{GateBurst}
use Rattle.dmr_arq.specs.declared.sender_state.Held.{Held}
use Rattle.dmr_arq.proofs.Arriving.{PlacedFits, header_fit, placed_fit}
use Rattle.dmr_arq.proofs.PacketInHand.{HoldsInHand, HoldsOfBlocks, HoldsOfBurst, offered_keeps}
use Rattle.dmr_arq.proofs.PacketInHand.{ticked_keeps, answered_keeps, cut_keeps}
use Rattle.dmr_arq.proofs.PacketInHand.{sent_keeps, burst_has}
use Rattle.dmr_arq.proofs.Leaving.{offered_fit, ticked_fit, answered_fit, cut_fit, sent_fit, burst_fits}
use Rattle.dmr_arq.proofs.Sound.{by_cond}
use Rattle.dmr_gateway.specs.Answers.{due_with, flag_count, has_its_flags}
use Rattle.dmr_gateway.specs.Bursts.{IsGatewayOut, try_burst}
use Rattle.dmr_gateway.specs.Fit.{IsFitDue, IsFitOwed}
use Rattle.dmr_gateway.specs.GatewayRules.{Gate, new_gate, with_side, after_next, IsOffer, IsAskedFor, side as side_of}
use Rattle.dmr_gateway.specs.Heard.{frame_in, block_at, has_flags}
use Rattle.dmr_gateway.specs.Packets.{fault_of}
use Rattle.dmr_gateway.specs.SideRules as side
use Rattle.dmr_gateway.specs.declared.answers.Due.{Due}
use Rattle.dmr_gateway.specs.declared.answers.HeardAnswer.{HeardAnswer}
use Rattle.dmr_gateway.specs.declared.heard.Heard.{Heard}
use Rattle.dmr_gateway.specs.declared.outbox.OutboxState.{OutboxState}
use Rattle.dmr_gateway.specs.declared.outbox.Owed.{Owed}
use Rattle.dmr_gateway.specs.SlotBurst.{SlotBurst}
use Rattle.dmr_gateway.specs.declared.queue.Queued.{Queued}
use Rattle.dmr_gateway.specs.declared.side.SideState.{SideState}
use Rattle.dmr_gateway.specs.declared.fault.GatewayFault.{GatewayFault}
use Rattle.dmr_gateway.proofs.Existing.{AreSmall, IsWholeBurst, IsWholeQueued, IsWholeSending, hears_somehow, burst_somehow}
use Rattle.dmr_gateway.proofs.Existing.{queued_somehow}
use Rattle.dmr_record.specs.declared.outgoing.Outgoing.{Outgoing}

-- ---- what comes in
heads_fit : (h : Header) (s : ReceiverState) → IsFitHeader h → IsFitReceiver s → PlacedFits (frame_heard (Heads h) s)
heads_fit (header.Unconfirmed h) s fit own =
    record { state = header_fit (header.Unconfirmed h) s fit own; out = record { delivered = tt; answer = tt } }
heads_fit (header.Confirmed h) s fit own =
    record { state = header_fit (header.Confirmed h) s fit own; out = record { delivered = tt; answer = tt } }
heads_fit (header.ShortData h) s fit own =
    record { state = header_fit (header.ShortData h) s fit own; out = record { delivered = tt; answer = tt } }
heads_fit (header.Status h) s fit own = placed_fit None s own
heads_fit (header.Response h) s fit own = placed_fit None s own

place_fit : (found : Option Header) (flags : Bool) (h : Heard) (s : ReceiverState) → IfSome found IsFitHeader → IsFitReceiver s
    → PlacedFits (frame_heard (frame_in found flags h) s)
place_fit None flags h s fit own = placed_fit (reads (open_of s) (block_at flags h)) s own
place_fit (Some found) flags h s fit own = heads_fit found s fit own

-- ---- what goes out
abbrev pub HasSmallBlocks : SenderState → Type 0
HasSmallBlocks s = HoldsInHand (HoldsOfBlocks (λ block. AreSmall block.octets)) s

-- What is kept to be sent fits, and the octets of the blocks of its packets are octets.
pub record IsWholeOutbox (s : OutboxState) : Type 0 where
  pub sender : IsFitSender s.sender
  pub small : HasSmallBlocks s.sender
  pub queue : All IsWholeQueued s.queue.items
  pub owed : IfSome s.owed IsFitOwed

record IsWholeSender (s : SenderState) : Type 0 where
  fit : IsFitSender s
  small : HasSmallBlocks s

-- An answer is heard, and the frame counts.
counted_whole : (heard : HeardAnswer) (s : SenderState) → IsWholeSender s → IsWholeSender (side.counted_answer heard s)
counted_whole heard s own =
    by_cond IsWholeSender (has_its_flags heard.answer.verdict heard.flag_blocks (sender.blocks_in_hand s.held)) _ _
    (λ counts. record {
      fit = answered_fit heard.answer s own.fit;
      small = answered_keeps (HoldsOfBlocks (λ block. AreSmall block.octets)) heard.answer s own.small;
    })
    (λ other. own)

hears_whole : (answer : Option HeardAnswer) (s : SenderState) → IsWholeSender s → IsWholeSender (side.hears_answer answer s)
hears_whole None s own = own
hears_whole (Some heard) s own = counted_whole heard s own

taken_whole : (s : SenderState) → IsWholeSender s → IsWholeSender (sender.outcome_taken s)
taken_whole s own = record { fit = record { llid = own.fit.llid; held = own.fit.held }; small = own.small }

outbox_hears_whole : (answer : Option HeardAnswer) (s : OutboxState) → IsWholeOutbox s
    → IsWholeOutbox (side.outbox_hears answer s)
outbox_hears_whole answer s own =
    let heard = hears_whole answer (sender.outcome_taken s.sender)
    (taken_whole s.sender (record { fit = own.sender; small = own.small })) in
    record {
      sender = ticked_fit (side.hears_answer answer (sender.outcome_taken s.sender)) heard.fit;
      small = ticked_keeps (HoldsOfBlocks (λ block. AreSmall block.octets))
          (side.hears_answer answer (sender.outcome_taken s.sender)) heard.small;
      queue = own.queue;
      owed = own.owed;
    }

owes_whole : (due : Option Due) (s : OutboxState) → IfSome due IsFitDue → IsWholeOutbox s → IsWholeOutbox (side.owes due s)
owes_whole None s fit own = own
owes_whole (Some due) s fit own = record {
  sender = own.sender;
  small = own.small;
  queue = own.queue;
  owed = record { due = fit; out = omega arith };
}

due_fit : (answer : Option Answer) (blocks : ℕ) → IfSome answer IsFitAnswer → IfSome (due_with answer blocks) IsFitDue
due_fit None blocks fit = tt
due_fit (Some answer) blocks fit = fit

-- The head of the queue is taken in hand.
head_whole : (items : List Queued) (s : OutboxState) → All IsWholeQueued items → IsWholeOutbox s
    → IsWholeOutbox (side.takes_head items s)
head_whole [] s all own = own
head_whole (q ∷ later) s all own =
    let first : IsWholeQueued q = All-head IsWholeQueued q later all in
    record {
      sender = offered_fit q.packet q.route s.sender first.fit.packet first.fit.route own.sender;
      small = offered_keeps (HoldsOfBlocks (λ block. AreSmall block.octets)) q.packet q.route s.sender first.small own.small;
      queue = All-tail IsWholeQueued q later all;
      owed = own.owed;
    }

takes_whole : (held : Option Held) (s : OutboxState) → IsWholeOutbox s → IsWholeOutbox (side.takes_at held s)
takes_whole None s own = head_whole s.queue.items s own.queue own
takes_whole (Some h) s own = own

-- What goes out next, and what is kept then.
pub record IsWholeNext (n : side.Next) : Type 0 where
  pub state : IsWholeOutbox n.state
  pub burst : IfSome n.burst IsWholeSending

try_whole : (found : Option GateBurst) → IfSome found IsFitGateBurst
    → IfSome found (HoldsOfBurst (λ block. AreSmall block.octets)) → IfSome (try_burst found) IsWholeSending
try_whole None fit small = tt
try_whole (Some found) fit small = record { fit = fit; small = small }

next_try_whole : (s : OutboxState) → IsWholeOutbox s → IsWholeNext (side.next_try s)
next_try_whole s own = record {
  state = record {
    sender = sent_fit s.sender own.sender;
    small = sent_keeps (HoldsOfBlocks (λ block. AreSmall block.octets)) s.sender own.small;
    queue = own.queue;
    owed = own.owed;
  };
  burst = try_whole (sender.burst_of s.sender) (burst_fits s.sender own.sender)
      (burst_has (λ block. AreSmall block.octets) s.sender own.small);
}

owed_whole : (o : Owed) → IsFitOwed o → IfSome (side.owed_after o) IsFitOwed
owed_whole o fit =
    by_cond (λ (x : Option Owed). IfSome x IsFitOwed) (ltb o.out (flag_count o.due)) _ _
    (λ more. record { due = fit.due; out = (let below = ltb-true o.out (flag_count o.due) more in omega arith) })
    (λ last. tt)

next_answer_whole : (o : Owed) (s : OutboxState) → IsFitOwed o → IsWholeOutbox s → IsWholeNext (side.next_answer o s)
next_answer_whole o s fit own = record {
  state = record { sender = own.sender; small = own.small; queue = own.queue; owed = owed_whole o fit };
  burst = record { fit = (fit.due, fit.out); small = tt };
}

next_due_whole : (owed : Option Owed) (s : OutboxState) → IfSome owed IsFitOwed → IsWholeOutbox s
    → IsWholeNext (side.next_due owed s)
next_due_whole None s fit own = next_try_whole s own
next_due_whole (Some o) s fit own = next_answer_whole o s fit own

restarted_whole : (owed : Option Owed) → IfSome owed IsFitOwed → IfSome (side.restarted owed) IsFitOwed
restarted_whole None fit = tt
restarted_whole (Some o) fit = record { due = fit.due; out = omega arith }

next_in_whole : (free : Bool) (s : OutboxState) → IsWholeOutbox s → IsWholeNext (side.next_in free s)
next_in_whole true s own =
    by_cond IsWholeNext (sender.is_begun s.sender.held) _ _ (λ begun. next_try_whole s own)
    (λ other. next_due_whole s.owed s own.owed own)
next_in_whole false s own = record {
  state = record {
    sender = cut_fit s.sender own.sender;
    small = cut_keeps (HoldsOfBlocks (λ block. AreSmall block.octets)) s.sender own.small;
    queue = own.queue;
    owed = restarted_whole s.owed own.owed;
  };
  burst = tt;
}

-- what a slot sends next is whole where what it keeps is, and so is what it keeps then
pub next_whole : (free : Bool) (s : OutboxState) → IsWholeOutbox s → IsWholeNext (side.next_out free s)
next_whole free s own = next_in_whole free (side.outbox_takes s) (takes_whole s.sender.held s own)

queued_whole : (q : Queued) (s : OutboxState) → IsWholeQueued q → IsWholeOutbox s → IsWholeOutbox (side.queued q s)
queued_whole q s fit own =
    by_cond IsWholeOutbox (side.has_room s.queue) _ _
    (λ room. record {
      sender = own.sender;
      small = own.small;
      queue = All-push IsWholeQueued s.queue.items q own.queue fit;
      owed = own.owed;
    })
    (λ full. own)

-- ---- a slot
-- What is kept of a slot is whole.
pub record IsWholeSide (s : SideState) : Type 0 where
  pub receiver : IsFitReceiver s.inbox.receiver
  pub outbox : IsWholeOutbox s.outbox

-- what a new slot keeps is whole
pub silent_whole : (llid limit : ℕ) → llid < 2 ^ 24 → IsWholeSide (side.silent_side llid limit)
silent_whole llid limit own = record {
  receiver = record { llid = own; packet = tt; attempt = tt };
  outbox = record {
    sender = record { llid = own; held = tt };
    small = tt;
    queue = All-nil IsWholeQueued;
    owed = tt;
  };
}

pub side_queued_whole : (q : Queued) (s : SideState) → IsWholeQueued q → IsWholeSide s → IsWholeSide (side.side_queued q s)
side_queued_whole q s fit own = record { receiver = own.receiver; outbox = queued_whole q s.outbox fit own.outbox }

pub side_hears_whole : (llid slot : ℕ) (h : Heard) (s : SideState) → IfSome h.header IsFitHeader → IsWholeSide s
    → IsWholeSide (side.side_hears llid slot h s)
side_hears_whole llid slot h s fit own =
    let placed = place_fit h.header (has_flags s.inbox.last s.inbox.before) h s.inbox.receiver fit own.receiver in
    let due = due_fit (side.place_received h s.inbox).out.answer (side.blocks_open (open_of s.inbox.receiver)) placed.out.answer in
    record {
      receiver = placed.state;
      outbox = owes_whole (side.inbox_out h s.inbox).due (side.outbox_hears (side.inbox_out h s.inbox).answer s.outbox) due
          (outbox_hears_whole (side.inbox_out h s.inbox).answer s.outbox own.outbox);
    }

pub side_next_whole : (free : Bool) (s : SideState) → IsWholeSide s → IsWholeSide (side.side_next free s)
side_next_whole free s own = record { receiver = own.receiver; outbox = (next_whole free s.outbox own.outbox).state }

pub side_told_whole : (s : SideState) → IsWholeSide s → IsWholeSide (side.side_told s)
side_told_whole s own = record {
  receiver = own.receiver;
  outbox = record {
    sender = record { llid = own.outbox.sender.llid; held = own.outbox.sender.held };
    small = own.outbox.small;
    queue = own.outbox.queue;
    owed = own.outbox.owed;
  };
}

pub side_emptied_whole : (s : SideState) → IsWholeSide s → IsWholeSide (record s { status = None; packet = None })
side_emptied_whole s own = record { receiver = own.receiver; outbox = own.outbox }

-- ---- the gateway
-- What the gateway keeps is whole, in both slots.
pub record IsWholeGate (g : Gate) : Type 0 where
  pub colour : g.colour < 16
  pub llid : g.llid < 2 ^ 24
  pub first : IsWholeSide g.first
  pub second : IsWholeSide g.second

-- what a new gateway keeps is whole
pub new_whole : (colour llid limit : ℕ) → colour < 16 → llid < 2 ^ 24 → IsWholeGate (new_gate colour llid limit)
new_whole colour llid limit low own = record {
  colour = low;
  llid = own;
  first = silent_whole llid limit own;
  second = silent_whole llid limit own;
}

side_whole : (slot : ℕ) (g : Gate) → IsWholeGate g → IsWholeSide (side_of slot g)
side_whole slot g own = by_cond IsWholeSide (eqb slot 1) g.first g.second (λ one. own.first) (λ two. own.second)

with_side_whole : (slot : ℕ) (s : SideState) (g : Gate) → IsWholeSide s → IsWholeGate g → IsWholeGate (with_side slot s g)
with_side_whole slot s g fit own =
    by_cond IsWholeGate (eqb slot 1) _ _
    (λ one. record { colour = own.colour; llid = own.llid; first = fit; second = own.second })
    (λ two. record { colour = own.colour; llid = own.llid; first = own.first; second = fit })

-- A datagram is offered.
pub record IsWholeOffer (o : Outgoing) (result : Result (Unit {0}) GatewayFault) (before after : Gate) : Type 0 where
  pub is : IsOffer (fault_of o) o result before after
  pub whole : IsWholeGate after

offer_at : (fault : Option GatewayFault) (o : Outgoing) (g : Gate) → fault_of o ≡ fault → IsWholeGate g → AreSmall o.octets
    → (result : Result (Unit {0}) GatewayFault) × (after : Gate) × IsOffer fault o result g after × IsWholeGate after
offer_at (Some fault) o g is own small = (Err fault, g, (refl, refl), own)
offer_at None o g is own small =
    let (q, packet, fit) = queued_somehow g.llid o.confirmed o.full o.length o.octets is small in (
      side.queue_result (side.has_room (side_of o.slot g).outbox.queue),
      with_side o.slot (side.side_queued q (side_of o.slot g)) g,
      (q, packet, refl, refl),
      with_side_whole o.slot (side.side_queued q (side_of o.slot g)) g
          (side_queued_whole q (side_of o.slot g) fit (side_whole o.slot g own)) own,
    )

-- a whole gateway takes or refuses a datagram that is offered, and stays whole
pub offer_somehow : (o : Outgoing) (g : Gate) → IsWholeGate g → AreSmall o.octets
    → (result : Result (Unit {0}) GatewayFault) × (after : Gate) × IsWholeOffer o result g after
offer_somehow o g own small =
    let (result, after, is, whole) = offer_at (fault_of o) o g refl own small in
    (result, after, record { is = is; whole = whole })

-- What goes out for what a slot sends.
out_somehow : (colour llid : ℕ) (sending : Option SlotBurst) → colour < 16 → llid < 2 ^ 24 → IfSome sending IsWholeSending
    → (out : Option Burst) × IsGatewayOut colour llid sending out × IfSome out IsWholeBurst
out_somehow colour llid None low own whole = (None, refl, tt)
out_somehow colour llid (Some sending) low own whole =
    let (b, is, fine) = burst_somehow colour llid sending low own whole in (Some b, (b, is, refl), fine)

-- A slot's place in a frame is heard, and the slot is asked for a burst.
pub record IsWholeAnswer (slot : ℕ) (repeated : Option Burst) (free : Bool) (before : Gate) (burst : Option Burst)
    (after : Gate) : Type 0 where
  pub is : IsAskedFor slot repeated free before burst after
  pub burst_whole : IfSome burst IsWholeBurst
  pub after_whole : IsWholeGate after

-- a whole gateway that hears a slot's place and is asked for a burst has one or none, and stays whole
pub asked_somehow : (slot : ℕ) (repeated : Option Burst) (free : Bool) (g : Gate) → IsWholeGate g
    → (burst : Option Burst) × (after : Gate) × IsWholeAnswer slot repeated free g burst after
asked_somehow slot repeated free g own =
    let (h, hearing) = hears_somehow repeated in
    let heard_side : SideState = side.side_hears g.llid slot h (side_of slot g) in
    let heard : Gate = with_side slot heard_side g in
    let whole : IsWholeGate heard =
    with_side_whole slot heard_side g
    (side_hears_whole g.llid slot h (side_of slot g) hearing.header (side_whole slot g own)) own in
    let mine : IsWholeSide (side_of slot heard) = side_whole slot heard whole in
    let next = next_whole free (side_of slot heard).outbox mine.outbox in
    let (burst, goes, fine) = out_somehow heard.colour heard.llid (side.side_burst free (side_of slot heard)) whole.colour
    whole.llid next.burst in (
      burst,
      after_next slot free heard,
      record {
        is = record {
          heard = heard;
          hears = record { heard = h; reads = hearing.is; state = refl };
          next = goes;
          state = refl;
        };
        burst_whole = fine;
        after_whole = with_side_whole slot (side.side_next free (side_of slot heard)) heard
            (side_next_whole free (side_of slot heard) mine) whole;
      },
    )

-- What became of packets is told, and what came in is taken.
pub told_whole : (g : Gate) → IsWholeGate g
    → IsWholeGate (record g { first = side.side_told g.first; second = side.side_told g.second })
told_whole g own = record {
  colour = own.colour;
  llid = own.llid;
  first = side_told_whole g.first own.first;
  second = side_told_whole g.second own.second;
}

-- a whole gateway stays whole without what it received
pub emptied_whole : (g : Gate) → IsWholeGate g
    → IsWholeGate (record g {
      first = record g.first { status = None; packet = None };
      second = record g.second { status = None; packet = None };
    })
emptied_whole g own = record {
  colour = own.colour;
  llid = own.llid;
  first = side_emptied_whole g.first own.first;
  second = side_emptied_whole g.second own.second;
}
