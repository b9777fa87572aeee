-- What a sender keeps fits its fields, whatever happens, and so does what goes out.
use Rattle.std.proofs.Common.{◌≡◌, ℕ, zero, suc, ◌+◌, ◌/◌, ◌%◌, ◌^◌, ◌-◌, ◌<◌, ◌≤◌, ltb, eqb, Bool, true, false, List, [], ◌∷◌}
use Rattle.std.proofs.Common.{length, slice_get, Option, Some, None, option_map, IfSome, refl, sym, ◌∙◌, subst, arith, inl, inr}
use Rattle.std.proofs.lemmas.List.Elements.{All-get_or}
use Rattle.std.proofs.lemmas.Option.{slice_get_cases, get_or_from_slice_get}
use Rattle.dmr_data.proofs.Packets.{written_is_packet}
use Rattle.dmr_data.proofs.WrittenPackets.{packet_fits}
use Rattle.dmr_data.specs.Block.{FitsBlock, payload}
use Rattle.dmr_data.specs.Header.{IsFitHeader}
use Rattle.dmr_data.specs.declared.block.Block.{Block}
use Rattle.dmr_data.specs.declared.header.Header.TheVariants as header
use Rattle.dmr_data.specs.declared.packet.Packet.{Packet}
use Rattle.dmr_data.specs.declared.rate.Rate.{Rate}
use Rattle.dmr_data.specs.declared.rate.Rate.TheVariants.{Half, Full}
use Rattle.dmr_arq.specs.Fit.{IsFitRoute, IsFitGateBurst, IsOfferedPacket, IsFitHeld, IsFitSender}
use Rattle.dmr_arq.specs.SenderRules as sender
use Rattle.std.specs.Option.{option_map_or}
use Rattle.dmr_arq.specs.declared.answer.Answer.{Answer}
use Rattle.dmr_arq.specs.declared.answer.Verdict.{Verdict}
use Rattle.dmr_arq.specs.declared.answer.Verdict.TheVariants.{Ack, Failed, Selective}
use Rattle.dmr_arq.specs.declared.sender_state.Held.{Held}
use Rattle.dmr_arq.specs.declared.sender_state.Phase.{Phase}
use Rattle.dmr_arq.specs.declared.sender_state.Phase.TheVariants as phase
use Rattle.dmr_arq.specs.declared.sender_state.Route.{Route}
use Rattle.dmr_arq.specs.SenderRules.{SenderState}
use Rattle.dmr_arq.specs.declared.serials.Selection.{Selection}
use Rattle.dmr_arq.specs.declared.table.Entry.{Entry}
use Rattle.dmr_arq.proofs.Counting.{length_serials}
use Rattle.dmr_arq.proofs.Sound.{by_cond}

-- 1. Blocks that are tried.

fewer : (first count flags : ℕ) → length (sender.unset first count flags) ≤ count
fewer first zero flags = omega arith
fewer first (suc count) flags =
    let k = fewer (first + 1) count (flags / 2) in
    by_cond (λ (xs : List ℕ). length xs ≤ suc count) (eqb (flags % 2) 0) _ _ (λ e. omega arith) (λ e. omega arith)

all_few : (packet : Packet) → IsOfferedPacket packet → length (sender.all_blocks packet).serials ≤ 127
all_few packet fit =
    let l = length_serials 0 (length packet.blocks) in
    let most : length packet.blocks ≤ 127 = fit.1.most in
    omega (arith, l, most)

selection_few : (packet : Packet) (serials : List ℕ) → IsOfferedPacket packet → length serials ≤ length packet.blocks →
    length (sender.selection_of packet serials).serials ≤ 127
selection_few packet [] fit le = all_few packet fit
selection_few packet (first ∷ rest) fit le =
    let most : length packet.blocks ≤ 127 = fit.1.most in
    omega arith

-- 2. The packet in hand.

phase_fit : (h : Held) (p : Phase) → IsFitHeld h → IsFitHeld (record h { phase = p })
phase_fit h p fit = record { packet = fit.packet; route = fit.route; number = fit.number; serials = fit.serials }

due_fit : (selection : Selection) (h : Held) (s : SenderState) → s.llid < 2 ^ 24 → IsFitHeld h → length selection.serials ≤ 127 →
    IsFitSender (sender.due_again selection h s)
due_fit selection h s own fit few =
    by_cond IsFitSender (ltb 0 h.tries_left) _ _
    (λ again.
    record { llid = own; held = record { packet = fit.packet; route = fit.route; number = fit.number; serials = few } })
    (λ over. record { llid = own; held = tt })

-- the number after that of an entry, as `next_number` has it
abbrev number_after : Option Entry → ℕ
number_after entry = option_map_or (λ (last : Entry). (last.number + 1) % 8) entry 0

number_small : (o : Option Entry) → number_after o < 2 ^ 3
number_small None = omega arith
number_small (Some e) = omega arith

takes_fit : (packet : Packet) (route : Route) (s : SenderState) → IsOfferedPacket packet → IsFitRoute route → IsFitSender s →
    IsFitSender (sender.takes packet route s)
takes_fit packet route s fit to own =
    by_cond IsFitSender packet.confirmed _ _
    (λ c.
    record {
      llid = own.llid;
      held = record { packet = fit; route = to; number = number_small _; serials = all_few packet fit };
    })
    (λ u.
    record {
      llid = own.llid;
      held = record { packet = fit; route = to; number = omega arith; serials = all_few packet fit };
    })

offered_at_fit : (o : Option Held) (packet : Packet) (route : Route) (s : SenderState) → IsOfferedPacket packet → IsFitRoute route →
    IsFitSender s → IsFitSender (sender.offered_at o packet route s)
offered_at_fit None packet route s fit to own = takes_fit packet route s fit to own
offered_at_fit (Some h) packet route s fit to own = own

-- all that a sender keeps fits its fields still after the offer of a packet whose route does
pub offered_fit : (packet : Packet) (route : Route) (s : SenderState) → IsOfferedPacket packet → IsFitRoute route → IsFitSender s →
    IsFitSender (sender.offered packet route s)
offered_fit packet route s fit to own = offered_at_fit s.held packet route s fit to own

ticked_at_fit : (p : Phase) (h : Held) (s : SenderState) → IsFitHeld h → IsFitSender s → IsFitSender (sender.ticked_at p h s)
ticked_at_fit phase.Due h s fit own = own
ticked_at_fit (phase.Sending out) h s fit own = own
ticked_at_fit (phase.Waiting left) h s fit own =
    by_cond IsFitSender (ltb 1 left) _ _
    (λ more. record { llid = own.llid; held = phase_fit h (phase.Waiting (left - 1)) fit })
    (λ over. due_fit (sender.all_blocks h.packet) h s own.llid fit (all_few h.packet fit.packet))

ticked_in_fit : (o : Option Held) (s : SenderState) → IfSome o IsFitHeld → IsFitSender s → IsFitSender (sender.ticked_in o s)
ticked_in_fit None s fit own = own
ticked_in_fit (Some h) s fit own = ticked_at_fit h.phase h s fit own

-- the same, where a frame is over
pub ticked_fit : (s : SenderState) → IsFitSender s → IsFitSender (sender.ticked s)
ticked_fit s own = ticked_in_fit s.held s own.held own

verdict_fit : (verdict : Verdict) (flags : ℕ) (h : Held) (s : SenderState) → s.llid < 2 ^ 24 → IsFitHeld h →
    IsFitSender (sender.verdict_on verdict flags h s)
verdict_fit Ack flags h s own fit = record { llid = own; held = tt }
verdict_fit Failed flags h s own fit = due_fit (sender.all_blocks h.packet) h s own fit (all_few h.packet fit.packet)
verdict_fit Selective flags h s own fit =
    due_fit (sender.selection_of h.packet (sender.unset 0 (length h.packet.blocks) flags)) h s own fit
    (selection_few h.packet (sender.unset 0 (length h.packet.blocks) flags) fit.packet (fewer 0 (length h.packet.blocks) flags))

answered_at_fit : (p : Phase) (a : Answer) (h : Held) (s : SenderState) → IsFitHeld h → IsFitSender s →
    IsFitSender (sender.answered_at p a h s)
answered_at_fit phase.Due a h s fit own = own
answered_at_fit (phase.Sending out) a h s fit own = own
answered_at_fit (phase.Waiting left) a h s fit own =
    by_cond IsFitSender (sender.is_answer_to s.llid h a) _ _ (λ yes. verdict_fit a.verdict a.flags h s own.llid fit) (λ other. own)

answered_in_fit : (o : Option Held) (a : Answer) (s : SenderState) → IfSome o IsFitHeld → IsFitSender s →
    IsFitSender (sender.answered_in o a s)
answered_in_fit None a s fit own = own
answered_in_fit (Some h) a s fit own = answered_at_fit h.phase a h s fit own

-- the same, after an answer
pub answered_fit : (a : Answer) (s : SenderState) → IsFitSender s → IsFitSender (sender.answered a s)
answered_fit a s own = answered_in_fit s.held a s own.held own

cut_at_fit : (p : Phase) (h : Held) (s : SenderState) → IsFitHeld h → IsFitSender s → IsFitSender (sender.cut_at p h s)
cut_at_fit phase.Due h s fit own = own
cut_at_fit (phase.Sending out) h s fit own = due_fit h.selection h s own.llid fit fit.serials
cut_at_fit (phase.Waiting left) h s fit own = own

cut_in_fit : (o : Option Held) (s : SenderState) → IfSome o IsFitHeld → IsFitSender s → IsFitSender (sender.cut_in o s)
cut_in_fit None s fit own = own
cut_in_fit (Some h) s fit own = cut_at_fit h.phase h s fit own

-- the same, after a frame in which a begun try could not go on
pub cut_fit : (s : SenderState) → IsFitSender s → IsFitSender (sender.cut_of s)
cut_fit s own = cut_in_fit s.held s own.held own

out_is_fit : (out : ℕ) (h : Held) (s : SenderState) → s.llid < 2 ^ 24 → IsFitHeld h → IsFitSender (sender.out_is out h s)
out_is_fit out h s own fit =
    by_cond IsFitSender (ltb out (length h.selection.serials + 3)) _ _
    (λ more. record { llid = own; held = phase_fit h (phase.Sending out) fit })
    (λ all. by_cond IsFitSender h.packet.confirmed _ _
    (λ c. record { llid = own; held = phase_fit h (phase.Waiting 20) fit })
    (λ u. record { llid = own; held = tt }))

sent_at_fit : (p : Phase) (h : Held) (s : SenderState) → IsFitHeld h → IsFitSender s → IsFitSender (sender.burst_out_at p h s)
sent_at_fit phase.Due h s fit own =
    record {
      llid = own.llid;
      held = record { packet = fit.packet; route = fit.route; number = fit.number; serials = fit.serials };
    }
sent_at_fit (phase.Sending out) h s fit own = out_is_fit (out + 1) h s own.llid fit
sent_at_fit (phase.Waiting left) h s fit own = own

sent_in_fit : (o : Option Held) (s : SenderState) → IfSome o IsFitHeld → IsFitSender s → IsFitSender (sender.sent_in o s)
sent_in_fit None s fit own = own
sent_in_fit (Some h) s fit own = sent_at_fit h.phase h s fit own

-- the same, where a burst has gone out
pub sent_fit : (s : SenderState) → IsFitSender s → IsFitSender (sender.sent s)
sent_fit s own = sent_in_fit s.held s own.held own

-- 3. Bursts of a try.

payload_most : (rate : Rate) (confirmed : Bool) → payload rate confirmed ≤ 24
payload_most Half true = omega arith
payload_most Half false = omega arith
payload_most Full true = omega arith
payload_most Full false = omega arith

pad_fits : (packet : Packet) → IsOfferedPacket packet → packet.pad < 32
pad_fits packet fit =
    let few : packet.pad < payload packet.rate packet.confirmed = fit.1.fewest in
    let most : payload packet.rate packet.confirmed ≤ 24 = payload_most packet.rate packet.confirmed in
    omega arith

confirmed_fits : (llid : ℕ) (h : Held) → llid < 2 ^ 24 → IsFitHeld h →
    IsFitHeader (header.Confirmed (sender.confirmed_header llid h))
confirmed_fits llid h own fit =
    let pad : h.packet.pad < 32 = pad_fits h.packet fit.packet in
    let sap : h.route.sap < 2 ^ 4 = fit.route.sap in
    let destination : h.route.destination < 2 ^ 24 = fit.route.destination in
    let number : h.number < 2 ^ 3 = fit.number in
    let few : length h.selection.serials ≤ 127 = fit.serials in
    (omega arith, (omega arith, (sap, (omega arith, (destination, (own, (omega arith, (number, (omega arith, tt)))))))))

unconfirmed_fits : (llid : ℕ) (h : Held) → llid < 2 ^ 24 → IsFitHeld h →
    IsFitHeader (header.Unconfirmed (record {
      group = h.route.group;
      wanted = false;
      pad = h.packet.pad;
      sap = h.route.sap;
      destination = h.route.destination;
      source = llid;
      full = true;
      blocks = length h.selection.serials;
      fragment = 0;
    }))
unconfirmed_fits llid h own fit =
    let pad : h.packet.pad < 32 = pad_fits h.packet fit.packet in
    let sap : h.route.sap < 2 ^ 4 = fit.route.sap in
    let destination : h.route.destination < 2 ^ 24 = fit.route.destination in
    let few : length h.selection.serials ≤ 127 = fit.serials in
    (omega arith, (omega arith, (sap, (omega arith, (destination, (own, (omega arith, (omega arith, tt))))))))

header_fits : (llid : ℕ) (h : Held) → llid < 2 ^ 24 → IsFitHeld h → IsFitHeader (sender.header_of llid h)
header_fits llid h own fit =
    by_cond IsFitHeader h.packet.confirmed _ _ (λ c. confirmed_fits llid h own fit) (λ u. unconfirmed_fits llid h own fit)

-- a block of a packet that is offered fits its rate
block_fits : (packet : Packet) (place : ℕ) (b : Block) → IsOfferedPacket packet → slice_get packet.blocks place ≡ Some b →
    FitsBlock packet.rate b.serial b.octets
block_fits packet place b fit found =
    elim (slice_get_cases packet.blocks place).1 [
      | inl k ↦ let P : Block → Type 0 = λ x. FitsBlock packet.rate x.serial x.octets in
          subst P (get_or_from_slice_get packet.blocks place b b found)
          (All-get_or P packet.blocks place b k.1 (packet_fits fit.0 packet (written_is_packet fit.0 packet fit.1)))
      | inr k ↦ let z : ◌≡◌ {A = Option Block} None (Some b) = sym k.1 ∙ found in cc
    ]

found_fits : (rate : Rate) (found : Option Block) → ((b : Block) → found ≡ Some b → FitsBlock rate b.serial b.octets) →
    IfSome (option_map (sender.block_burst rate) found) IsFitGateBurst
found_fits rate None fits = tt
found_fits rate (Some b) fits = fits b refl

place_fits : (packet : Packet) (serial : Option ℕ) → IsOfferedPacket packet →
    IfSome (option_map (sender.block_burst packet.rate) (sender.block_in packet serial)) IsFitGateBurst
place_fits packet None fit = tt
place_fits packet (Some serial) fit =
    found_fits packet.rate (slice_get packet.blocks serial) (λ b e. block_fits packet serial b fit e)

number_fits : (llid : ℕ) (h : Held) (out : ℕ) → llid < 2 ^ 24 → IsFitHeld h → IfSome (sender.burst_number llid h out) IsFitGateBurst
number_fits llid h zero own fit =
    let few : length h.selection.serials ≤ 127 = fit.serials in
    let k : length h.selection.serials + 2 < 2 ^ 8 = omega arith in (k, fit.route)
number_fits llid h (suc zero) own fit =
    let few : length h.selection.serials ≤ 127 = fit.serials in
    let k : length h.selection.serials + 1 < 2 ^ 8 = omega arith in (k, fit.route)
number_fits llid h (suc (suc zero)) own fit = header_fits llid h own fit
number_fits llid h (suc (suc (suc place))) own fit = place_fits h.packet (slice_get h.selection.serials place) fit.packet

burst_at_fits : (p : Phase) (llid : ℕ) (h : Held) → llid < 2 ^ 24 → IsFitHeld h → IfSome (sender.burst_at p llid h) IsFitGateBurst
burst_at_fits phase.Due llid h own fit = number_fits llid h 0 own fit
burst_at_fits (phase.Sending out) llid h own fit = number_fits llid h out own fit
burst_at_fits (phase.Waiting left) llid h own fit = tt

burst_in_fits : (o : Option Held) (llid : ℕ) → llid < 2 ^ 24 → IfSome o IsFitHeld → IfSome (sender.burst_in o llid) IsFitGateBurst
burst_in_fits None llid own fit = tt
burst_in_fits (Some h) llid own fit = burst_at_fits h.phase llid h own fit

-- a sender's burst fits its fields, where it has one to send
pub burst_fits : (s : SenderState) → IsFitSender s → IfSome (sender.burst_of s) IsFitGateBurst
burst_fits s own = burst_in_fits s.held s.llid own.llid own.held
