-- A sender's table has the last 64 destinations of confirmed packets, so a packet gets the next number of its own.
use Rattle.std.proofs.Common.{◌≡◌, ℕ, ◌+◌, ◌%◌, ◌⊎◌, inl, inr, ltb, eqb, Bool, true, false, List, [], ◌∷◌, length, Option}
use Rattle.std.proofs.Common.{Some, None, refl, sym, ◌∙◌, ap, subst}
use Rattle.std.proofs.lemmas.Bool.{eq-eqb}
use Rattle.dmr_data.specs.declared.packet.Packet.{Packet}
use Rattle.dmr_arq.specs.declared.answer.Answer.{Answer}
use Rattle.dmr_arq.specs.declared.answer.Verdict.{Verdict}
use Rattle.dmr_arq.specs.declared.answer.Verdict.TheVariants.{Ack, Failed, Selective}
use Rattle.dmr_arq.specs.declared.sender_state.Held.{Held}
use Rattle.dmr_arq.specs.declared.sender_state.Phase.{Phase}
use Rattle.dmr_arq.specs.declared.sender_state.Phase.TheVariants.{Due, Sending, Waiting}
use Rattle.dmr_arq.specs.declared.sender_state.Route.{Route}
use Rattle.dmr_arq.specs.SenderRules.{SenderState}
use Rattle.dmr_arq.specs.declared.serials.Selection.{Selection}
use Rattle.dmr_arq.specs.declared.table.Entry.{Entry}
use Rattle.dmr_arq.specs.ReceiverMeaning.{sources, last}
use Rattle.dmr_arq.specs.SenderMeaning.{SenderEvent, Offers, Sends, Hears, Ticks, Cuts, Tells, seen, sender_after, number_in_hand}
use Rattle.dmr_arq.specs.SenderMeaning.{offer_marks, with_mark, marks_of, IsNextNumber, SequenceNumbers}
use Rattle.dmr_arq.specs.SenderRules as sender
use Rattle.dmr_arq.specs.Table.{holds, next_number, remembered}
use Rattle.dmr_arq.proofs.HeardLast.{newest_of, heard_kept, kept_heard}
use Rattle.dmr_arq.proofs.Sound.{by_cond}
use Rattle.dmr_arq.proofs.Sources.{remembers}

-- 1. Only an offer changes the table.

-- this table is kept
abbrev Keeps : List Entry → SenderState → Type 0
Keeps table s = s.table ≡ table

due_keeps : (selection : Selection) (h : Held) (s : SenderState) → Keeps s.table (sender.due_again selection h s)
due_keeps selection h s = by_cond (Keeps s.table) (ltb 0 h.tries_left) _ _ (λ again. refl) (λ over. refl)

all_out_keeps : (h : Held) (s : SenderState) → Keeps s.table (sender.all_out h s)
all_out_keeps h s = by_cond (Keeps s.table) h.packet.confirmed _ _ (λ yes. refl) (λ no. refl)

sent_at_keeps : (p : Phase) (h : Held) (s : SenderState) → Keeps s.table (sender.burst_out_at p h s)
sent_at_keeps Due h s = refl
sent_at_keeps (Sending out) h s =
    by_cond (Keeps s.table) (ltb (out + 1) (length h.selection.serials + 3)) _ _ (λ more. refl) (λ all. all_out_keeps h s)
sent_at_keeps (Waiting left) h s = refl

sent_keeps : (o : Option Held) (s : SenderState) → Keeps s.table (sender.sent_in o s)
sent_keeps None s = refl
sent_keeps (Some h) s = sent_at_keeps h.phase h s

verdict_keeps : (verdict : Verdict) (flags : ℕ) (h : Held) (s : SenderState) → Keeps s.table (sender.verdict_on verdict flags h s)
verdict_keeps Ack flags h s = refl
verdict_keeps Failed flags h s = due_keeps (sender.all_blocks h.packet) h s
verdict_keeps Selective flags h s =
    due_keeps (sender.selection_of h.packet (sender.unset 0 (length h.packet.blocks) flags)) h s

answered_at_keeps : (p : Phase) (a : Answer) (h : Held) (s : SenderState) → Keeps s.table (sender.answered_at p a h s)
answered_at_keeps Due a h s = refl
answered_at_keeps (Sending out) a h s = refl
answered_at_keeps (Waiting left) a h s =
    by_cond (Keeps s.table) (sender.is_answer_to s.llid h a) _ _ (λ yes. verdict_keeps a.verdict a.flags h s) (λ other. refl)

answered_keeps : (o : Option Held) (a : Answer) (s : SenderState) → Keeps s.table (sender.answered_in o a s)
answered_keeps None a s = refl
answered_keeps (Some h) a s = answered_at_keeps h.phase a h s

ticked_at_keeps : (p : Phase) (h : Held) (s : SenderState) → Keeps s.table (sender.ticked_at p h s)
ticked_at_keeps Due h s = refl
ticked_at_keeps (Sending out) h s = refl
ticked_at_keeps (Waiting left) h s =
    by_cond (Keeps s.table) (ltb 1 left) _ _ (λ more. refl) (λ over. due_keeps (sender.all_blocks h.packet) h s)

ticked_keeps : (o : Option Held) (s : SenderState) → Keeps s.table (sender.ticked_in o s)
ticked_keeps None s = refl
ticked_keeps (Some h) s = ticked_at_keeps h.phase h s

cut_at_keeps : (p : Phase) (h : Held) (s : SenderState) → Keeps s.table (sender.cut_at p h s)
cut_at_keeps Due h s = refl
cut_at_keeps (Sending out) h s = due_keeps h.selection h s
cut_at_keeps (Waiting left) h s = refl

cut_keeps : (o : Option Held) (s : SenderState) → Keeps s.table (sender.cut_in o s)
cut_keeps None s = refl
cut_keeps (Some h) s = cut_at_keeps h.phase h s

-- 2. The table has the last 64 destinations.

-- a packet is taken in hand, confirmed or not
take_keeps : (confirmed : Bool) (packet : Packet) (route : Route) (s : SenderState) (calls : List Entry) →
    packet.confirmed ≡ confirmed → s.table ≡ last 64 (sources calls) →
    (sender.takes packet route s).table ≡ last 64 (sources (offer_marks None packet route s calls))
take_keeps true packet route s calls c e =
    let entry : Entry = record { llid = route.destination; number = next_number route.destination s.table } in
    rw c (ap (remembered entry) e ∙ remembers entry calls)
take_keeps false packet route s calls c e = rw c e

offer_keeps : (held : Option Held) (packet : Packet) (route : Route) (s : SenderState) (calls : List Entry) →
    s.table ≡ last 64 (sources calls) →
    (sender.offered_at held packet route s).table ≡ last 64 (sources (offer_marks held packet route s calls))
offer_keeps None packet route s calls e = take_keeps packet.confirmed packet route s calls refl e
offer_keeps (Some h) packet route s calls e = e

seen_keeps : (event : SenderEvent) (s : SenderState) (calls : List Entry) → s.table ≡ last 64 (sources calls) →
    (seen event s).table ≡ last 64 (sources (with_mark event s calls))
seen_keeps (Offers packet route) s calls e = offer_keeps s.held packet route s calls e
seen_keeps Sends s calls e = sent_keeps s.held s ∙ e
seen_keeps (Hears answer) s calls e = answered_keeps s.held answer s ∙ e
seen_keeps Ticks s calls e = ticked_keeps s.held s ∙ e
seen_keeps Cuts s calls e = cut_keeps s.held s ∙ e
seen_keeps Tells s calls e = e

table_is : (llid : ℕ) (events : List SenderEvent) → (sender_after llid events).table ≡ last 64 (sources (marks_of llid events))
table_is llid [] = refl
table_is llid (newest ∷ earlier) = seen_keeps newest (sender_after llid earlier) (marks_of llid earlier) (table_is llid earlier)

-- 3. So the next number is one more than the last that the table has.

-- the destination's entry in a table, or none
abbrev Found : ℕ → List Entry → Type 0
Found destination table =
    ((last : ℕ) × (holds (record { llid = destination; number = last }) table ≡ true)
    × (next_number destination table ≡ (last + 1) % 8))
    ⊎ (((last : ℕ) → holds (record { llid = destination; number = last }) table ≡ false) × (next_number destination table ≡ 0))

found_at : (destination : ℕ) (x : Entry) (table : List Entry) (same : Bool) → eqb x.llid destination ≡ same →
    Found destination table → Found destination (x ∷ table)
found_at destination x table true e f = inl (x.number, rw (e, eq-eqb x.number x.number refl) refl, rw e refl)
found_at destination x table false e (inl h) = inl (h.0, rw e h.1, rw e h.2)
found_at destination x table false e (inr h) = inr ((λ number. rw e (h.0 number)), rw e h.1)

found : (destination : ℕ) (table : List Entry) → Found destination table
found destination [] = inr ((λ number. refl), refl)
found destination (x ∷ table) = found_at destination x table (eqb x.llid destination) refl (found destination table)

next_at : (destination : ℕ) (calls : List Entry) → Found destination (last 64 (sources calls)) →
    IsNextNumber destination calls (next_number destination (last 64 (sources calls)))
next_at destination calls (inl h) =
    inl (h.0, kept_heard (record { llid = destination; number = h.0 }) calls h.1 (newest_of destination calls), h.2)
next_at destination calls (inr h) =
    inr (
      (λ number called.
          let kept = heard_kept (record { llid = destination; number = number }) calls called in
          let none = h.0 number in absurd (cc)),
      h.1,
    )

next_is : (destination : ℕ) (calls table : List Entry) → table ≡ last 64 (sources calls) →
    IsNextNumber destination calls (next_number destination table)
next_is destination calls table e =
    subst (λ (t : List Entry). IsNextNumber destination calls (next_number destination t)) (sym e)
    (next_at destination calls (found destination (last 64 (sources calls))))

-- a confirmed packet that is taken in hand
taken_number : (held : Option Held) (packet : Packet) (route : Route) (s : SenderState) (calls : List Entry) → held ≡ None →
    packet.confirmed ≡ true → s.table ≡ last 64 (sources calls) →
    IsNextNumber route.destination calls (number_in_hand (sender.offered_at held packet route s).held)
taken_number None packet route s calls n c e = rw c (next_is route.destination calls s.table e)
taken_number (Some h) packet route s calls n c e = absurd (cc)

-- a confirmed packet that is taken in hand gets the next number of its destination
pub numbers : SequenceNumbers
numbers llid events packet route none confirmed =
    let s : SenderState = sender_after llid events in
    taken_number s.held packet route s (marks_of llid events) none confirmed (table_is llid events)
