-- Which number a confirmed packet gets: one more than the last that went to its destination.
use Rattle.std.specs.Prelude.{◌≡◌, ℕ, ◌+◌, ◌%◌, ◌⊎◌, true, List, [], ◌∷◌, Option, Some, None, if◌then◌else◌}
use Rattle.dmr_data.specs.declared.packet.Packet.{Packet}
use Rattle.dmr_arq.specs.declared.answer.Answer.{Answer}
use Rattle.dmr_arq.specs.declared.sender_state.Held.{Held}
use Rattle.dmr_arq.specs.declared.sender_state.Route.{Route}
use Rattle.dmr_arq.specs.SenderRules.{SenderState}
use Rattle.dmr_arq.specs.declared.table.Entry.{Entry}
use Rattle.dmr_arq.specs.SenderRules.{offered, takes, sent, answered, ticked, cut_of, outcome_taken}
use Rattle.dmr_arq.specs.Sources.{IsHeardLast}

-- What a sender sees: a packet is offered; its next burst is asked for; an answer comes; a frame is over; a try can't go
-- on; what became of a packet is taken.
pub data SenderEvent : Type 0 where
  Offers : Packet → Route → SenderEvent
  Sends : SenderEvent
  Hears : Answer → SenderEvent
  Ticks : SenderEvent
  Cuts : SenderEvent
  Tells : SenderEvent

-- What a sender keeps after it has seen this event.
abbrev pub seen : SenderEvent → SenderState → SenderState
seen (Offers packet route) s = offered packet route s
seen Sends s = sent s
seen (Hears answer) s = answered answer s
seen Ticks s = ticked s
seen Cuts s = cut_of s
seen Tells s = outcome_taken s

-- What a sender with this LLID keeps after all events, the newest of them first.
abbrev pub sender_after : ℕ → List SenderEvent → SenderState
sender_after llid [] = record { llid = llid; table = []; held = None; outcome = None }
sender_after llid (newest ∷ earlier) = seen newest (sender_after llid earlier)

-- The number of the packet in hand, 0 where there is none.
abbrev pub number_in_hand : Option Held → ℕ
number_in_hand None = 0
number_in_hand (Some h) = h.number

-- an offer is taken where no packet is in hand; a confirmed packet leaves its destination, and the number that it got
abbrev pub offer_marks : Option Held → Packet → Route → SenderState → List Entry → List Entry
offer_marks None packet route s marks =
    if packet.confirmed
    then record { llid = route.destination; number = number_in_hand (takes packet route s).held } ∷ marks
    else marks
offer_marks (Some h) packet route s marks = marks

-- The confirmed packets that were taken in hand, with one more where this event is an offer of one and the sender had no packet
-- in hand. No other event adds to them.
abbrev pub with_mark : SenderEvent → SenderState → List Entry → List Entry
with_mark (Offers packet route) s marks = offer_marks s.held packet route s marks
with_mark Sends s marks = marks
with_mark (Hears answer) s marks = marks
with_mark Ticks s marks = marks
with_mark Cuts s marks = marks
with_mark Tells s marks = marks

-- The confirmed packets that were taken in hand, each as its destination and its number, the newest of them first.
abbrev pub marks_of : ℕ → List SenderEvent → List Entry
marks_of llid [] = []
marks_of llid (newest ∷ earlier) = with_mark newest (sender_after llid earlier) (marks_of llid earlier)

-- The last packet to this destination had this number, and fewer than 64 other destinations have had one since.
abbrev pub IsMarkedLast : ℕ → ℕ → List Entry → Type 0
IsMarkedLast destination number marks = IsHeardLast (record { llid = destination; number = number }) marks

-- The next number of a destination: one more, modulo 8, than that of the last confirmed packet to it, or 0 where there is none,
-- or at least 64 other destinations have had one since.
abbrev pub IsNextNumber : ℕ → List Entry → ℕ → Type 0
IsNextNumber destination marks number =
    ((last : ℕ) × IsMarkedLast destination last marks × (number ≡ (last + 1) % 8))
    ⊎ (((last : ℕ) → IsMarkedLast destination last marks → ⊥) × (number ≡ 0))

-- After every list of events a confirmed packet that is taken in hand gets the next number of its destination.
abbrev pub SequenceNumbers : Type 0
SequenceNumbers =
    (llid : ℕ) (events : List SenderEvent) (packet : Packet) (route : Route) →
    (sender_after llid events).held ≡ None → packet.confirmed ≡ true →
    IsNextNumber route.destination (marks_of llid events)
    (number_in_hand (offered packet route (sender_after llid events)).held)
