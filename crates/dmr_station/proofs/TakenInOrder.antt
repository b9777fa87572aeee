-- What a gateway received is taken one by one, and so is what became of its packets.
use Rattle.std.proofs.Common.{◌≡◌, ◌≤◌, [], ◌++◌, length, Option, Some, None, refl, arith, option_to_list}
use Rattle.dmr_arq.specs.declared.sender_state.Outcome.{Outcome}
use Rattle.dmr_gateway.specs.GatewayRules.{Gate, next_received, after_received, next_outcome, after_outcome}
use Rattle.dmr_gateway.specs.SideRules.{side_outcome}
use Rattle.dmr_gateway.specs.declared.received.Received.{Received}
use Rattle.dmr_station.specs.StationRules.{received_of, outcomes_to_tell, received_taken, outcomes_told}

-- 1. What was received.

-- a gateway in whose slots these wait
abbrev with_waiting : Gate → Option Received → Option Received → Option Received → Option Received → Gate
with_waiting g a b c d =
    record g { first = record g.first { status = a; packet = b }; second = record g.second { status = c; packet = d } }

-- what one step of the taking leaves
record Step (g : Gate) : Type 0 where
  received : received_of g ≡ option_to_list (next_received g) ++ received_of (after_received g)
  taken : received_taken (after_received g) ≡ received_taken g
  few : length (received_of g) ≤ 4

step_at : (g : Gate) (a b c d : Option Received) → Step (with_waiting g a b c d)
step_at g None None None None = record { received = refl; taken = refl; few = omega arith }
step_at g None None None (Some w) = record { received = refl; taken = refl; few = omega arith }
step_at g None None (Some z) None = record { received = refl; taken = refl; few = omega arith }
step_at g None None (Some z) (Some w) = record { received = refl; taken = refl; few = omega arith }
step_at g None (Some y) None None = record { received = refl; taken = refl; few = omega arith }
step_at g None (Some y) None (Some w) = record { received = refl; taken = refl; few = omega arith }
step_at g None (Some y) (Some z) None = record { received = refl; taken = refl; few = omega arith }
step_at g None (Some y) (Some z) (Some w) = record { received = refl; taken = refl; few = omega arith }
step_at g (Some x) None None None = record { received = refl; taken = refl; few = omega arith }
step_at g (Some x) None None (Some w) = record { received = refl; taken = refl; few = omega arith }
step_at g (Some x) None (Some z) None = record { received = refl; taken = refl; few = omega arith }
step_at g (Some x) None (Some z) (Some w) = record { received = refl; taken = refl; few = omega arith }
step_at g (Some x) (Some y) None None = record { received = refl; taken = refl; few = omega arith }
step_at g (Some x) (Some y) None (Some w) = record { received = refl; taken = refl; few = omega arith }
step_at g (Some x) (Some y) (Some z) None = record { received = refl; taken = refl; few = omega arith }
step_at g (Some x) (Some y) (Some z) (Some w) = record { received = refl; taken = refl; few = omega arith }

step : (g : Gate) → Step g
step g = step_at g g.first.status g.first.packet g.second.status g.second.packet

-- what waits to be taken is the next record, where there is one, and then what waits behind it
pub received_step : (g : Gate) → received_of g ≡ option_to_list (next_received g) ++ received_of (after_received g)
received_step g = (step g).received

-- taking one record and then all others is taking all
pub taken_step : (g : Gate) → received_taken (after_received g) ≡ received_taken g
taken_step g = (step g).taken

-- at most four records wait to be taken
pub few_received : (g : Gate) → length (received_of g) ≤ 4
few_received g = (step g).few

-- where nothing is taken, nothing waits
nothing_at : (g : Gate) (a b c d : Option Received) → next_received (with_waiting g a b c d) ≡ None
    → (received_of (with_waiting g a b c d) ≡ []) × (received_taken (with_waiting g a b c d) ≡ with_waiting g a b c d)
nothing_at g None None None None e = (refl, refl)
nothing_at g None None None (Some w) e = cc
nothing_at g None None (Some z) d e = cc
nothing_at g None (Some y) c d e = cc
nothing_at g (Some x) b c d e = cc

-- where there is no next record, none waits, and the gateway is as once all are taken
pub nothing_waits : (g : Gate) → next_received g ≡ None → (received_of g ≡ []) × (received_taken g ≡ g)
nothing_waits g e = nothing_at g g.first.status g.first.packet g.second.status g.second.packet e

-- 2. What became of packets.

-- a gateway in whose slots this became of packets
abbrev with_outcomes_of : Gate → Option Outcome → Option Outcome → Gate
with_outcomes_of g a b =
    record g {
      first = record g.first { outbox = record g.first.outbox { sender = record g.first.outbox.sender { outcome = a } } };
      second = record g.second { outbox = record g.second.outbox { sender = record g.second.outbox.sender { outcome = b } } };
    }

record Told (g : Gate) : Type 0 where
  outcomes : option_to_list (next_outcome g) ++ option_to_list (next_outcome (after_outcome g)) ≡ outcomes_to_tell g
  told : after_outcome (after_outcome g) ≡ outcomes_told g

told_at : (g : Gate) (a b : Option Outcome) → Told (with_outcomes_of g a b)
told_at g None None = record { outcomes = refl; told = refl }
told_at g None (Some y) = record { outcomes = refl; told = refl }
told_at g (Some x) None = record { outcomes = refl; told = refl }
told_at g (Some x) (Some y) = record { outcomes = refl; told = refl }

told_twice : (g : Gate) → Told g
told_twice g = told_at g (side_outcome g.first) (side_outcome g.second)

pub both_outcomes : (g : Gate) → option_to_list (next_outcome g) ++ option_to_list (next_outcome (after_outcome g))
    ≡ outcomes_to_tell g
both_outcomes g = (told_twice g).outcomes

pub both_told : (g : Gate) → after_outcome (after_outcome g) ≡ outcomes_told g
both_told g = (told_twice g).told
