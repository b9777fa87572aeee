-- The gateway with which a log listens, frame by frame. It is never asked for a burst, which changes nothing in what it receives.
use Rattle.std.specs.Prelude.{◌≡◌, List, [], ◌∷◌, ◌++◌, Option, Some, None}
use Rattle.dmr_burst.specs.declared.burst.Burst.{Burst}
use Rattle.dmr_gateway.specs.GatewayRules.{Gate, HearsInSlot, next_received, after_received}
use Rattle.dmr_gateway.specs.SideRules.{all_received}
use Rattle.dmr_gateway.specs.declared.received.Received.{Received}

-- what a gateway received in a frame, slot 1's first, and of a slot its status first
abbrev pub gateway_received : Gate → List Received
gateway_received g = all_received g.first ++ all_received g.second

-- The same, taken one by one: four times the next record, as long as there is one.
abbrev pub taken_of : Gate → List (Option Received)
taken_of g =
    let second = after_received g in
    let third = after_received second in
    next_received g ∷ next_received second ∷ next_received third ∷ next_received (after_received third) ∷ []

-- a gateway of which all was taken that it received
abbrev pub gateway_emptied : Gate → Gate
gateway_emptied g =
    record g { first = record g.first { status = None; packet = None }; second = record g.second { status = None; packet = None } }

-- no record
abbrev pub nothing_received : List (Option Received)
nothing_received = None ∷ None ∷ None ∷ None ∷ []

-- A gateway hears what both slots repeat in a frame, slot 1 first.
pub record HearsFrame (burst_1 burst_2 : Option Burst) (before after : Gate) : Type 0 where
  pub between : Gate
  pub first : HearsInSlot 1 burst_1 before between
  pub second : HearsInSlot 2 burst_2 between after

-- Where a log has a gateway, all is taken that it received in the frame before, and then it hears the next frame. Where it has
-- none, nothing is received.
abbrev pub ListensOn : Option Gate → (burst_1 burst_2 : Option Burst) → List (Option Received) → Option Gate → Type 0
ListensOn None burst_1 burst_2 received after = (received ≡ nothing_received) × (after ≡ None)
ListensOn (Some g) burst_1 burst_2 received after =
    (received ≡ taken_of g) × ((next : Gate) × HearsFrame burst_1 burst_2 (gateway_emptied g) next × (after ≡ Some next))

-- what a log's gateway received in its last frame, and nothing where there is none
abbrev pub received_last : Option Gate → List (Option Received)
received_last None = nothing_received
received_last (Some g) = taken_of g
