-- Four takes are all.
use Rattle.std.proofs.Common.{◌≡◌, Option, Some, None, option_to_list, refl}
use Rattle.std.specs.List.{flat_map}
use Rattle.dmr_gateway.specs.GatewayRules.{Gate, after_received}
use Rattle.dmr_gateway.specs.declared.received.Received.{Received}
use Rattle.dmr_log.specs.Ears.{gateway_received, gateway_emptied, taken_of}

-- a gateway with these as what it received
abbrev with_all : Gate → (a b c d : Option Received) → Gate
with_all g a b c d =
    record g { first = record g.first { status = a; packet = b }; second = record g.second { status = c; packet = d } }

-- a gateway behind four takes
abbrev pub four_taken : Gate → Gate
four_taken g = after_received (after_received (after_received (after_received g)))

all_taken_with : (g : Gate) (a b c d : Option Received) → four_taken (with_all g a b c d) ≡ gateway_emptied (with_all g a b c d)
all_taken_with g None None None None = refl
all_taken_with g None None None (Some d) = refl
all_taken_with g None None (Some c) None = refl
all_taken_with g None None (Some c) (Some d) = refl
all_taken_with g None (Some b) None None = refl
all_taken_with g None (Some b) None (Some d) = refl
all_taken_with g None (Some b) (Some c) None = refl
all_taken_with g None (Some b) (Some c) (Some d) = refl
all_taken_with g (Some a) None None None = refl
all_taken_with g (Some a) None None (Some d) = refl
all_taken_with g (Some a) None (Some c) None = refl
all_taken_with g (Some a) None (Some c) (Some d) = refl
all_taken_with g (Some a) (Some b) None None = refl
all_taken_with g (Some a) (Some b) None (Some d) = refl
all_taken_with g (Some a) (Some b) (Some c) None = refl
all_taken_with g (Some a) (Some b) (Some c) (Some d) = refl

-- behind four takes nothing is left
pub all_taken : (g : Gate) → four_taken g ≡ gateway_emptied g
all_taken g = all_taken_with g g.first.status g.first.packet g.second.status g.second.packet

taken_are_with : (g : Gate) (a b c d : Option Received)
    → flat_map option_to_list (taken_of (with_all g a b c d)) ≡ gateway_received (with_all g a b c d)
taken_are_with g None None None None = refl
taken_are_with g None None None (Some d) = refl
taken_are_with g None None (Some c) None = refl
taken_are_with g None None (Some c) (Some d) = refl
taken_are_with g None (Some b) None None = refl
taken_are_with g None (Some b) None (Some d) = refl
taken_are_with g None (Some b) (Some c) None = refl
taken_are_with g None (Some b) (Some c) (Some d) = refl
taken_are_with g (Some a) None None None = refl
taken_are_with g (Some a) None None (Some d) = refl
taken_are_with g (Some a) None (Some c) None = refl
taken_are_with g (Some a) None (Some c) (Some d) = refl
taken_are_with g (Some a) (Some b) None None = refl
taken_are_with g (Some a) (Some b) None (Some d) = refl
taken_are_with g (Some a) (Some b) (Some c) None = refl
taken_are_with g (Some a) (Some b) (Some c) (Some d) = refl

-- what four takes give is all that was received
pub taken_are_all : (g : Gate) → flat_map option_to_list (taken_of g) ≡ gateway_received g
taken_are_all g = taken_are_with g g.first.status g.first.packet g.second.status g.second.packet
