-- What both slots give, frame by frame.
use Rattle.std.proofs.Common.{ℕ, List, [], ◌∷◌, map, slice_index_or, Option, None}
use Rattle.std.specs.Prelude.{zip}
use Rattle.dmr_burst.specs.declared.burst.Burst.{Burst}
use Rattle.dmr_slot.specs.ChannelMeaning.{Claim, claims_of}
use Rattle.dmr_slot.specs.declared.line.SlotOut.{SlotOut}
use Rattle.dmr_station.specs.GatewayMeaning.{Given}

-- A slot of a frame.
abbrev pub slot_in : ℕ → List (Option (List ℕ)) → Option (List ℕ)
slot_in number frame = slice_index_or frame number None

-- The bursts that the gateway has for slot 1 and for slot 2, frame by frame.
abbrev pub gates_of : List Given → List Given → List (List (Option Burst))
gates_of first second = map (λ (given : Given × Given). given.0.burst ∷ given.1.burst ∷ []) (zip first second)

-- What claims the slots of each frame, with what the gateway has for them.
abbrev pub claims_in : List (List SlotOut) → List (List (Option Burst)) → List (List Claim)
claims_in outs gates = map (λ (frame : List SlotOut × List (Option Burst)). claims_of frame.0 frame.1) (zip outs gates)
