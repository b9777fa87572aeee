-- What a place of a try comes to, and what is kept and given then.
use Rattle.std.specs.Prelude.{ℕ, List, None}
use Rattle.dmr_data.specs.Join.{joined}
use Rattle.dmr_arq.specs.declared.receiver.Ending.{Ending}
use Rattle.dmr_arq.specs.declared.receiver.Ending.TheVariants.{Partial, Single, Confirmed}
use Rattle.dmr_arq.specs.declared.receiver_state.ReceiverState.{ReceiverState}
use Rattle.dmr_arq.specs.ReceiverRules.{Placed, single_joined, confirmed_joined, pad_of}

-- What a receiver keeps and gives where a place comes to this. The octets are those of the packet that is there whole, if one is.
abbrev pub comes_to : Ending → List ℕ → ReceiverState → Placed
comes_to (Partial answer) octets s = record { state = s; out = record { delivered = None; answer = answer } }
comes_to (Single first) octets s = record { state = s; out = single_joined first (joined octets (pad_of first)) }
comes_to (Confirmed h first) octets s = confirmed_joined h first (joined octets (pad_of first)) s
