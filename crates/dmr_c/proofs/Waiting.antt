-- Where nothing was received, nothing is next, and taking it leaves the station as it is.
use Rattle.std.proofs.Common.{◌≡◌, ℕ, ◌+◌, Option, Some, None, option_to_list, length, refl, sym, ap, ◌∙◌, arith}
use Rattle.dmr_gateway.specs.GatewayRules.{Gate, HasNothingReceived, next_received, after_received}
use Rattle.dmr_gateway.specs.declared.received.Received.{Received}
use Rattle.dmr_station.specs.Station.{State, taken_once}
use Rattle.dmr_station.specs.StationRules.{Counts}

abbrev with_records : Gate → Option Received → Option Received → Option Received → Option Received → Gate
with_records g a b c d =
    record g {
      first = record g.first { status = a; packet = b };
      second = record g.second { status = c; packet = d };
    }

record Nothing (g : Gate) : Type 0 where
  next : next_received g ≡ None
  after : after_received g ≡ g

nothing_at : (g : Gate) (a b c d : Option Received) → a ≡ None → b ≡ None → c ≡ None → d ≡ None → Nothing (with_records g a b c d)
nothing_at g None None None None i j k l = record { next = refl; after = refl }
nothing_at g (Some x) b c d i j k l = cc
nothing_at g None (Some x) c d i j k l = cc
nothing_at g None None (Some x) d i j k l = cc
nothing_at g None None None (Some x) i j k l = cc

nothing_of : (g : Gate) → HasNothingReceived g → Nothing g
nothing_of g h = nothing_at g g.first.status g.first.packet g.second.status g.second.packet h.0.0 h.0.1 h.1.0 h.1.1

pub nothing_next : (s : State) → HasNothingReceived s.memory.gate → next_received s.memory.gate ≡ None
nothing_next s h = (nothing_of s.memory.gate h).next

pub nothing_taken : (s : State) → HasNothingReceived s.memory.gate → s ≡ taken_once s
nothing_taken s h =
    let g : Gate = s.memory.gate in
    let n : ℕ = length (option_to_list (next_received g)) in
    let none : n ≡ 0 = ap (λ (o : Option Received). length (option_to_list o)) (nothing_next s h) in
    let count : s.counts.received ≡ s.counts.received + n = omega (arith, none) in
    let counted : Counts = record s.counts { received = s.counts.received + n } in
    ap (λ (m : ℕ). record s { counts = record s.counts { received = m } }) count
    ∙ ap (λ (x : Gate). record s { memory = record s.memory { gate = x }; counts = counted }) (sym (nothing_of g h).after)
