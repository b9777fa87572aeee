-- A datagram that is offered is counted, and again where it is refused.
use Rattle.std.proofs.Common.{◌≡◌, ℕ, ◌+◌, Result, ap, ◌∙◌, subst}
use Rattle.dmr_gateway.specs.GatewayRules.{IsOffer, refusal}
use Rattle.dmr_gateway.specs.Packets.{fault_of}
use Rattle.dmr_gateway.specs.declared.fault.GatewayFault.{GatewayFault}
use Rattle.dmr_record.specs.declared.outgoing.Outgoing.{Outgoing}
use Rattle.dmr_station.specs.StationRules.{StationMemory}
use Rattle.dmr_station.specs.Station.{State, IsOffered, state_of}
use Rattle.dmr_station.specs.declared.station.Counts.{Counts}

-- A station goes by what the gateway makes of an offer where it counts it, and counts it again where it is refused.
pub one_offer : (before : State) (m next : StationMemory) (c : Counts) (o : Outgoing) (result : Result (Unit {0}) GatewayFault)
    (refused : ℕ)
    → state_of m c ≡ before → IsOffer (fault_of o) o result m.gate next.gate → next ≡ record m { gate = next.gate }
    → refused ≡ c.refused + refusal result
    → IsOffered before o (state_of next (record c { offered = c.offered + 1; refused = refused }))
one_offer before m next c o result refused is offer others count =
    subst (λ (s : State). IsOffered s o (state_of next (record c { offered = c.offered + 1; refused = refused }))) is
    (record {
      result = result;
      gate = next.gate;
      offer = offer;
      state = ap (λ (x : StationMemory). state_of x (record c { offered = c.offered + 1; refused = refused })) others
          ∙ ap (λ (n : ℕ). state_of (record m { gate = next.gate }) (record c { offered = c.offered + 1; refused = n })) count;
    })
