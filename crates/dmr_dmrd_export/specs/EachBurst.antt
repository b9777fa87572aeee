-- What the packets of a downlink come to.
use Rattle.std.specs.Prelude.{◌≡◌, List, Option, map, option_to_list}
use Rattle.std.specs.List.{flat_map}
use Rattle.dmr_dmrd_export.specs.Streams.{AreStreamed}
use Rattle.dmr_dmrd_export.specs.declared.burst.RepeatedBurst.{RepeatedBurst}
use Rattle.dmr_dmrd_export.specs.declared.packet.BurstPacket.{BurstPacket}
use Rattle.dmr_dmrd_export.specs.declared.streams.BothStreams.{BothStreams}

-- The bursts of the packets are the repeated bursts, octet for octet and in their order.
abbrev pub EachBurstIsAPacket : Type 0
EachBurstIsAPacket =
    (turn end : BothStreams) (bursts behind : List (Option RepeatedBurst)) (packets : List BurstPacket)
    → AreStreamed turn bursts behind packets end
    → map (λ (p : BurstPacket). p.burst) packets
    ≡ map (λ (b : RepeatedBurst). b.octets) (flat_map option_to_list bursts)
