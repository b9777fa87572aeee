-- Each repeated burst is one packet.
use Rattle.std.proofs.Common.{◌≡◌, ℕ, List, [], ◌∷◌, ◌++◌, map, Option, Some, None, option_to_list, sym, ap, ◌∙◌}
use Rattle.std.proofs.lemmas.List.{map-append}
use Rattle.std.specs.List.{flat_map}
use Rattle.dmr_link.specs.declared.full_lc.FullLc.{FullLc}
use Rattle.dmr_recording.specs.declared.place.Place.{Place}
use Rattle.dmr_dmrd_export.specs.Streams.{AreStreamed, IsStreamed}
use Rattle.dmr_dmrd_export.specs.declared.burst.RepeatedBurst.{RepeatedBurst}
use Rattle.dmr_dmrd_export.specs.declared.packet.BurstPacket.{BurstPacket}
use Rattle.dmr_dmrd_export.specs.declared.stream.SlotStream.{SlotStream}
use Rattle.dmr_dmrd_export.specs.declared.streams.BothStreams.{BothStreams}

abbrev burst_of : BurstPacket → List ℕ
burst_of p = p.burst

abbrev octets_of : RepeatedBurst → List ℕ
octets_of b = b.octets

one_each : (before after : SlotStream) (names names' : ℕ) (place : Place) (burst : Option RepeatedBurst) (lc : Option FullLc)
    (packet : Option BurstPacket) → IsStreamed before names place burst lc packet after names'
    → map burst_of (option_to_list packet) ≡ map octets_of (option_to_list burst)
one_each before after names names' place None lc packet (silent, none, same) =
    ap (λ (p : Option BurstPacket). map burst_of (option_to_list p)) none
one_each before after names names' place (Some burst) lc packet (one, is, sent) =
    ap (λ (p : Option BurstPacket). map burst_of (option_to_list p)) is
    ∙ ap (λ (p : BurstPacket). p.burst ∷ []) sent.value

-- the packets of both streams carry the bursts of all slots that aren't silent, in their order
pub each_packet : (turn end : BothStreams) (bursts behind : List (Option RepeatedBurst)) (packets : List BurstPacket)
    → AreStreamed turn bursts behind packets end
    → map burst_of packets ≡ map octets_of (flat_map option_to_list bursts)
each_packet turn end [] behind packets (none, same) = ap (map burst_of) none
each_packet turn end (burst ∷ bursts) behind packets (one, next, rest, step, split, later) =
    ap (map burst_of) split
    ∙ map-append burst_of (option_to_list one) rest
    ∙ ap (λ (l : List (List ℕ)). l ++ map burst_of rest) (one_each _ _ _ _ _ burst _ one step.goes_on)
    ∙ ap (λ (l : List (List ℕ)). map octets_of (option_to_list burst) ++ l) (each_packet next end bursts behind rest later)
    ∙ sym (map-append octets_of (option_to_list burst) (flat_map option_to_list bursts))
