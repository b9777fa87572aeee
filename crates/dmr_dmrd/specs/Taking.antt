-- Which packets of a capture are taken.
use Rattle.std.specs.Prelude.{ℕ, ◌==◌, if◌then◌else◌, Bool, true, List, Option, Some, None}
use Rattle.dmr_capture.specs.Links.{ipv4_carried}
use Rattle.dmr_capture.specs.Udp.{UdpDatagram, udp_carried}
use Rattle.dmr_capture.specs.declared.link.Link.{Link}
use Rattle.dmr_dmrd.specs.Payloads.{hotspot_packet_in}
use Rattle.dmr_dmrd.specs.declared.packet.HotspotPacket.{HotspotPacket}
use Rattle.dmr_dmrd.specs.declared.taking.Ports.{Ports}
use Rattle.dmr_dmrd.specs.declared.taking.Ports.TheVariants.{To, From}

-- whether a datagram goes the way that is asked for: to a port, or from it
abbrev pub is_that_way : Ports → UdpDatagram → Bool
is_that_way (To port) datagram = datagram.destination == port
is_that_way (From port) datagram = datagram.source == port

abbrev pub packet_of_udp : Ports → Option UdpDatagram → Option HotspotPacket
packet_of_udp ports None = None
packet_of_udp ports (Some datagram) = if is_that_way ports datagram then hotspot_packet_in datagram.payload else None

abbrev pub packet_of_ipv4 : Ports → Option (List ℕ) → Option HotspotPacket
packet_of_ipv4 ports None = None
packet_of_ipv4 ports (Some packet) = packet_of_udp ports (udp_carried packet)

-- the packet of a hotspot that a packet of this link carries, where it goes the way that is asked for
abbrev pub carried_packet : Ports → Link → List ℕ → Option HotspotPacket
carried_packet ports link octets = packet_of_ipv4 ports (ipv4_carried link octets)

-- whether a packet is of the repeater that is taken: of any, as long as none is known
abbrev pub is_of_repeater : Option ℕ → HotspotPacket → Bool
is_of_repeater None p = true
is_of_repeater (Some repeater) p = p.repeater == repeater

abbrev pub only_of_repeater : Option ℕ → Option HotspotPacket → Option HotspotPacket
only_of_repeater repeater None = None
only_of_repeater repeater (Some p) = if is_of_repeater repeater p then Some p else None

-- the packet that is taken, where one is: it is of the repeater that is known, where one is
abbrev pub taken_packet : Ports → Option ℕ → Link → List ℕ → Option HotspotPacket
taken_packet ports repeater link octets = only_of_repeater repeater (carried_packet ports link octets)
