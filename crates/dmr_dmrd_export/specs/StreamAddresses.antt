-- The addresses of a stream.
use Rattle.std.specs.Prelude.{◌==◌, ◌||◌, not, true, false, Option, Some, None, if◌then◌else◌}
use Rattle.std.specs.Option.{option_or}
use Rattle.dmr_bits.specs.Bits.{bits_of_octets, number_of, part}
use Rattle.dmr_link.specs.declared.full_lc.FullLc.{FullLc}
use Rattle.dmr_listing.specs.declared.way.Way.{Way}
use Rattle.dmr_log.specs.Repeated.{way_of}
use Rattle.dmr_log.specs.declared.repeated.ControlKind.{ControlKind}
use Rattle.dmr_log.specs.declared.repeated.ControlKind.TheVariants.{Preamble, Activation, Csbk, DataType}
use Rattle.dmr_log.specs.declared.transmission.Subject.{Subject}
use Rattle.dmr_log.specs.declared.transmission.Subject.TheVariants.{Call, Packet, Controls}
use Rattle.dmr_dmrd_export.specs.declared.addresses.Addresses.{Addresses}

-- none is known
abbrev pub no_addresses : Addresses
no_addresses = record { source = 0; target = 0; is_to_unit = false }

abbrev pub way_addresses : Way → Addresses
way_addresses way = record { source = way.source; target = way.destination; is_to_unit = not way.to_group }

-- those that stand in the body of a link control: the target behind 8 bits, the source behind 32
abbrev pub body_addresses : FullLc → Addresses
body_addresses lc = record {
  source = number_of (part (bits_of_octets lc.body) 32 56);
  target = number_of (part (bits_of_octets lc.body) 8 32);
  is_to_unit = lc.flco == 3;
}

-- those of a link control of a voice call, which opcode 0 has to a talk group and opcode 3 to a radio; any other has none
abbrev pub call_addresses : FullLc → Addresses
call_addresses lc = if (lc.flco == 0) || (lc.flco == 3) then body_addresses lc else no_addresses

abbrev pub known_addresses : Option FullLc → Addresses
known_addresses None = no_addresses
known_addresses (Some lc) = call_addresses lc

-- those of control blocks: a preamble and an activation tell who sends them to whom
abbrev pub control_addresses : ControlKind → Addresses
control_addresses (Preamble source to_group destination) =
    record { source = source; target = destination; is_to_unit = not to_group }
control_addresses (Activation source base_station) = record { source = source; target = base_station; is_to_unit = true }
control_addresses (Csbk opcode feature_set) = no_addresses
control_addresses (DataType type) = no_addresses

-- Those of a transmission, as its first frame tells them: of a call by its link control, and where that isn't known, as of a late
-- call, by the one that the four frames behind carry; of a packet by its header.
abbrev pub first_addresses : Subject → Option FullLc → Addresses
first_addresses (Call call) carried = known_addresses (option_or call.link_control carried)
first_addresses (Packet packet) carried = way_addresses (way_of packet.head)
first_addresses (Controls kind) carried = control_addresses kind
