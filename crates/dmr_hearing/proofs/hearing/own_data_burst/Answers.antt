use Rattle.dmr_bits.specs.Bits.{bits_of_octets}
use Rattle.dmr_burst.specs.Layout.{information_field}
use Rattle.dmr_hearing.proofs.SlotTypes.{no_slot_type, found_colour, reading_of}
use Rattle.dmr_hearing.proofs.hearing.own_data_burst.Goals as goal

pub returns-in_default-clause-only : goal.returns-in_default-clause-only
returns-in_default-clause-only c = λ kind information lc has reads.
    absurd (no_slot_type (record { colour = c.args.colour; kind = kind }) (bits_of_octets c.args.burst.now)
    c.in_default.ensures.only has)

pub returns-then-slot_type-colour-clause-only : goal.returns-then-slot_type-colour-clause-only
returns-then-slot_type-colour-clause-only c = λ kind information lc has reads.
    absurd (c.if-slot_type-colour.true (found_colour c.in-Some.slot_type c.args.colour kind (bits_of_octets c.args.burst.now)
    c.in-Some.ensures.only has))

pub returns-clause-only : goal.returns-clause-only
returns-clause-only c = λ kind information lc has.
    let bits = bits_of_octets c.args.burst.now in
    (reading_of c.in-Some.slot_type c.args.colour kind bits c.read_info.result (information_field bits)
    c.read_data_burst.new.place c.in-Some.ensures.only has
    c.read_info.ensures.value c.read_data_burst.ensures.reading).only information lc
