-- The slot type of a data burst. ETSI TS 102 361-1, clause 9.1.3.
use Rattle.std.specs.Prelude.{◌≡◌, ◌≤◌, Bool, List, take, drop}
use Rattle.dmr_bits.specs.Bits.{number_of, distance}
use Rattle.dmr_codes.specs.Seven.{IsGolay20}
use Rattle.dmr_burst.specs.Layout.{slot_type_field}
use Rattle.dmr_burst.specs.declared.slot_type.SlotType.{SlotType}

-- a slot type's word says the colour code in four bits, then the data type in four (clause 9.1.3)
abbrev pub slot_type_of : List Bool → SlotType
slot_type_of word = record { colour = number_of (take 4 word); kind = number_of (take 4 (drop 4 word)) }

-- a word that says this slot type is within three bits
abbrev pub HasSlotType : SlotType → List Bool → Type 0
HasSlotType slot_type bits =
    (word : List Bool) × IsGolay20 word × (distance word (slot_type_field bits) ≤ 3) × (slot_type_of word ≡ slot_type)
