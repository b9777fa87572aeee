-- The slot type of a data burst.
use Rattle.std.proofs.Common.{◌≡◌, ℕ, List, Bool, Option, Some, None, ap, subst}
use Rattle.dmr_burst.specs.SlotType.{HasSlotType}
use Rattle.dmr_burst.specs.declared.slot_type.SlotType.{SlotType}
use Rattle.dmr_hearing.specs.DataTypes.{payload_of}
use Rattle.dmr_hearing.specs.Reading.{IsReading}
use Rattle.dmr_hearing.specs.declared.heard.DataBurst.{DataBurst}

same_slot_type : (a b : SlotType) → Some a ≡ Some b → a ≡ b
same_slot_type a b e = cc

-- where no slot type is found, the bits have none
pub no_slot_type : (wanted : SlotType) (bits : List Bool) → ((s : SlotType) → HasSlotType s bits → None ≡ Some s)
    → HasSlotType wanted bits → ⊥
no_slot_type wanted bits only has = let bad = only wanted has in cc

-- a burst's slot type is the one that is found
pub found_colour : (found : SlotType) (colour kind : ℕ) (bits : List Bool)
    → ((s : SlotType) → HasSlotType s bits → Some found ≡ Some s)
    → HasSlotType (record { colour = colour; kind = kind }) bits → found.colour ≡ colour
found_colour found colour kind bits only has =
    ap (λ (s : SlotType). s.colour) (same_slot_type found (record { colour = colour; kind = kind })
    (only (record { colour = colour; kind = kind }) has))

found_kind : (found : SlotType) (colour kind : ℕ) (bits : List Bool) → ((s : SlotType) → HasSlotType s bits → Some found ≡ Some s)
    → HasSlotType (record { colour = colour; kind = kind }) bits → found.kind ≡ kind
found_kind found colour kind bits only has =
    ap (λ (s : SlotType). s.kind) (same_slot_type found (record { colour = colour; kind = kind })
    (only (record { colour = colour; kind = kind }) has))

-- what is read for it is read for that type
pub reading_of : (found : SlotType) (colour kind : ℕ) (bits received field : List Bool) (result : Option DataBurst)
    → ((s : SlotType) → HasSlotType s bits → Some found ≡ Some s)
    → HasSlotType (record { colour = colour; kind = kind }) bits → received ≡ field
    → IsReading (payload_of found.kind) found.kind received result → IsReading (payload_of kind) kind field result
reading_of found colour kind bits received field result only has same reading =
    subst (λ (x : List Bool). IsReading (payload_of kind) kind x result) same
    (subst (λ (k : ℕ). IsReading (payload_of k) k received result) (found_kind found colour kind bits only has) reading)
