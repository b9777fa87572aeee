-- What a burst is read as.
use Rattle.std.specs.Prelude.{◌≡◌, ◌==◌, ◌||◌, ℕ, Bool, true, false, not, List, Option, Some, None}
use Rattle.dmr_bptc.specs.Decoding.{IsDecoded}
use Rattle.dmr_burst.specs.DataTypes as data_type
use Rattle.dmr_burst.specs.Emb.{HasEmb}
use Rattle.dmr_burst.specs.Layout.{information_field}
use Rattle.dmr_burst.specs.SlotType.{HasSlotType}
use Rattle.dmr_burst.specs.Sync.{HasSync}
use Rattle.dmr_burst.specs.declared.emb.Emb.{Emb}
use Rattle.dmr_burst.specs.declared.slot_type.SlotType.{SlotType}
use Rattle.dmr_burst.specs.declared.sync.Sync.{Sync}
use Rattle.dmr_reading.specs.declared.reading.Information.{Information}
use Rattle.dmr_reading.specs.declared.reading.Information.TheVariants.{Coded, AsReceived}
use Rattle.dmr_reading.specs.declared.reading.Reading.{Reading}
use Rattle.dmr_reading.specs.declared.reading.Reading.TheVariants.{Data, Untyped, VoiceSync, Voice, Unreadable}

-- the colour code that a slot type or an EMB names
abbrev pub named_colour : Reading → Option ℕ
named_colour (Data side slot_type information) = Some slot_type.colour
named_colour (Voice emb) = Some emb.colour
named_colour (Untyped side) = None
named_colour (VoiceSync side) = None
named_colour Unreadable = None

-- no word of a sync is near
abbrev pub IsWithoutSync : List Bool → Type 0
IsWithoutSync bits = (sync : Sync) → HasSync sync bits → ⊥

-- no word of a slot type is near
abbrev pub IsWithoutSlotType : List Bool → Type 0
IsWithoutSlotType bits = (slot_type : SlotType) → HasSlotType slot_type bits → ⊥

-- no word of an EMB is near
abbrev pub IsWithoutEmb : List Bool → Type 0
IsWithoutEmb bits = (emb : Emb) → HasEmb emb bits → ⊥

-- all types of data but rate 3/4 and rate 1 are sent in the block product turbo code
abbrev pub is_coded : ℕ → Bool
is_coded kind = not (kind == data_type.rate_three_quarters_data || kind == data_type.rate_one_data)

-- what the information of a data burst of this type is
abbrev pub IsInformation : ℕ → List Bool → Information → Type 0
IsInformation kind bits (Coded message) = (is_coded kind ≡ true) × IsDecoded (information_field bits) message
IsInformation kind bits AsReceived = is_coded kind ≡ false

-- What a burst is read as: by its sync, and where it has none, by its EMB.
abbrev pub IsReadAs : List Bool → Reading → Type 0
IsReadAs bits (Data side slot_type information) = HasSync (record { side = side; voice = false }) bits
    × HasSlotType slot_type bits × IsInformation slot_type.kind bits information
IsReadAs bits (Untyped side) = HasSync (record { side = side; voice = false }) bits × IsWithoutSlotType bits
IsReadAs bits (VoiceSync side) = HasSync (record { side = side; voice = true }) bits
IsReadAs bits (Voice emb) = IsWithoutSync bits × HasEmb emb bits
IsReadAs bits Unreadable = IsWithoutSync bits × IsWithoutEmb bits
