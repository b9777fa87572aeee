-- Bursts, as they are sent, and what is read back of them. ETSI TS 102 361-1, clauses 6.1, 6.2 and 9.1.
use Rattle.std.specs.Prelude.{◌≡◌, ◌<◌, ◌^◌, Bool, true, false, List, length}
use Rattle.dmr_bits.specs.Bits.{number_of}
use Rattle.dmr_codes.specs.Seven.{IsGolay20, IsResidue16}
use Rattle.dmr_burst.specs.Emb.{emb_of, HasEmb}
use Rattle.dmr_burst.specs.Layout.{information_field, slot_type_field, sync_field, vocoder_field, emb_field, embedded_field}
use Rattle.dmr_burst.specs.SlotType.{slot_type_of, HasSlotType}
use Rattle.dmr_burst.specs.Sync.{sync_word, HasSync}
use Rattle.dmr_burst.specs.declared.burst.Burst.{Burst}
use Rattle.dmr_burst.specs.declared.burst.Burst.TheVariants.{Data, VoiceSync, Voice}
use Rattle.dmr_burst.specs.declared.sync.Side.{Side}

-- the numbers of a burst fit their bits
abbrev pub IsBurst : Burst → Type 0
IsBurst (Data colour kind information) = (colour < 16) × (kind < 16)
IsBurst (VoiceSync vocoder) = Unit {0}
IsBurst (Voice emb embedded vocoder) = (emb.colour < 16) × (emb.lcss < 4)

-- the lists of a burst are as long as its fields
abbrev pub HasWholeLists : Burst → Type 0
HasWholeLists (Data colour kind information) = length information ≡ 196
HasWholeLists (VoiceSync vocoder) = length vocoder ≡ 216
HasWholeLists (Voice emb embedded vocoder) = (embedded < 2 ^ 32) × (length vocoder ≡ 216)

-- The 264 bits that a side sends for a burst. A data burst has a Golay word that says its slot type, its information, and the data
-- sync of its side.
abbrev pub IsEncoding : Burst → Side → List Bool → Type 0
IsEncoding (Data colour kind information) side bits =
    (length bits ≡ 264) × IsGolay20 (slot_type_field bits)
    × (slot_type_of (slot_type_field bits) ≡ record { colour = colour; kind = kind })
    × (information_field bits ≡ information) × (sync_field bits ≡ sync_word side false)
-- The first voice burst has its vocoder bits and the voice sync of its side.
IsEncoding (VoiceSync vocoder) side bits =
    (length bits ≡ 264) × (vocoder_field bits ≡ vocoder) × (sync_field bits ≡ sync_word side true)
-- Any other voice burst has a residue word that says its EMB, its embedded field, and its vocoder bits.
IsEncoding (Voice emb embedded vocoder) side bits =
    (length bits ≡ 264) × IsResidue16 (emb_field bits) × (emb_of (emb_field bits) ≡ emb)
    × (number_of (embedded_field bits) ≡ embedded) × (vocoder_field bits ≡ vocoder)

-- the fields of a burst that was sent, as its readers find them
abbrev pub IsReadBack : Burst → Side → List Bool → Type 0
IsReadBack (Data colour kind information) side bits =
    HasSync (record { side = side; voice = false }) bits
    × HasSlotType (record { colour = colour; kind = kind }) bits
    × (information_field bits ≡ information)
IsReadBack (VoiceSync vocoder) side bits =
    HasSync (record { side = side; voice = true }) bits × (vocoder_field bits ≡ vocoder)
IsReadBack (Voice emb embedded vocoder) side bits =
    HasEmb emb bits × (number_of (embedded_field bits) ≡ embedded) × (vocoder_field bits ≡ vocoder)
