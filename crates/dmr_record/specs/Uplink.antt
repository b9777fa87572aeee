-- The uplink file: what its octets spell, and what faults they show.
use Rattle.std.specs.Prelude.{◌≡◌, ◌≢◌, ℕ, ◌%◌, ◌<◌, ◌≤◌, List, [], ◌∷◌, ◌++◌, Option, Some, None, length}
use Rattle.std.specs.List.{AllByRecursion, flat_map}
use Rattle.dmr_record.specs.Head.{uplink_magic}
use Rattle.dmr_record.specs.declared.fault.RecordFault.{RecordFault}
use Rattle.dmr_record.specs.declared.fault.RecordFault.TheVariants.{CutRecord, BadTag, HalfFrame, TooLong, Read}
use Rattle.dmr_record.specs.Head.{head_octets}

-- A slot of an uplink frame: silence, or the 33 octets of a burst.
abbrev pub UplinkSlot : Type 0
UplinkSlot = Option (List ℕ)

-- The slot is silence, or a burst of 33 octets.
abbrev pub IsSilenceOrBurst : UplinkSlot → Type 0
IsSilenceOrBurst None = Unit {0}
IsSilenceOrBurst (Some burst) = length burst ≡ 33

-- 00 begins silence, and 01 a burst
abbrev pub slot_tag : UplinkSlot → ℕ
slot_tag None = 0
slot_tag (Some burst) = 1

-- what stands behind the tag of a slot: nothing for silence, or else the octets of its burst
abbrev pub slot_body : UplinkSlot → List ℕ
slot_body None = []
slot_body (Some burst) = burst

-- the octets of a slot: its tag, and then its burst where it has one
abbrev pub slot_octets : UplinkSlot → List ℕ
slot_octets slot = slot_tag slot ∷ slot_body slot

-- A frame: slot 1 and slot 2.
abbrev pub UplinkSlots : Type 0
UplinkSlots = List UplinkSlot

-- A frame has two slots, each silence or a burst.
abbrev pub IsFrame : UplinkSlots → Type 0
IsFrame frame = (length frame ≡ 2) × AllByRecursion IsSilenceOrBurst frame

-- the octets of a frame: those of slot 1, and then those of slot 2
abbrev pub frame_octets : UplinkSlots → List ℕ
frame_octets frame = flat_map slot_octets frame

-- the records of a file behind its head
abbrev pub frames_octets : List UplinkSlots → List ℕ
frames_octets frames = flat_map frame_octets frames

-- the file of these frames
abbrev pub uplink_file : List UplinkSlots → List ℕ
uplink_file frames = head_octets uplink_magic ++ frames_octets frames

-- less than a whole slot: nothing, or 01 and fewer octets than a burst has
abbrev pub IsPartOfSlot : List ℕ → Type 0
IsPartOfSlot [] = Unit {0}
IsPartOfSlot (tag ∷ body) = (tag ≡ 1) × (length body < 33)

-- What octets of one slot show where reading ends in it: another tag than 00 and 01, or less than a slot.
abbrev pub ShowsSlotFault : RecordFault → List ℕ → Type 0
ShowsSlotFault BadTag octets = (tag : ℕ) × (1 < tag) × (octets ≡ tag ∷ [])
ShowsSlotFault CutRecord octets = (octets ≢ []) × IsPartOfSlot octets
ShowsSlotFault Read octets = IsPartOfSlot octets
ShowsSlotFault e octets = ⊥

-- fewer than two whole slots, and then octets of a slot that show the fault
abbrev pub EndsInSlot : RecordFault → List ℕ → Type 0
EndsInSlot fault octets = (slots : List UplinkSlot) × (part : List ℕ) × (length slots < 2)
    × AllByRecursion IsSilenceOrBurst slots × ShowsSlotFault fault part × (octets ≡ flat_map slot_octets slots ++ part)

-- These octets, taken as the front of a frame with so many frames before it, show this fault. Past the limit one
-- octet does, whatever it is.
abbrev pub ShowsUplinkFault : ℕ → ℕ → RecordFault → List ℕ → Type 0
ShowsUplinkFault limit before TooLong octets = (limit ≤ before) × (length octets ≡ 1)
ShowsUplinkFault limit before HalfFrame octets = (before < limit)
    × (slot : UplinkSlot) × IsSilenceOrBurst slot × (octets ≡ slot_octets slot)
ShowsUplinkFault limit before Read octets = (limit ≤ before → octets ≡ []) × EndsInSlot Read octets
ShowsUplinkFault limit before e octets = (before < limit) × EndsInSlot e octets

-- the most slots that an uplink file has: two for each of its 1,048,576 frames
abbrev pub uplink_slot_limit : ℕ
uplink_slot_limit = 2097152

-- These octets, taken as the front of a slot with so many slots before it, show this fault. Past the limit one
-- octet does, whatever it is; behind slot 1 of a frame the end does, with no octet.
abbrev pub ShowsUplinkSlotFault : ℕ → ℕ → RecordFault → List ℕ → Type 0
ShowsUplinkSlotFault limit before TooLong octets = (limit ≤ before) × (length octets ≡ 1)
ShowsUplinkSlotFault limit before HalfFrame octets = (before % 2 ≡ 1) × (octets ≡ [])
ShowsUplinkSlotFault limit before Read octets = (limit ≤ before → octets ≡ []) × ShowsSlotFault Read octets
ShowsUplinkSlotFault limit before e octets = (before < limit) × ShowsSlotFault e octets
