-- A recording, slot by slot: what its file holds, and where it is at fault.
use Rattle.std.specs.Prelude.{◌≡◌, ℕ, List, [], Option, Some, None, length, unwrap_or}
use Rattle.dmr_record.specs.Downlink.{slot_limit, sent_octets, ShowsDownlinkFault}
use Rattle.dmr_record.specs.Uplink.{uplink_slot_limit, slot_octets, ShowsUplinkSlotFault}
use Rattle.dmr_record.specs.declared.fault.RecordFault.{RecordFault}
use Rattle.dmr_recording.specs.declared.recording.RecordedBurst.{RecordedBurst}
use Rattle.dmr_recording.specs.declared.recording.Recording.{Recording}
use Rattle.dmr_recording.specs.declared.recording.Recording.TheVariants.{Uplink, Downlink}

-- Silence, or a burst.
abbrev pub RecordedSlot : Type 0
RecordedSlot = Option RecordedBurst

-- a burst of the uplink has no CACH, and one of the downlink has one
abbrev pub IsBurstOf : Recording → RecordedBurst → Type 0
IsBurstOf Uplink b = (b.cach ≡ None) × (length b.burst ≡ 33)
IsBurstOf Downlink b = ((cach : List ℕ) × (b.cach ≡ Some cach) × (length cach ≡ 3)) × (length b.burst ≡ 33)

-- A slot of this recording is silence, or a burst of it.
abbrev pub IsSlotOf : Recording → RecordedSlot → Type 0
IsSlotOf recording None = Unit {0}
IsSlotOf recording (Some b) = IsBurstOf recording b

-- the octets of a slot, by the definitions of its file
abbrev pub spelling : Recording → RecordedSlot → List ℕ
spelling Uplink None = slot_octets None
spelling Uplink (Some b) = slot_octets (Some b.burst)
spelling Downlink None = sent_octets None
spelling Downlink (Some b) = sent_octets (Some (unwrap_or b.cach [], b.burst))

-- the most slots that its file has
abbrev pub slot_limit_of : Recording → ℕ
slot_limit_of Uplink = uplink_slot_limit
slot_limit_of Downlink = slot_limit

-- These octets, taken as the front of a slot with so many slots before it, show this fault.
abbrev pub ShowsSlotFaultOf : Recording → ℕ → RecordFault → List ℕ → Type 0
ShowsSlotFaultOf Uplink before e octets = ShowsUplinkSlotFault uplink_slot_limit before e octets
ShowsSlotFaultOf Downlink before e octets = ShowsDownlinkFault slot_limit before e octets
