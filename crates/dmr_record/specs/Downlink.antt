-- The downlink file: what its octets spell, and what faults they show.
use Rattle.std.specs.Prelude.{◌≡◌, ◌≢◌, ℕ, ◌%◌, ◌<◌, ◌≤◌, List, [], ◌∷◌, ◌++◌, Option, Some, None, length}
use Rattle.std.specs.List.{flat_map}
use Rattle.dmr_record.specs.declared.fault.RecordFault.{RecordFault}
use Rattle.dmr_record.specs.declared.fault.RecordFault.TheVariants.{CutRecord, BadTag, HalfFrame, TooLong, Read}
use Rattle.dmr_record.specs.Head.{downlink_magic}
use Rattle.dmr_record.specs.Head.{head_octets}

-- A slot of the downlink: silence, or the three octets of a CACH and the 33 of a burst.
abbrev pub Sent : Type 0
Sent = Option (List ℕ × List ℕ)

-- The slot is silence, or it has a CACH of three octets and a burst of 33.
abbrev pub IsSent : Sent → Type 0
IsSent None = Unit {0}
IsSent (Some sent) = (length sent.0 ≡ 3) × (length sent.1 ≡ 33)

-- 00 is silence, and 01 stands before the CACH and the burst
abbrev pub sent_octets : Sent → List ℕ
sent_octets None = 0 ∷ []
sent_octets (Some sent) = 1 ∷ (sent.0 ++ sent.1)

-- the records of a file behind its head
abbrev pub downlink_octets : List Sent → List ℕ
downlink_octets slots = flat_map sent_octets slots

-- the file of these slots: slot 1 and slot 2 of the first frame, and so on
abbrev pub downlink_file : List Sent → List ℕ
downlink_file slots = head_octets downlink_magic ++ downlink_octets slots

-- the most slots that a downlink file has: two for each of the 1,048,576 frames of an uplink, and of six more
abbrev pub slot_limit : ℕ
slot_limit = 2097164

-- less than a whole slot: nothing, or 01 and fewer octets than a CACH and a burst have
abbrev pub IsPartOfSent : List ℕ → Type 0
IsPartOfSent [] = Unit {0}
IsPartOfSent (tag ∷ body) = (tag ≡ 1) × (length body < 36)

-- These octets, taken as the front of a slot with so many slots before it, show this fault. Past the limit one
-- octet does, whatever it is; behind slot 1 of a frame the end does, with no octet.
abbrev pub ShowsDownlinkFault : ℕ → ℕ → RecordFault → List ℕ → Type 0
ShowsDownlinkFault limit before TooLong octets = (limit ≤ before) × (length octets ≡ 1)
ShowsDownlinkFault limit before BadTag octets = (before < limit)
    × (tag : ℕ) × (1 < tag) × (octets ≡ tag ∷ [])
ShowsDownlinkFault limit before HalfFrame octets = (before % 2 ≡ 1) × (octets ≡ [])
ShowsDownlinkFault limit before CutRecord octets = (before < limit) × (octets ≢ []) × IsPartOfSent octets
ShowsDownlinkFault limit before Read octets = (limit ≤ before → octets ≡ []) × IsPartOfSent octets
ShowsDownlinkFault limit before e octets = ⊥
