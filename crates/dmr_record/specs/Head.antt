-- The eight octets that begin each file, and how much it may hold.
use Rattle.std.specs.Prelude.{ℕ, ◌≡◌, ◌≢◌, ◌<◌, List, [], ◌∷◌, ◌++◌, length, take, drop}
use Rattle.dmr_record.specs.declared.fault.RecordFault.{RecordFault}
use Rattle.dmr_record.specs.declared.fault.RecordFault.TheVariants.{Magic, Version, CutRecord, Read}
use Rattle.dmr_record.specs.declared.head.FileFormat.{FileFormat}
use Rattle.dmr_record.specs.declared.head.FileFormat.TheVariants.{Uplink, Downlink, Outgoing, Received}

-- the most frames that an uplink file has
abbrev pub frame_limit : ℕ
frame_limit = 1048576

-- the most records that an outgoing file has
abbrev pub record_limit : ℕ
record_limit = 1048576

-- what stands behind the magic of each file
abbrev pub file_version : List ℕ
file_version = 1 ∷ 0 ∷ 0 ∷ 0 ∷ []

-- the magic, and then the version
abbrev pub head_octets : List ℕ → List ℕ
head_octets magic = magic ++ file_version

-- These octets, taken in place of the head with this magic, show this fault: fewer than eight octets show that
-- the head is cut or the device failed, and eight of them show another magic, or that magic and another version.
abbrev pub ShowsHeadFault : List ℕ → RecordFault → List ℕ → Type 0
ShowsHeadFault magic CutRecord octets = length octets < 8
ShowsHeadFault magic Read octets = length octets < 8
ShowsHeadFault magic Magic octets = (length octets ≡ 8) × (take 4 octets ≢ magic)
ShowsHeadFault magic Version octets = (length octets ≡ 8) × (take 4 octets ≡ magic) × (drop 4 octets ≢ file_version)
ShowsHeadFault magic e octets = ⊥

-- DMRU, DMRD, DMRO and DMRI
abbrev pub uplink_magic : List ℕ
uplink_magic = 0x44 ∷ 0x4D ∷ 0x52 ∷ 0x55 ∷ []

abbrev pub downlink_magic : List ℕ
downlink_magic = 0x44 ∷ 0x4D ∷ 0x52 ∷ 0x44 ∷ []

abbrev pub outgoing_magic : List ℕ
outgoing_magic = 0x44 ∷ 0x4D ∷ 0x52 ∷ 0x4F ∷ []

abbrev pub received_magic : List ℕ
received_magic = 0x44 ∷ 0x4D ∷ 0x52 ∷ 0x49 ∷ []

-- what a file of this format begins with
abbrev pub magic_of : FileFormat → List ℕ
magic_of Uplink = uplink_magic
magic_of Downlink = downlink_magic
magic_of Outgoing = outgoing_magic
magic_of Received = received_magic

-- These octets, taken in place of the head of a file of any format, show this fault: that of a version in place of one of the
-- heads, and any other in place of each.
abbrev pub ShowsAnyHeadFault : RecordFault → List ℕ → Type 0
ShowsAnyHeadFault Version octets = (format : FileFormat) × ShowsHeadFault (magic_of format) Version octets
ShowsAnyHeadFault e octets = (format : FileFormat) → ShowsHeadFault (magic_of format) e octets
