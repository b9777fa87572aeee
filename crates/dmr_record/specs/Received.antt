-- The received file: what its octets spell, and what faults they show.
use Rattle.std.specs.Prelude.{◌≡◌, ◌≢◌, ℕ, ◌^◌, ◌<◌, ◌≤◌, ◌⊎◌, List, [], ◌∷◌, ◌++◌, Option, Some, None, length}
use Rattle.std.specs.List.{flat_map}
use Rattle.byteorder.specs.Endian.{big_bytes}
use Rattle.dmr_record.specs.declared.fault.RecordFault.{RecordFault}
use Rattle.dmr_record.specs.declared.fault.RecordFault.TheVariants.{CutRecord, BadTag, FrameOrder, TooLong, Read}
use Rattle.dmr_record.specs.Head.{received_magic}
use Rattle.dmr_record.specs.declared.received.Received.{Received}
use Rattle.dmr_record.specs.declared.received.ReceivedKind.{ReceivedKind}
use Rattle.dmr_record.specs.declared.received.ReceivedKind.TheVariants.{Datagram, ShortData, Status}
use Rattle.dmr_record.specs.Head.{head_octets}

-- A record of the received file: what came in a slot, from whom, and in which downlink frame it was whole.
pub record Receipt : Type 0 where
  pub frame : ℕ
  pub slot : ℕ
  pub kind : ReceivedKind
  pub source : ℕ
  pub octets : List ℕ

-- each field fits its width
pub record IsReceipt (r : Receipt) : Type 0 where
  pub frame : r.frame < 2 ^ 32
  pub source : r.source < 2 ^ 24
  pub octets : length r.octets < 2 ^ 16

-- the octet of a kind: 00 for a datagram, 01 for short data, and 02 for a status
abbrev pub kind_octet : ReceivedKind → ℕ
kind_octet Datagram = 0
kind_octet ShortData = 1
kind_octet Status = 2

-- 03, the frame in four octets, the slot, the kind, the source in three octets, and the length in two
abbrev pub receipt_fields : ℕ → ℕ → ReceivedKind → ℕ → ℕ → List ℕ
receipt_fields frame slot kind source len =
    3 ∷ (big_bytes 4 frame ++ slot ∷ kind_octet kind ∷ (big_bytes 3 source ++ big_bytes 2 len))

-- the fields, and then the octets that came
abbrev pub receipt_octets : Receipt → List ℕ
receipt_octets r = receipt_fields r.frame r.slot r.kind r.source (length r.octets) ++ r.octets

-- the records of a file behind its head
abbrev pub receipts_octets : List Receipt → List ℕ
receipts_octets receipts = flat_map receipt_octets receipts

-- the file of these records
abbrev pub received_file : List Receipt → List ℕ
received_file receipts = head_octets received_magic ++ receipts_octets receipts

-- the most records that a received file has: a status and a packet in each slot of the longest downlink file
abbrev pub received_limit : ℕ
received_limit = 4194328

-- What stands between the tag of a record and its octets: the frame, the slot, the number of the kind, the
-- source, and how many octets there are.
pub record ReceivedFields : Type 0 where
  pub frame : ℕ
  pub slot : ℕ
  pub kind : ℕ
  pub source : ℕ
  pub count : ℕ

-- the frame in four octets, the slot, the kind, the source in three octets, and the count in two
abbrev pub received_field_octets : ReceivedFields → List ℕ
received_field_octets f = big_bytes 4 f.frame ++ f.slot ∷ f.kind ∷ (big_bytes 3 f.source ++ big_bytes 2 f.count)

-- The numbers fit their widths.
pub record FitsReceived (f : ReceivedFields) : Type 0 where
  pub frame : f.frame < 2 ^ 32
  pub source : f.source < 2 ^ 24
  pub count : f.count < 2 ^ 16

-- Slot 1 or slot 2.
abbrev pub IsSlot : ℕ → Type 0
IsSlot slot = (slot ≡ 1) ⊎ (slot ≡ 2)

-- A record that can be read: each field fits, and its slot is one.
abbrev pub IsReadable : Receipt → Type 0
IsReadable r = IsReceipt r × IsSlot r.slot

-- The slot is 1 or 2, and the kind is one of three.
abbrev pub IsSlotAndKind : ℕ → ℕ → Type 0
IsSlotAndKind slot kind = IsSlot slot × (kind < 3)

-- A record may stand behind the last one: its frame is no earlier, its slot is no earlier in one frame, and in
-- one slot of a frame it is a packet behind a status.
pub record IsBehind (last f : ReceivedFields) : Type 0 where
  pub frame : last.frame ≤ f.frame
  pub slot : last.frame ≡ f.frame → last.slot ≤ f.slot
  pub kind : last.frame ≡ f.frame → last.slot ≡ f.slot → (last.kind ≡ kind_octet Status) × (f.kind < kind_octet Status)

-- the same of the first record, which may be any
abbrev pub Follows : Option ReceivedFields → ReceivedFields → Type 0
Follows None f = Unit {0}
Follows (Some last) f = IsBehind last f

-- the fields of this record: its frame, its slot, the number of its kind, its source, and how many octets came
abbrev pub received_fields : Receipt → ReceivedFields
received_fields r = record { frame = r.frame; slot = r.slot; kind = kind_octet r.kind; source = r.source; count = length r.octets }

-- The records follow one another, and the first of them the last one before.
abbrev pub FollowEachOther : Option ReceivedFields → List Receipt → Type 0
FollowEachOther last [] = Unit {0}
FollowEachOther last (r ∷ rest) = Follows last (received_fields r) × FollowEachOther (Some (received_fields r)) rest

-- the fields of the last of these records, or these of none
abbrev pub last_fields : Option ReceivedFields → List Receipt → Option ReceivedFields
last_fields last [] = last
last_fields last (receipt ∷ receipts) = last_fields (Some (received_fields receipt)) receipts

-- the fields of a record that was read
abbrev pub fields_read : Received → ReceivedFields
fields_read r = record { frame = r.frame; slot = r.slot; kind = kind_octet r.kind; source = r.source; count = r.length }

-- the fields of the last record that was read, where one was
abbrev pub last_read : Option Received → Option ReceivedFields
last_read None = None
last_read (Some r) = Some (fields_read r)

-- the record that was read, where these are its octets
abbrev pub receipt_of : Received → List ℕ → Receipt
receipt_of r octets = record { frame = r.frame; slot = r.slot; kind = r.kind; source = r.source; octets = octets }

-- Less than a whole record: nothing, or the tag and less than the fields, or fewer octets than it has behind
-- fields that name a slot and a kind and stand in order.
abbrev pub IsPartOfReceipt : Option ReceivedFields → List ℕ → Type 0
IsPartOfReceipt last octets = (octets ≡ [])
    ⊎ ((part : List ℕ) × (length part < 11) × (octets ≡ 3 ∷ part))
    ⊎ ((f : ReceivedFields) × (part : List ℕ) × FitsReceived f × IsSlotAndKind f.slot f.kind × Follows last f
    × (length part < f.count)
    × (octets ≡ 3 ∷ (received_field_octets f ++ part)))

-- These octets, taken as the front of a record with so many records before it, the last of which has these
-- fields, show this fault. A tag is bad where it isn't 03, or where the fields behind it name no slot or no kind.
abbrev pub ShowsReceivedFault : ℕ → ℕ → Option ReceivedFields → RecordFault → List ℕ → Type 0
ShowsReceivedFault limit before last TooLong octets = (limit ≤ before) × (length octets ≡ 1)
ShowsReceivedFault limit before last BadTag octets = (before < limit)
    × (((tag : ℕ) × (tag ≢ 3) × (octets ≡ tag ∷ []))
    ⊎ ((f : ReceivedFields) × FitsReceived f × (¬ IsSlotAndKind f.slot f.kind) × (octets ≡ 3 ∷ received_field_octets f)))
ShowsReceivedFault limit before last FrameOrder octets = (before < limit)
    × (f : ReceivedFields) × FitsReceived f × IsSlotAndKind f.slot f.kind × (¬ Follows last f)
    × (octets ≡ 3 ∷ received_field_octets f)
ShowsReceivedFault limit before last CutRecord octets = (before < limit)
    × (octets ≢ []) × IsPartOfReceipt last octets
ShowsReceivedFault limit before last Read octets = (limit ≤ before → octets ≡ [])
    × IsPartOfReceipt last octets
ShowsReceivedFault limit before last e octets = ⊥
