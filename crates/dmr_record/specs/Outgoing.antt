-- The outgoing file: what its octets spell, and what faults they show.
use Rattle.std.specs.Prelude.{◌≡◌, ◌≢◌, ℕ, ◌+◌, ◌^◌, ◌<◌, ◌≤◌, ◌⊎◌, List, [], ◌∷◌, ◌++◌, Bool, if◌then◌else◌, length, take}
use Rattle.std.specs.List.{flat_map, AllZip}
use Rattle.byteorder.specs.Endian.{big_bytes}
use Rattle.dmr_record.specs.Head.{outgoing_magic, head_octets}
use Rattle.dmr_record.specs.Received.{IsSlot}
use Rattle.dmr_record.specs.declared.fault.RecordFault.{RecordFault}
use Rattle.dmr_record.specs.declared.fault.RecordFault.TheVariants.{CutRecord, BadTag, FrameOrder, TooLong, Read}
use Rattle.dmr_record.specs.declared.outgoing.Outgoing.{Outgoing}
use Rattle.dmr_record.specs.declared.outgoing.OutgoingRecord.{OutgoingRecord}

-- What stands between the tag of a record and its datagram: the frame, the slot, the mode, and how many octets
-- the datagram has.
pub record OutgoingFields : Type 0 where
  pub frame : ℕ
  pub slot : ℕ
  pub mode : ℕ
  pub count : ℕ

-- the frame in four octets, the slot, the mode, and the count in two octets
abbrev pub outgoing_field_octets : OutgoingFields → List ℕ
outgoing_field_octets f = big_bytes 4 f.frame ++ f.slot ∷ f.mode ∷ big_bytes 2 f.count

-- The numbers fit their widths.
pub record FitsOutgoing (f : OutgoingFields) : Type 0 where
  pub frame : f.frame < 2 ^ 32
  pub count : f.count < 2 ^ 16

-- The slot is 1 or 2, and no other bit of the mode is set than 01 and 02.
abbrev pub IsSlotAndMode : ℕ → ℕ → Type 0
IsSlotAndMode slot mode = IsSlot slot × (mode < 4)

-- A record of the outgoing file: what is to be sent, and in which frame it is offered.
pub record Sending : Type 0 where
  pub frame : ℕ
  pub slot : ℕ
  pub confirmed : Bool
  pub full : Bool
  pub datagram : List ℕ

-- Its numbers fit their widths, and its slot is one.
pub record IsSending (s : Sending) : Type 0 where
  pub frame : s.frame < 2 ^ 32
  pub slot : IsSlot s.slot
  pub datagram : length s.datagram < 2 ^ 16

-- bit 01 is set where it is confirmed, and bit 02 where it goes at rate 1
abbrev pub mode_of : Bool → Bool → ℕ
mode_of confirmed full = (if confirmed then 1 else 0) + (if full then 2 else 0)

-- 02, the fields, and then the datagram
abbrev pub sending_octets : Sending → List ℕ
sending_octets s = 2 ∷ (outgoing_field_octets fields ++ s.datagram)
  where
    -- the fields of the record: its frame, its slot, its mode, and how many octets its datagram has
    fields : OutgoingFields
    fields = record { frame = s.frame; slot = s.slot; mode = mode_of s.confirmed s.full; count = length s.datagram }

-- the records of a file behind its head
abbrev pub sendings_octets : List Sending → List ℕ
sendings_octets sendings = flat_map sending_octets sendings

-- the file of these records
abbrev pub outgoing_file : List Sending → List ℕ
outgoing_file sendings = head_octets outgoing_magic ++ sendings_octets sendings

-- The frames don't decrease, and the first is no earlier than the last one before.
abbrev pub AreInFrameOrder : ℕ → List Sending → Type 0
AreInFrameOrder last [] = Unit {0}
AreInFrameOrder last (s ∷ rest) = (last ≤ s.frame) × AreInFrameOrder s.frame rest

-- the frame of the last record, where the last one before them has this frame
abbrev pub last_frame : ℕ → List Sending → ℕ
last_frame last [] = last
last_frame last (s ∷ rest) = last_frame s.frame rest

-- the record that was read, where this is its datagram
abbrev pub sending_of : Outgoing → List ℕ → Sending
sending_of o datagram =
    record { frame = o.frame; slot = o.slot; confirmed = o.confirmed; full = o.full; datagram = datagram }

-- the fields of a record that was read without its octets
abbrev pub record_fields : OutgoingRecord → OutgoingFields
record_fields r = record { frame = r.frame; slot = r.slot; mode = mode_of r.confirmed r.full; count = r.length }

-- the record that was read, where these are all its octets
abbrev pub whole_sending : OutgoingRecord → List ℕ → Sending
whole_sending r octets =
    record { frame = r.frame; slot = r.slot; confirmed = r.confirmed; full = r.full; datagram = octets }

-- What was read keeps the length of the datagram, and the first of its octets.
pub record Keeps (o : Outgoing) (datagram : List ℕ) : Type 0 where
  pub count : o.length ≡ length datagram
  pub front : o.octets ≡ take 1400 datagram

-- A record of the outgoing file as it was read: its fields, the length of its datagram, and the first of its octets.
pub record IsReadOutgoing (o : Outgoing) (s : Sending) : Type 0 where
  pub fields : sending_of o s.datagram ≡ s
  pub keeps : Keeps o s.datagram

-- The records that were read stand one by one for those of the outgoing file, and there are as many.
abbrev pub AreReadFrom : List Outgoing → List Sending → Type 0
AreReadFrom records sendings = AllZip IsReadOutgoing records sendings

-- the record with none of its octets
abbrev pub emptied : Outgoing → Outgoing
emptied o = record o { octets = [] }

-- Less than a whole record: nothing, or the tag and less than the fields, or less than the datagram behind
-- fields that name a place and a frame in order.
abbrev pub IsPartOfSending : ℕ → List ℕ → Type 0
IsPartOfSending last octets = (octets ≡ [])
    ⊎ ((part : List ℕ) × (length part < 8) × (octets ≡ 2 ∷ part))
    ⊎ ((f : OutgoingFields) × (part : List ℕ) × FitsOutgoing f × IsSlotAndMode f.slot f.mode × (last ≤ f.frame)
    × (length part < f.count)
    × (octets ≡ 2 ∷ (outgoing_field_octets f ++ part)))

-- These octets, taken as the front of a record with so many records before it, the last of which has this
-- frame, show this fault. A tag is bad where it isn't 02, or where the fields behind it name no place.
abbrev pub ShowsOutgoingFault : ℕ → ℕ → ℕ → RecordFault → List ℕ → Type 0
ShowsOutgoingFault limit before last TooLong octets = (limit ≤ before) × (length octets ≡ 1)
ShowsOutgoingFault limit before last BadTag octets = (before < limit)
    × (((tag : ℕ) × (tag ≢ 2) × (octets ≡ tag ∷ []))
    ⊎ ((f : OutgoingFields) × FitsOutgoing f × (¬ IsSlotAndMode f.slot f.mode) × (octets ≡ 2 ∷ outgoing_field_octets f)))
ShowsOutgoingFault limit before last FrameOrder octets = (before < limit)
    × (f : OutgoingFields) × FitsOutgoing f × IsSlotAndMode f.slot f.mode × (f.frame < last)
    × (octets ≡ 2 ∷ outgoing_field_octets f)
ShowsOutgoingFault limit before last CutRecord octets = (before < limit)
    × (octets ≢ []) × IsPartOfSending last octets
ShowsOutgoingFault limit before last Read octets = (limit ≤ before → octets ≡ [])
    × IsPartOfSending last octets
ShowsOutgoingFault limit before last e octets = ⊥
