-- Which words show which fault of a text, behind the records that its lines said so far.
use Rattle.std.specs.Prelude.{◌≡◌, ◌≢◌, ℕ, ◌+◌, ◌-◌, ◌*◌, ◌^◌, ◌<◌, ◌≤◌, ◌⊎◌, Bool, true, false, List, [], ◌∷◌, Option, codes}
use Rattle.std.specs.Prelude.{decimal, length}
use Rattle.dmr_recording.specs.Recordings.{slot_limit_of}
use Rattle.dmr_recording.specs.declared.recording.RecordedBurst.{RecordedBurst}
use Rattle.dmr_recording.specs.declared.recording.Recording.{Recording}
use Rattle.dmr_record.specs.Head.{record_limit}
use Rattle.dmr_record.specs.Received.{Follows, IsSlot, ReceivedFields, kind_octet, received_limit}
use Rattle.dmr_record.specs.declared.received.ReceivedKind.{ReceivedKind}
use Rattle.dmr_text.specs.Says.{SaysBurst, SaysOctets}
use Rattle.dmr_text.specs.Spelling.{confirmed_word, frames_words, kind_word, rate_word, records_words}
use Rattle.dmr_text.specs.declared.fault.TextFault.{TextFault}
use Rattle.dmr_text.specs.declared.fault.TextFault.TheVariants.{NoLastLine, PlacesDontGrow, Read, TooLong, WrongBurst, WrongKind}
use Rattle.dmr_text.specs.declared.fault.TextFault.TheVariants.{WrongMode, WrongNumber, WrongOctets}

-- the one fault that is the device's and not the text's
abbrev pub is_read : TextFault → Bool
is_read Read = true
is_read fault = false

-- The first of these words is this one.
abbrev pub BeginsWith : List ℕ → List (List ℕ) → Type 0
BeginsWith word words = (rest : List (List ℕ)) × (words ≡ word ∷ rest)

-- These words begin neither as the last line of a recording nor as that of a list.
pub record IsOfRecord (words : List (List ℕ)) : Type 0 where
  pub frames : ¬ BeginsWith (codes "frames") words
  pub records : ¬ BeginsWith (codes "records") words

-- These words begin with a frame and a slot, and others stand behind them.
pub record HasPlace (words : List (List ℕ)) (frame slot : ℕ) (rest : List (List ℕ)) : Type 0 where
  pub line : words ≡ decimal frame ∷ decimal slot ∷ rest
  pub few : frame < 2 ^ 32
  pub one : IsSlot slot

-- the number of a slot among those of a recording, from 0 on
abbrev pub slot_number : ℕ → ℕ → ℕ
slot_number frame slot = 2 * frame + (slot - 1)

-- They begin with no frame and slot.
abbrev pub HasNoPlace : List (List ℕ) → Type 0
HasNoPlace words = (frame slot : ℕ) (rest : List (List ℕ)) → ¬ HasPlace words frame slot rest

-- These words show this fault in a recording, with so many slots up to the last that was said.
abbrev pub ShowsSlotLineFault : Recording → ℕ → TextFault → List (List ℕ) → Type 0
ShowsSlotLineFault of count NoLastLine words = BeginsWith (codes "records") words
ShowsSlotLineFault of count WrongNumber words =
    (BeginsWith (codes "frames") words × ((frames : ℕ) → frames < 2 ^ 32 → words ≢ frames_words frames))
    ⊎ ((frames : ℕ) × (frames < 2 ^ 32) × (words ≡ frames_words frames) × (2 * frames < count))
    ⊎ (IsOfRecord words × HasNoPlace words)
ShowsSlotLineFault of count TooLong words =
    ((frames : ℕ) × (frames < 2 ^ 32) × (words ≡ frames_words frames) × (count ≤ 2 * frames) × (slot_limit_of of < 2 * frames))
    ⊎ ((frame slot : ℕ) × (rest : List (List ℕ)) × HasPlace words frame slot rest × (slot_limit_of of ≤ slot_number frame slot))
ShowsSlotLineFault of count PlacesDontGrow words = (frame slot : ℕ) × (rest : List (List ℕ)) × HasPlace words frame slot rest
    × (slot_number frame slot < slot_limit_of of) × (slot_number frame slot < count)
ShowsSlotLineFault of count WrongBurst words = (frame slot : ℕ) × (rest : List (List ℕ)) × HasPlace words frame slot rest
    × (slot_number frame slot < slot_limit_of of) × (count ≤ slot_number frame slot)
    × ((burst : RecordedBurst) → ¬ SaysBurst of rest burst)
ShowsSlotLineFault of count fault words = ⊥

-- They aren't one word that says octets, fewer than 65,536.
abbrev pub HasNoOctets : List (List ℕ) → Type 0
HasNoOctets words = (word octets : List ℕ) → words ≡ word ∷ [] → length octets < 2 ^ 16 → ¬ SaysOctets word octets

-- These words show this fault in an outgoing list, with so many records before, the last of which has this frame.
abbrev pub ShowsSendingLineFault : ℕ → ℕ → TextFault → List (List ℕ) → Type 0
ShowsSendingLineFault count last NoLastLine words = BeginsWith (codes "frames") words
ShowsSendingLineFault count last WrongNumber words =
    (BeginsWith (codes "records") words × (words ≢ records_words count)) ⊎ (IsOfRecord words × HasNoPlace words)
ShowsSendingLineFault count last TooLong words = (frame slot : ℕ) × (rest : List (List ℕ)) × HasPlace words frame slot rest
    × (record_limit ≤ count)
ShowsSendingLineFault count last PlacesDontGrow words = (frame slot : ℕ) × (rest : List (List ℕ)) × HasPlace words frame slot rest
    × (count < record_limit) × (frame < last)
ShowsSendingLineFault count last WrongMode words = (frame slot : ℕ) × (rest : List (List ℕ)) × HasPlace words frame slot rest
    × (count < record_limit) × (last ≤ frame)
    × ((confirmed full : Bool) (behind : List (List ℕ)) → rest ≢ confirmed_word confirmed ∷ rate_word full ∷ behind)
ShowsSendingLineFault count last WrongOctets words = (frame slot : ℕ) × (confirmed full : Bool) × (behind : List (List ℕ))
    × HasPlace words frame slot (confirmed_word confirmed ∷ rate_word full ∷ behind)
    × (count < record_limit) × (last ≤ frame)
    × HasNoOctets behind
ShowsSendingLineFault count last fault words = ⊥

-- These words begin with a frame, a slot, a word for a kind and a source, and others stand behind them.
pub record HasSource (words : List (List ℕ)) (frame slot : ℕ) (kind : List ℕ) (source : ℕ) (rest : List (List ℕ)) : Type 0 where
  pub line : words ≡ decimal frame ∷ decimal slot ∷ kind ∷ decimal source ∷ rest
  pub few : frame < 2 ^ 32
  pub one : IsSlot slot
  pub fits : source < 2 ^ 24

-- They don't.
abbrev pub HasNoSource : List (List ℕ) → Type 0
HasNoSource words = (frame slot : ℕ) (kind : List ℕ) (source : ℕ) (rest : List (List ℕ))
    → ¬ HasSource words frame slot kind source rest

-- the fields by which a received record has its order: its frame, its slot and its kind
abbrev pub order_fields : ℕ → ℕ → ReceivedKind → ReceivedFields
order_fields frame slot kind = record { frame = frame; slot = slot; kind = kind_octet kind; source = 0; count = 0 }

-- a word is no kind
abbrev pub IsNoKind : List ℕ → Type 0
IsNoKind word = (kind : ReceivedKind) → word ≢ kind_word kind

-- a word is this kind, or could be any since it is none
abbrev pub CouldBe : List ℕ → ReceivedKind → Type 0
CouldBe word kind = (word ≡ kind_word kind) ⊎ IsNoKind word

-- These words show this fault in a received list, with so many records before, the last of which has these fields. A record whose
-- word for a kind is none stands out of its order where a record of any kind would.
abbrev pub ShowsReceiptLineFault : ℕ → Option ReceivedFields → TextFault → List (List ℕ) → Type 0
ShowsReceiptLineFault count last NoLastLine words = BeginsWith (codes "frames") words
ShowsReceiptLineFault count last WrongNumber words =
    (BeginsWith (codes "records") words × (words ≢ records_words count)) ⊎ (IsOfRecord words × HasNoSource words)
ShowsReceiptLineFault count last TooLong words = (frame slot : ℕ) × (kind : List ℕ) × (source : ℕ) × (rest : List (List ℕ))
    × HasSource words frame slot kind source rest × (received_limit ≤ count)
ShowsReceiptLineFault count last PlacesDontGrow words = (frame slot : ℕ) × (kind : List ℕ) × (source : ℕ) × (rest : List (List ℕ))
    × HasSource words frame slot kind source rest × (count < received_limit)
    × ((k : ReceivedKind) → CouldBe kind k → ¬ Follows last (order_fields frame slot k))
ShowsReceiptLineFault count last WrongKind words = (frame slot : ℕ) × (kind : List ℕ) × (source : ℕ) × (rest : List (List ℕ))
    × HasSource words frame slot kind source rest × (count < received_limit)
    × ((k : ReceivedKind) × Follows last (order_fields frame slot k)) × IsNoKind kind
ShowsReceiptLineFault count last WrongOctets words = (frame slot : ℕ) × (k : ReceivedKind) × (source : ℕ) × (rest : List (List ℕ))
    × HasSource words frame slot (kind_word k) source rest × (count < received_limit)
    × Follows last (order_fields frame slot k) × HasNoOctets rest
ShowsReceiptLineFault count last fault words = ⊥
