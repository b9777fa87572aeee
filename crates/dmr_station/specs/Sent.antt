-- The octets that a slot of the downlink has: the exact encoding of what it sends.
use Rattle.std.specs.Prelude.{Bool, ℕ, ◌≡◌, ◌+◌, ◌%◌, ◌==◌, ◌<◌, List, [], ◌∷◌, Option, Some, None, All, IsSomeAnd, slice_index_or}
use Rattle.std.specs.Prelude.{if◌then◌else◌}
use Rattle.dmr_burst.specs.declared.burst.Burst.{Burst}
use Rattle.dmr_station.specs.declared.announcing.Message.{Message}
use Rattle.dmr_bits.specs.Bits.{bits_of_octets}
use Rattle.dmr_burst.specs.Burst.{IsEncoding}
use Rattle.dmr_burst.specs.Cach.{IsCach}
use Rattle.dmr_burst.specs.DataTypes.{first_fragment, last_fragment, continuation_fragment}
use Rattle.dmr_burst.specs.declared.sync.Side.TheVariants.{Bs}
use Rattle.dmr_embedded.specs.ShortLc.{IsShortLc}
use Rattle.dmr_record.specs.Downlink.{Sent}

-- What a slot of the downlink sends where it isn't silent: its burst, whether that repeats a burst of the uplink, and the message
-- of which its CACH carries a fragment.
pub record DownlinkBurst : Type 0 where
  pub burst : Burst
  pub is_repeated : Bool
  pub message : Message

-- Slots of the downlink, one after another: each has what it sends, or is silent.
abbrev pub DownlinkSlots : Type 0
DownlinkSlots = List (Option DownlinkBurst)

-- Bursts of slots, one after another: each slot has one, or none.
abbrev pub SlotBursts : Type 0
SlotBursts = List (Option Burst)

-- The records of the downlink are counted from 0, slot 1 first. Four of them carry one Short LC: the first fragment, two that
-- continue it, and the last.
abbrev pub fragment_lcss : ℕ → ℕ
fragment_lcss place =
    if place % 4 == 0 then first_fragment else (if place % 4 == 3 then last_fragment else continuation_fragment)

-- The CACH of a record: AT is 1 where a repeated burst follows, TC is 0 where slot 1 follows, and of the four fragments of a
-- message it has the one of its place.
abbrev pub IsCachOf : Bool → Message → ℕ → List ℕ → Type 0
IsCachOf busy m place octets =
    (fragments : List (List Bool)) × IsShortLc m.slco m.body fragments
    × IsCach busy (place % 2 == 1) (fragment_lcss place) (slice_index_or fragments (place % 4) []) (bits_of_octets octets)

-- The CACHs of records with these fragments, one for each fragment.
abbrev pub AreCachs : Bool → List (List Bool) → List (List ℕ) → Type 0
AreCachs busy fragments cachs =
    (place : ℕ) → IsCach busy (place % 2 == 1) (fragment_lcss place) (slice_index_or fragments (place % 4) [])
    (bits_of_octets (slice_index_or cachs (place % 4) []))

-- The four CACHs of a message, each in its place.
abbrev pub CarryMessage : Bool → Message → List (List ℕ) → Type 0
CarryMessage busy m cachs = (place : ℕ) → IsCachOf busy m place (slice_index_or cachs (place % 4) [])

-- Each of these numbers is an octet: below 256.
abbrev pub FitOctets : List ℕ → Type 0
FitOctets octets = All (λ octet. octet < 256) octets

-- What is sent for a slot: the octets of the CACH and of the base station's encoding of its burst, or nothing.
pub record IsSentBurst (place : ℕ) (d : DownlinkBurst) (cach burst : List ℕ) : Type 0 where
  pub cach_octets : FitOctets cach
  pub announces : IsCachOf d.is_repeated d.message place cach
  pub burst_octets : FitOctets burst
  pub encodes : IsEncoding d.burst Bs (bits_of_octets burst)

-- What one slot sends, with its CACH, as the record in this place of the downlink; a silent slot is a record of silence.
abbrev pub IsSentAs : ℕ → Option DownlinkBurst → Sent → Type 0
IsSentAs place (Some d) sent = IsSomeAnd sent (λ s. IsSentBurst place d s.0 s.1)
IsSentAs place None sent = sent ≡ None

-- What slots send one after the other, as the records from this place of the downlink on.
abbrev pub AreSentAs : ℕ → DownlinkSlots → List Sent → Type 0
AreSentAs place [] [] = Unit {0}
AreSentAs place [] (sent ∷ more) = ⊥
AreSentAs place (slot ∷ slots) [] = ⊥
AreSentAs place (slot ∷ slots) (sent ∷ more) = IsSentAs place slot sent × AreSentAs (place + 1) slots more
