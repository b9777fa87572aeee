-- What may be transmitted on the downlink.
use Rattle.std.specs.Prelude.{ℕ, ◌≡◌, Bool, List, [], ◌∷◌, Option, Some, None, IsSomeAnd, map}
use Rattle.dmr_bits.specs.Bits.{bits_of_octets}
use Rattle.dmr_burst.specs.Burst.{IsEncoding}
use Rattle.dmr_burst.specs.Cach.{IsCach}
use Rattle.dmr_burst.specs.declared.burst.Burst.{Burst}
use Rattle.dmr_burst.specs.declared.sync.Side.TheVariants.{Bs}
use Rattle.dmr_slot.specs.Clean.{AreCleanBursts}
use Rattle.dmr_station.specs.Sent.{DownlinkBurst, DownlinkSlots, SlotBursts}
use Rattle.std.specs.List.{AllZip}
use Rattle.dmr_record.specs.Downlink.{Sent}

-- 1. Bursts of both slots in turn.

-- The records of slot 1, which stand first in each frame.
abbrev pub first_slots : {X : Type 0} → List X → List X
first_slots [] = []
first_slots (a ∷ []) = a ∷ []
first_slots (a ∷ b ∷ more) = a ∷ first_slots more

-- The records of slot 2.
abbrev pub second_slots : {X : Type 0} → List X → List X
second_slots [] = []
second_slots (a ∷ []) = []
second_slots (a ∷ b ∷ more) = b ∷ second_slots more

-- From slot 1 of a frame on: the bursts of each slot are clean, superframes and all.
pub record AreCleanSlots (colour : ℕ) (bursts : SlotBursts) : Type 0 where
  pub first : AreCleanBursts colour (first_slots bursts)
  pub second : AreCleanBursts colour (second_slots bursts)

-- 2. Records of the downlink.

-- A CACH with its fields.
pub record IsCleanCach (octets : List ℕ) : Type 0 where
  pub at : Bool
  pub tc : Bool
  pub lcss : ℕ
  pub fragment : List Bool
  pub fields : IsCach at tc lcss fragment (bits_of_octets octets)

-- A slot's octets: a CACH and the base station's encoding of the burst, or nothing where it is silent.
abbrev pub IsEncodedAs : Option Burst → Sent → Type 0
IsEncodedAs None sent = sent ≡ None
IsEncodedAs (Some burst) sent = IsSomeAnd sent (λ s. IsCleanCach s.0 × IsEncoding burst Bs (bits_of_octets s.1))

-- Records that may be transmitted: the encoding of clean bursts.
pub record IsCleanDownlink (colour : ℕ) (sent : List Sent) : Type 0 where
  pub bursts : SlotBursts
  pub encoded : AllZip IsEncodedAs bursts sent
  pub clean : AreCleanSlots colour bursts

-- 3. What is sent.

-- The burst that a slot of the downlink sends, or none where it is silent.
abbrev pub burst_sent : Option DownlinkBurst → Option Burst
burst_sent None = None
burst_sent (Some d) = Some d.burst

-- The bursts of one slot after another, none for a silent one.
abbrev pub bursts_in : DownlinkSlots → SlotBursts
bursts_in slots = map burst_sent slots
