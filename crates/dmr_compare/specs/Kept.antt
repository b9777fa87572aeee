-- What is compared of a slot, and when two slots are the same.
use Rattle.std.specs.Prelude.{◌==◌, ◌&&◌, ℕ, Bool, true, false, List, [], Option, Some, None, if◌then◌else◌}
use Rattle.dmr_bits.specs.Bits.{bits_of_octets, distance, part}
use Rattle.dmr_reading.specs.declared.reading.Reading.{Reading}
use Rattle.dmr_reading.specs.declared.reading.Reading.TheVariants.{VoiceSync, Voice}
use Rattle.dmr_compare.specs.Slots.{ListedSlot}
use Rattle.dmr_listing.specs.declared.listed_burst.ListedBurst.{ListedBurst}
use Rattle.dmr_compare.specs.declared.settings.Ignored.{Ignored}

-- 1. What isn't ignored.

-- the bits of a CACH, and none where there is no CACH, as on the uplink
abbrev pub cach_bits : Option (List ℕ) → List Bool
cach_bits None = []
cach_bits (Some cach) = bits_of_octets cach

-- a burst that is read so is a voice burst: it has the voice sync, or embedded signalling in place of a sync
abbrev pub is_voice : Reading → Bool
is_voice (VoiceSync side) = true
is_voice (Voice emb) = true
is_voice reading = false

-- the bits of the CACH before a burst, and none where they are ignored
abbrev pub compared_cach : Ignored → ListedBurst → List Bool
compared_cach ignored listed = if ignored.cach then [] else cach_bits listed.burst.cach

-- The bits of a burst, by whether its vocoder bits are left out: all 264, or the 48 at the centre, from 108 to 155. ETSI TS 102
-- 361-1, clause 6.1.
abbrev pub compared_bits : Bool → ListedBurst → List Bool
compared_bits without_vocoder listed =
    let bits = bits_of_octets listed.burst.burst in
    if without_vocoder then part bits 108 156 else bits

-- What isn't ignored of a burst: bits of the CACH before it, and bits of its own.
pub record KeptBurst : Type 0 where
  pub cach : List Bool
  pub burst : List Bool

-- what isn't ignored of a burst: its vocoder bits are ignored where it is a voice burst
abbrev pub kept_burst : Ignored → ListedBurst → KeptBurst
kept_burst ignored listed = record {
  cach = compared_cach ignored listed;
  burst = compared_bits (ignored.vocoder && is_voice listed.line.reading) listed;
}

-- what isn't ignored of a slot
abbrev pub kept : Ignored → ListedSlot → Option KeptBurst
kept ignored None = None
kept ignored (Some listed) = Some (kept_burst ignored listed)

-- 2. What differs.

-- how many bits differ of two CACHs
abbrev pub differing_in_cach : Ignored → ListedBurst → ListedBurst → ℕ
differing_in_cach ignored first second = distance (compared_cach ignored first) (compared_cach ignored second)

-- how many bits differ of two bursts: where both are voice bursts, their vocoder bits may be ignored
abbrev pub differing_in_burst : Ignored → ListedBurst → ListedBurst → ℕ
differing_in_burst ignored first second =
    let without_vocoder = ignored.vocoder && (is_voice first.line.reading && is_voice second.line.reading) in
    distance (compared_bits without_vocoder first) (compared_bits without_vocoder second)

-- whether two slots are the same: both are silent, or both have a burst and no bit differs
abbrev pub is_same : Ignored → ListedSlot → ListedSlot → Bool
is_same ignored None None = true
is_same ignored (Some first) (Some second) =
    (differing_in_cach ignored first second == 0) && (differing_in_burst ignored first second == 0)
is_same ignored first second = false
