-- The burst that a base station sends, as a mobile station would have sent it.
use Rattle.std.specs.Prelude.{ℕ, nat_le, if◌then◌else◌, Bool, true, false, List, Option, Some, None}
use Rattle.dmr_bits.specs.Bits.{bits_of_octets, distance, octets_of, put_at}
use Rattle.dmr_burst.specs.Layout.{sync_field}
use Rattle.dmr_burst.specs.Sync.{sync_word}
use Rattle.dmr_burst.specs.declared.sync.Side.TheVariants.{Bs, Ms}

-- whether the sync of a base station is read in a burst: its centre is within three bits of that word
abbrev pub has_station_sync : Bool → List ℕ → Bool
has_station_sync voice burst = nat_le (distance (sync_word Bs voice) (sync_field (bits_of_octets burst))) 3

-- the burst with the word of a mobile station in its bits 108 to 155
abbrev pub with_mobile_sync : Bool → List ℕ → List ℕ
with_mobile_sync voice burst = octets_of 33 (put_at (bits_of_octets burst) 108 (sync_word Ms voice))

-- the kind of the base station's sync that is read in a burst, where one is: voice or data
abbrev pub station_voice : List ℕ → Option Bool
station_voice burst = if has_station_sync true burst then Some true
    else if has_station_sync false burst then Some false
    else None

abbrev pub with_sync_of : Option Bool → List ℕ → List ℕ
with_sync_of None burst = burst
with_sync_of (Some voice) burst = with_mobile_sync voice burst

-- the burst with the sync of a mobile station where that of a base station is read, of the same kind; else the burst as it is
abbrev pub mobile_burst : List ℕ → List ℕ
mobile_burst burst = with_sync_of (station_voice burst) burst
