-- What was heard of an uplink.
use Rattle.std.specs.Prelude.{◌≡◌, ◌==◌, ◌+◌, ◌-◌, ◌^◌, ℕ, Bool, true, false, not, if◌then◌else◌, min, List, Option, Some, None}
use Rattle.dmr_bits.specs.Bits.{bits_of_octets}
use Rattle.dmr_burst.specs.declared.sync.Side.{Side}
use Rattle.dmr_burst.specs.declared.sync.Side.TheVariants.{Bs, Ms}
use Rattle.dmr_reading.specs.Reading.{IsReadAs, named_colour}
use Rattle.dmr_reading.specs.declared.reading.Reading.{Reading}
use Rattle.dmr_reading.specs.declared.reading.Reading.TheVariants.{Data, Untyped, VoiceSync}
use Rattle.dmr_watch.specs.declared.heard.Heard.{Heard}

-- a colour code is named, and it is another one
abbrev pub is_other : ℕ → Option ℕ → Bool
is_other colour None = false
is_other colour (Some named) = not (named == colour)

-- A burst is of another colour code where its slot type or its EMB names another one.
abbrev pub is_of_other_colour : ℕ → Reading → Bool
is_of_other_colour colour reading = is_other colour (named_colour reading)

-- a base station sends it, and no mobile station
abbrev pub is_base_station : Side → Bool
is_base_station Bs = true
is_base_station Ms = false

-- A burst is of a base station where it has one of the syncs of base stations.
abbrev pub is_of_base_station : Reading → Bool
is_of_base_station (Data side slot_type information) = is_base_station side
is_of_base_station (Untyped side) = is_base_station side
is_of_base_station (VoiceSync side) = is_base_station side
is_of_base_station reading = false

-- one more where something holds, as far as 32 bits go
abbrev pub one_more : Bool → ℕ → ℕ
one_more holds count = min (count + (if holds then 1 else 0)) (2 ^ 32 - 1)

-- nothing so far
abbrev pub none_heard : Heard
none_heard = record { bursts = 0; of_other_colours = 0; of_base_stations = 0 }

-- with a burst that is read as this
abbrev pub heard_counted : ℕ → Reading → Heard → Heard
heard_counted colour reading heard = record {
  bursts = one_more true heard.bursts;
  of_other_colours = one_more (is_of_other_colour colour reading) heard.of_other_colours;
  of_base_stations = one_more (is_of_base_station reading) heard.of_base_stations;
}

-- A burst was counted: as what it is read as.
pub record HearsBurst (colour : ℕ) (burst : List ℕ) (before after : Heard) : Type 0 where
  pub reading : Reading
  pub read : IsReadAs (bits_of_octets burst) reading
  pub value : after ≡ heard_counted colour reading before
