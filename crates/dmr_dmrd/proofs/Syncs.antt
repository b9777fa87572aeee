-- The sync of a base station is read where its word is near, and no other.
use Rattle.std.proofs.Common.{◌≡◌, ℕ, ◌≤◌, nat_le, Bool, true, false, List, Option, Some, None, refl, sym, ap, ◌∙◌, subst, arith}
use Rattle.std.proofs.lemmas.Bool.Decides.{nat_tests}
use Rattle.dmr_bits.specs.Bits.{bits_of_octets}
use Rattle.dmr_burst.specs.Sync.{HasSync}
use Rattle.dmr_burst.specs.declared.sync.Side.{Side}
use Rattle.dmr_burst.specs.declared.sync.Side.TheVariants.{Bs, Ms}
use Rattle.dmr_burst.specs.declared.sync.Sync.{Sync}
use Rattle.dmr_dmrd.specs.Syncs.{has_station_sync, station_voice}

-- the sync of a base station
abbrev pub station : Bool → Sync
station voice = record { side = Bs; voice = voice }

within_three : (n : ℕ) → n ≤ 3 → nat_le n 3 ≡ true
within_three n near = grind (arith, nat_tests)

is_within : (n : ℕ) → nat_le n 3 ≡ true → n ≤ 3
is_within n near = grind (arith, nat_tests)

-- a word that is near is the one that is read
read_near : (burst : List ℕ) (found : Option Sync) (voice : Bool)
    → ((sync : Sync) → HasSync sync (bits_of_octets burst) → found ≡ Some sync) → has_station_sync voice burst ≡ true
    → found ≡ Some (station voice)
read_near burst found voice only near = only (station voice) (is_within _ near)

abbrev voice_of : Option Sync → Bool
voice_of None = true
voice_of (Some sync) = sync.voice

abbrev is_station : Side → Bool
is_station Bs = true
is_station Ms = false

abbrev is_of_station : Option Sync → Bool
is_of_station None = false
is_of_station (Some sync) = is_station sync.side

-- a mobile station's sync isn't a base station's
pub mobile_apart : (sync : Sync) → sync.side ≡ Ms → (voice : Bool) → Some sync ≡ Some (station voice) → ⊥
mobile_apart sync is voice same =
    let mobile : is_station sync.side ≡ false = ap is_station is in
    let both : false ≡ true = sym mobile ∙ ap is_of_station same in
    cc both

data_read : (burst : List ℕ) → ((sync : Sync) → HasSync sync (bits_of_octets burst) → Some (station false) ≡ Some sync)
    → has_station_sync false burst ≡ true → (near : Bool) → has_station_sync true burst ≡ near → Some false ≡ station_voice burst
data_read burst only within true near =
    let both : false ≡ true = ap voice_of (read_near burst (Some (station false)) true only near) in
    cc both
data_read burst only within false near = rw (near, within) refl

station_by : (burst : List ℕ) (voice : Bool) → HasSync (station voice) (bits_of_octets burst)
    → ((sync : Sync) → HasSync sync (bits_of_octets burst) → Some (station voice) ≡ Some sync)
    → Some voice ≡ station_voice burst
station_by burst true within only = rw (within_three _ within) refl
station_by burst false within only = data_read burst only (within_three _ within) (has_station_sync true burst) refl

-- a base station's sync is read
pub station_read : (burst : List ℕ) (sync : Sync) → sync.side ≡ Bs → HasSync sync (bits_of_octets burst)
    → ((other : Sync) → HasSync other (bits_of_octets burst) → Some sync ≡ Some other)
    → Some sync.voice ≡ station_voice burst
station_read burst sync side within only =
    let same : sync ≡ station sync.voice = ap (λ s. record { side = s; voice = sync.voice }) side in
    station_by burst sync.voice (subst (λ s. HasSync s (bits_of_octets burst)) same within)
    (subst (λ s. (other : Sync) → HasSync other (bits_of_octets burst) → Some s ≡ Some other) same only)

none_by : (burst : List ℕ) (found : Option Sync)
    → ((sync : Sync) → HasSync sync (bits_of_octets burst) → found ≡ Some sync)
    → ((voice : Bool) → found ≡ Some (station voice) → ⊥) → (first second : Bool) → has_station_sync true burst ≡ first
    → has_station_sync false burst ≡ second → None ≡ station_voice burst
none_by burst found only none true second is_first is_second = absurd (none true (read_near burst found true only is_first))
none_by burst found only none false true is_first is_second = absurd (none false (read_near burst found false only is_second))
none_by burst found only none false false is_first is_second = rw (is_first, is_second) refl

-- none is read
pub none_read : (burst : List ℕ) (found : Option Sync)
    → ((sync : Sync) → HasSync sync (bits_of_octets burst) → found ≡ Some sync)
    → ((voice : Bool) → found ≡ Some (station voice) → ⊥) → None ≡ station_voice burst
none_read burst found only none =
    none_by burst found only none (has_station_sync true burst) (has_station_sync false burst) refl refl
