-- How a recording may be damaged.
use Rattle.std.specs.Prelude.{ℕ, ◌<◌, ◌≤◌, Option, Some, None, nat_lt, if◌then◌else◌}
use Rattle.dmr_damage.specs.declared.settings.Damage.{Damage}
use Rattle.dmr_damage.specs.declared.settings.Damage.TheVariants.{WithinLimits, AtRate}
use Rattle.dmr_damage.specs.declared.settings.SettingsFault.{SettingsFault}
use Rattle.dmr_damage.specs.declared.settings.SettingsFault.TheVariants as fault

-- How a recording is damaged, and the seed.
pub record Settled : Type 0 where
  pub damage : Damage
  pub seed : ℕ

-- A colour code is below 16, and a rate at most 10,000.
abbrev pub IsInRange : Damage → Type 0
IsInRange (WithinLimits colour) = colour < 16
IsInRange (AtRate errors loss) = (errors ≤ 10000) × (loss ≤ 10000)

-- what is out of its range, where anything is: a colour code, or a rate, that of errors first
abbrev pub damage_fault : Damage → Option SettingsFault
damage_fault (WithinLimits colour) = if nat_lt 15 colour then Some fault.Colour else None
damage_fault (AtRate errors loss) =
    if nat_lt 10000 errors then Some fault.Errors else (if nat_lt 10000 loss then Some fault.Loss else None)
