-- What a command line of `damage` asks for.
use Rattle.std.specs.Prelude.{◌≡◌, ℕ, Option, None, codes, unwrap_or}
use Rattle.clap.specs.declared.parser.matches.Found.{Found}
use Rattle.dmr_damage.specs.declared.settings.Damage.{Damage}
use Rattle.dmr_damage.specs.declared.settings.Damage.TheVariants.{WithinLimits, AtRate}
use Rattle.dmr_options.specs.Found.{IsGivenBy, IsNumberOf}

-- within the limits where no rate is given, and else at both rates, of which the one that isn't given is 0
abbrev pub damage_by : Option ℕ → Option ℕ → ℕ → Damage
damage_by None None colour = WithinLimits colour
damage_by errors loss colour = AtRate (unwrap_or errors 0) (unwrap_or loss 0)

-- The damage is that of the options of its names.
pub record IsDamageOf (found : Found) (damage : Damage) : Type 0 where
  pub errors : Option ℕ
  pub errors_given : IsGivenBy 16 found (codes "errors") errors
  pub loss : Option ℕ
  pub loss_given : IsGivenBy 16 found (codes "loss") loss
  pub colour : ℕ
  pub colour_number : IsNumberOf 8 found (codes "colour") colour
  pub value : damage ≡ damage_by errors loss colour
