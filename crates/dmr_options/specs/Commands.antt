-- The commands of dmrgate.
use Rattle.std.specs.Prelude.{codes}
use Rattle.clap.specs.Words.{Text}
use Rattle.dmr_options.specs.declared.commands.Listed.{Listed}
use Rattle.dmr_options.specs.declared.commands.Listed.TheVariants.{Run, Slot, Show, Log, Make, Damage, Compare}
use Rattle.dmr_options.specs.declared.commands.Listed.TheVariants.{Import, Export}

-- the name of each
abbrev pub command_name : Listed → Text
command_name Run = codes "run"
command_name Slot = codes "slot"
command_name Show = codes "show"
command_name Log = codes "log"
command_name Make = codes "make"
command_name Damage = codes "damage"
command_name Compare = codes "compare"
command_name Import = codes "import"
command_name Export = codes "export"
