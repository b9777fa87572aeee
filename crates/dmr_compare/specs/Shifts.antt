-- Which slots of two recordings stand in front of those that are compared.
use Rattle.std.specs.Prelude.{ℕ, ◌*◌, Option, Some, None}
use Rattle.dmr_compare.specs.declared.settings.Shift.{Shift}
use Rattle.dmr_compare.specs.declared.settings.Shift.TheVariants.{Later, Earlier}

-- of the first recording: none, or the two of each frame by which the second has things earlier
abbrev pub slots_in_front_of_first : Option Shift → ℕ
slots_in_front_of_first None = 0
slots_in_front_of_first (Some (Later frames)) = 0
slots_in_front_of_first (Some (Earlier frames)) = 2 * frames

-- of the second recording: none, or the two of each frame by which it has things later
abbrev pub slots_in_front_of_second : Option Shift → ℕ
slots_in_front_of_second None = 0
slots_in_front_of_second (Some (Later frames)) = 2 * frames
slots_in_front_of_second (Some (Earlier frames)) = 0
