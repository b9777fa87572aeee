-- What is written where one file is made of another.
use Rattle.std.specs.Prelude.{Bool, true, false}
use Rattle.dmr_tools.specs.declared.carrying.Direction.{Direction}
use Rattle.dmr_tools.specs.declared.request.ExportFormat.TheVariants as to
use Rattle.dmr_tools.specs.declared.carrying.Direction.TheVariants.{Import, Export, Damage}

-- octets are written, and no text
abbrev pub is_to_octets : Direction → Bool
is_to_octets (Import format) = true
is_to_octets (Export to.Text) = false
is_to_octets (Export (to.Datagrams settings)) = true
is_to_octets (Export (to.Dmrd settings)) = true
is_to_octets (Damage damage seed) = true
