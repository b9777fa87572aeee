-- A link control that is carried fits its fields.
use Rattle.std.specs.Prelude.{Option, Some, None}
use Rattle.dmr_link.specs.FullLc.{FitsFullLc}
use Rattle.dmr_link.specs.declared.full_lc.FullLc.{FullLc}

-- What is carried fits its fields, where anything is.
abbrev pub IsFitCarried : Option FullLc → Type 0
IsFitCarried None = Unit {0}
IsFitCarried (Some lc) = FitsFullLc lc
