-- Why octets that were asked for didn't come.
use Rattle.std.specs.Prelude.{Bool, true, false}
use Rattle.dmr_capture.specs.declared.transfer.Cut.{Cut}
use Rattle.dmr_capture.specs.declared.transfer.Cut.TheVariants.{End, Device}

-- whether the source failed
abbrev pub is_device_cut : Cut → Bool
is_device_cut End = false
is_device_cut Device = true
