-- What faults say of the device and of the text.
use Rattle.std.specs.Prelude.{Bool, true, false}
use Rattle.dmr_words.specs.declared.fault.LineFault.{LineFault}
use Rattle.dmr_words.specs.declared.fault.LineFault.TheVariants.{Read}

-- the one fault that is the device's and not the text's
abbrev pub is_source_fault : LineFault → Bool
is_source_fault Read = true
is_source_fault e = false
