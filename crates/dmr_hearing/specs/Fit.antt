-- What is heard fits its fields.
use Rattle.std.specs.Prelude.{◌<◌, Option, Some, None}
use Rattle.dmr_hearing.specs.declared.heard.DataBurst.{DataBurst}
use Rattle.dmr_hearing.specs.declared.heard.Heard.{Heard}
use Rattle.dmr_link.specs.declared.full_lc.FullLc.{FullLc}

-- The opcode of a link control fits six bits.
abbrev pub IsFitLc : Option FullLc → Type 0
IsFitLc None = Unit {0}
IsFitLc (Some lc) = lc.flco < 64

-- What a data burst is heard as fits: the data type four bits, and the opcode of its link control six.
abbrev pub IsFitDataBurst : Option DataBurst → Type 0
IsFitDataBurst None = Unit {0}
IsFitDataBurst (Some data_burst) = (data_burst.kind < 16) × IsFitLc data_burst.link_control

-- What is heard fits its fields where its data burst does, if there is one: its data type, and the opcode of its link control.
abbrev pub IsFitHeard : Heard → Type 0
IsFitHeard heard = IsFitDataBurst heard.data_burst
