-- Which link control is of a voice call.
use Rattle.std.specs.Prelude.{◌≡◌, ℕ}
use Rattle.dmr_link.specs.declared.full_lc.FullLc.{FullLc}
use Rattle.dmr_link.specs.declared.voice_lc.CallKind.{CallKind}
use Rattle.dmr_link.specs.declared.voice_lc.CallKind.TheVariants.{Group, UnitToUnit}

-- the opcode of each kind of call (ETSI TS 102 361-2, clause 7.1.1)
abbrev pub flco_of : CallKind → ℕ
flco_of Group = 0
flco_of UnitToUnit = 3

-- the opcode is of a kind of call
abbrev pub IsVoice : FullLc → Type 0
IsVoice lc = (kind : CallKind) × (lc.flco ≡ flco_of kind)
