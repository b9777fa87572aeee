-- What a script's values have to fit, so that there are bursts for them.
use Rattle.std.specs.Prelude.{◌≡◌, ◌<◌, ◌≤◌, All, length}
use Rattle.dmr_script.specs.Fits.{FitsCarried}
use Rattle.dmr_script.specs.declared.call.Call.{Call}
use Rattle.dmr_script.specs.declared.control.LoneBurst.{LoneBurst}
use Rattle.dmr_script.specs.declared.control.LoneBurst.TheVariants as lone
use Rattle.dmr_script.specs.declared.shape.CallStart.{CallStart}
use Rattle.dmr_script.specs.declared.shape.CallStart.TheVariants as start

-- at most five places stand in front of the first A
abbrev pub IsFitStart : CallStart → Type 0
IsFitStart (start.Headers h) = Unit {0}
IsFitStart (start.Late tail) = length tail.items ≤ 5

-- The opcodes of the link controls of a call fit six bits, and at most five places stand in front of its first A.
pub record IsFitCall (call : Call) : Type 0 where
  pub link_control : call.link_control.flco < 64
  pub carried : All FitsCarried call.carried.items
  pub start : IsFitStart call.shape.start

-- the opcode of the link control of a terminator fits six bits
abbrev pub IsFitTerminator : LoneBurst → Type 0
IsFitTerminator (lone.Terminator lc) = lc.flco < 64
IsFitTerminator burst = Unit {0}

-- information that is said bit by bit has 196 bits
abbrev pub IsFitRaw : LoneBurst → Type 0
IsFitRaw (lone.RateThreeQuarters bits) = length bits ≡ 196
IsFitRaw (lone.RateOne bits) = length bits ≡ 196
IsFitRaw burst = Unit {0}

-- A data burst by itself fits.
pub record IsFitLone (burst : LoneBurst) : Type 0 where
  pub terminator : IsFitTerminator burst
  pub raw : IsFitRaw burst
