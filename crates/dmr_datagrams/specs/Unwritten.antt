-- Why a record wasn't written.
use Rattle.dmr_datagrams.specs.declared.wanted.Unwritten.{Unwritten}
use Rattle.dmr_datagrams.specs.declared.wanted.Unwritten.TheVariants as why

-- something holds where it came too late
abbrev pub IfLate : Unwritten → Type 0 → Type 0
IfLate why.Late holds = holds
IfLate why.Torn holds = Unit {0}

-- something holds where the sink failed
abbrev pub IfPacketTorn : Unwritten → Type 0 → Type 0
IfPacketTorn why.Torn holds = holds
IfPacketTorn why.Late holds = Unit {0}
