-- Why a packet didn't become a record.
use Rattle.dmr_datagrams.specs.declared.progress.Untaken.{Untaken}
use Rattle.dmr_datagrams.specs.declared.progress.Untaken.TheVariants as why

-- something holds where there was no room for its record
abbrev pub IfPast : Untaken → Type 0 → Type 0
IfPast why.Past holds = holds
IfPast why.Torn holds = Unit {0}

-- something holds where the sink failed
abbrev pub IfRecordTorn : Untaken → Type 0 → Type 0
IfRecordTorn why.Torn holds = holds
IfRecordTorn why.Past holds = Unit {0}
