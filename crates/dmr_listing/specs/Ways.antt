-- From whom a data header is, and to whom.
use Rattle.std.specs.Prelude.{ℕ, Bool, false}
use Rattle.dmr_data.specs.declared.header.Header.{Header}
use Rattle.dmr_data.specs.declared.header.Header.TheVariants as header

-- the address of its source
abbrev pub source_of : Header → ℕ
source_of (header.Response h) = h.source
source_of (header.Unconfirmed h) = h.source
source_of (header.Confirmed h) = h.source
source_of (header.ShortData h) = h.source
source_of (header.Status h) = h.source

-- whether it goes to a talk group; an answer never does
abbrev pub is_to_group : Header → Bool
is_to_group (header.Response h) = false
is_to_group (header.Unconfirmed h) = h.group
is_to_group (header.Confirmed h) = h.group
is_to_group (header.ShortData h) = h.group
is_to_group (header.Status h) = h.group

-- the address of its destination
abbrev pub target_of : Header → ℕ
target_of (header.Response h) = h.destination
target_of (header.Unconfirmed h) = h.destination
target_of (header.Confirmed h) = h.destination
target_of (header.ShortData h) = h.destination
target_of (header.Status h) = h.destination
