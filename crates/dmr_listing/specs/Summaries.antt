-- What a listing of a recording counts.
use Rattle.std.specs.Prelude.{◌==◌, ◌+◌, ◌-◌, ◌^◌, ℕ, Bool, true, false, if◌then◌else◌, min}
use Rattle.dmr_listing.specs.declared.burst_line.BurstLine.{BurstLine}
use Rattle.dmr_listing.specs.declared.summary.BurstCounts.{BurstCounts}
use Rattle.dmr_reading.specs.declared.reading.Reading.{Reading}
use Rattle.dmr_reading.specs.declared.reading.Reading.TheVariants.{Unreadable}

-- whether a burst read as nothing: it is of no known kind, or too damaged
abbrev pub is_unreadable : Reading → Bool
is_unreadable Unreadable = true
is_unreadable reading = false

-- one more where something holds, as far as 32 bits go
abbrev pub more : Bool → ℕ → ℕ
more holds count = min (count + (if holds then 1 else 0)) (2 ^ 32 - 1)

-- the counts before the first line: no burst in slot 1 or slot 2, and none that is unreadable
abbrev pub none_counted : BurstCounts
none_counted = record { slot_1 = 0; slot_2 = 0; unreadable = 0 }

-- the counts with this line
abbrev pub counted_line : BurstLine → BurstCounts → BurstCounts
counted_line line counts = record {
  slot_1 = more (line.place.slot == 1) counts.slot_1;
  slot_2 = more (line.place.slot == 2) counts.slot_2;
  unreadable = more (is_unreadable line.reading) counts.unreadable;
}
