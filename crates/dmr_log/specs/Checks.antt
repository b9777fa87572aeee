-- How many bits of bursts are wrong, of how many.
use Rattle.std.specs.Prelude.{ℕ, ◌+◌, ◌-◌, ◌^◌, Some, min}
use Rattle.dmr_listing.specs.declared.wrong.Wrong.{Wrong}
use Rattle.dmr_log.specs.declared.checks.Checks.{Checks}
use Rattle.dmr_reading.specs.declared.reading.Information.TheVariants.{Coded}
use Rattle.dmr_reading.specs.declared.reading.Reading.{Reading}
use Rattle.dmr_reading.specs.declared.reading.Reading.TheVariants.{Data, Untyped, VoiceSync, Voice, Unreadable}

-- How many bits of a burst are covered, by what it is read as: 48 of a sync, 20 of a slot type, 195 of information in the product
-- code that is read, and 16 of an EMB.
abbrev pub covered : Reading → ℕ
covered (Data side slot_type (Coded (Some message))) = 263
covered (Data side slot_type information) = 68
covered (Untyped side) = 48
covered (VoiceSync side) = 48
covered (Voice emb) = 16
covered Unreadable = 0

-- the sum of two counts, as far as 64 bits go
abbrev pub sum : ℕ → ℕ → ℕ
sum a b = min (a + b) (2 ^ 64 - 1)

-- Of one burst: all its wrong bits, of all that are covered.
abbrev pub checks_of : Reading → Wrong → Checks
checks_of reading wrong = record {
  wrong = sum (sum (sum wrong.sync wrong.slot_type) wrong.emb) wrong.information;
  covered = covered reading;
}

-- no bit, of none
abbrev pub none_checked : Checks
none_checked = record { wrong = 0; covered = 0 }

-- of several bursts: their sums
abbrev pub both : Checks → Checks → Checks
both a b = record { wrong = sum a.wrong b.wrong; covered = sum a.covered b.covered }
