-- When packets came, in nanoseconds.
use Rattle.std.specs.Prelude.{ℕ, ◌+◌, ◌*◌, ◌/◌, ◌%◌, ◌^◌, nat_lt, if◌then◌else◌}
use Rattle.dmr_capture.specs.declared.pcap.Fraction.{Fraction}
use Rattle.dmr_capture.specs.declared.pcap.Fraction.TheVariants.{Micro, Nano}

-- The base of the digits of a resolution: its highest bit is set where they are binary.
abbrev pub base_of : ℕ → ℕ
base_of resolution = if nat_lt resolution 128 then 10 else 2

-- how many of its units a second has
abbrev pub units_in_second : ℕ → ℕ
units_in_second resolution = base_of resolution ^ (resolution % 128)

-- so many units as nanoseconds, rounded down
abbrev pub counted_time : ℕ → ℕ → ℕ
counted_time resolution count = count * 1000000000 / units_in_second resolution

-- how many nanoseconds the fraction of a second in a pcap counts in
abbrev pub nanoseconds_of : Fraction → ℕ
nanoseconds_of Micro = 1000
nanoseconds_of Nano = 1

-- the time of a packet of a pcap, by its seconds and their fraction
abbrev pub pcap_time : Fraction → ℕ → ℕ → ℕ
pcap_time fraction seconds part = seconds * 1000000000 + part * nanoseconds_of fraction
