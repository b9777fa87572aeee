-- Silent frames, which have the same octets in an uplink file and in a downlink file.
use Rattle.std.specs.Prelude.{ℕ, ◌*◌, List, replicate}

-- The octets of so many silent frames: one for each of their two slots.
abbrev pub silence_octets : ℕ → List ℕ
silence_octets frames = replicate (2 * frames) 0
