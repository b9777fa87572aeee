-- What a sink holds with what waits for it.
use Rattle.std.specs.Prelude.{ℕ, List, Option}
use Rattle.std.specs.Io.KnownBytes.{append_known}

-- what the sink holds, and what waits behind that
abbrev pub held_by : Option (List ℕ) → List ℕ → Option (List ℕ)
held_by held waiting = append_known held waiting
