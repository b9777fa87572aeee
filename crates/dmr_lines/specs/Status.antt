-- The exit statuses.
use Rattle.std.specs.Prelude.{ℕ}

-- all was done
abbrev pub success : ℕ
success = 0

-- a file, a stream or the memory is at fault
abbrev pub failure : ℕ
failure = 1

-- what is asked for can't be
abbrev pub usage : ℕ
usage = 2
