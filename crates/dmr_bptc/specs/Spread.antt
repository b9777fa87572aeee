-- Numbers side by side in one.
use Rattle.std.specs.Prelude.{ℕ, ◌+◌, ◌*◌, ◌^◌}

-- four numbers, so many bits each
abbrev pub four : ℕ → ℕ → ℕ → ℕ → ℕ → ℕ
four width a b c d = ((a * 2 ^ width + b) * 2 ^ width + c) * 2 ^ width + d
