-- Hexadecimal digits and their values.
use Rattle.std.specs.Prelude.{ℕ, unwrap_or}
use Rattle.hex.specs.Hex.{hex_digit_value}

-- The value of a hexadecimal digit, small or capital, and 16 for any other octet.
abbrev pub digit_value : ℕ → ℕ
digit_value octet = unwrap_or (hex_digit_value octet) 16
