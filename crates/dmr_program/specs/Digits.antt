-- Bursts as they are written in digits.
use Rattle.std.specs.Prelude.{◌≡◌, ℕ, List, length}
use Rattle.std.specs.List.{AllPass}
use Rattle.hex.specs.Hex.{is_hex_digit}

-- A text of a burst: 66 hexadecimal digits.
abbrev pub IsBurstText : List ℕ → Type 0
IsBurstText text = (length text ≡ 66) × AllPass is_hex_digit text
