-- How many link controls an alias of a talker takes. ETSI TS 102 361-2, clause 7.1.1.4.
use Rattle.std.specs.Prelude.{ℕ, ◌+◌, ◌-◌, ◌/◌}

-- A header has the first six letters of so many, and each block behind it seven more.
abbrev pub alias_parts : ℕ → ℕ
alias_parts letters = 1 + (letters - 6 + 6) / 7
