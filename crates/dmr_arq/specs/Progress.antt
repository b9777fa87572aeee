-- A packet in progress.
use Rattle.std.specs.Prelude.{ℕ, List, Option, option_map}
use Rattle.dmr_data.specs.declared.header.Header.{Header}

-- The header that opened the packet, how many octets the first block has that counted, so that its rate is known, and its blocks.
pub record Progress : Type 0 where
  pub header : Header
  pub width : Option ℕ
  pub cells : List (Option (List ℕ))

-- the packet that this header opened, where there is one
abbrev pub in_progress : Option Header → Option ℕ → List (Option (List ℕ)) → Option Progress
in_progress first width cells = option_map (λ opened. record { header = opened; width = width; cells = cells }) first
