-- The options that describe an interface.
use Rattle.std.specs.Prelude.{◌≡◌, ◌≢◌, ℕ, ◌+◌, ◌*◌, ◌/◌, ◌<◌, ◌≤◌, ◌⊎◌, List, length, drop, slice_index}
use Rattle.dmr_capture.specs.declared.order.Order.{Order}
use Rattle.dmr_capture.specs.Orders.{ordered_number}

-- The first option of these has this number and this length.
pub record BeginsWithOption (order : Order) (options : List ℕ) (code len : ℕ) : Type 0 where
  pub there : 4 ≤ length options
  pub numbered : code ≡ ordered_number order 2 0 options
  pub long : len ≡ ordered_number order 2 2 options

-- how many octets an option has: four, and then its value, which is filled up to four octets
abbrev pub option_length : ℕ → ℕ
option_length len = 4 + (len + 3) / 4 * 4

-- These options say this resolution: that of the first option 9 of one octet. The options end with option 0, or where none has
-- room. Those that say none say microseconds.
pub data Says (order : Order) : List ℕ → ℕ → Type 0 where
  NoOption : (options : List ℕ) → length options < 4 → Says order options 6
  LastOption : (options : List ℕ) (code len : ℕ) → BeginsWithOption order options code len
      → (code ≡ 0) ⊎ (length options < option_length len) → Says order options 6
  Resolution : (options : List ℕ) → BeginsWithOption order options 9 1 → option_length 1 ≤ length options
      → Says order options (slice_index options 4)
  OtherOption : (options : List ℕ) (code len resolution : ℕ) → BeginsWithOption order options code len → code ≢ 0
      → (code ≢ 9) ⊎ (len ≢ 1) → option_length len ≤ length options
      → Says order (drop (option_length len) options) resolution → Says order options resolution
