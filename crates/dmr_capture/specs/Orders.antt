-- Numbers in the order of octets of who wrote them.
use Rattle.std.specs.Prelude.{ℕ, List, drop}
use Rattle.byteorder.specs.Endian.{big_number, little_number}
use Rattle.dmr_capture.specs.declared.order.Order.{Order}
use Rattle.dmr_capture.specs.declared.order.Order.TheVariants.{Big, Little}

-- the number of the first n octets
abbrev pub number : Order → ℕ → List ℕ → ℕ
number Big n octets = big_number n octets
number Little n octets = little_number n octets

-- the number of n octets from this place on
abbrev pub ordered_number : Order → ℕ → ℕ → List ℕ → ℕ
ordered_number order n at octets = number order n (drop at octets)
