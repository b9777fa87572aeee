-- The register of a generator after each octet.
use Rattle.std.specs.Prelude.{ℕ, ◌==◌, Bool, List, get_or}
use Rattle.std.specs.List.{list_all, range_with_len}
use Rattle.dmr_bits.specs.Bits.{bits_of, number_of}
use Rattle.dmr_bits.specs.Polynomials.{binary_field}
use Rattle.dmr_bits.specs.Register.{register_after}

-- for each octet what an empty register holds after it
abbrev pub are_remainders : (degree low : ℕ) → List ℕ → Bool
are_remainders degree low table =
    list_all
    (λ octet. get_or table octet 0
    == number_of (register_after binary_field (bits_of degree low) (bits_of degree 0) (bits_of 8 octet)))
    (range_with_len 0 256)
