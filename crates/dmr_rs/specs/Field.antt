-- Octets as the elements of a field of 256: each stands for the polynomial over bits of its eight bits, and products
-- are taken modulo x^8 + x^4 + x^3 + x^2 + 1.
use Rattle.std.specs.Prelude.{ℕ, ◌*◌, ◌/◌, ◌%◌, ◌==◌, Bool, true, false, List, ◌∷◌, ◌++◌, replicate, fold, bit_xor}
use Rattle.std.specs.Prelude.{if◌then◌else◌}
use Rattle.dmr_bits.specs.Bits.{bits_of, xor_bits}
use Rattle.dmr_bits.specs.Polynomials.{Coefficients, binary_field, product, IsMultiple}

-- x^8 + x^4 + x^3 + x^2 + 1
abbrev pub field_polynomial : List Bool
field_polynomial = true ∷ bits_of 8 0x1D

-- the octet's polynomial times x: where x^8 comes, it is taken off by adding the field's polynomial
abbrev pub times_x : ℕ → ℕ
times_x a = bit_xor (2 * a % 256) (if a / 128 % 2 == 1 then 0x1D else 0)

-- The product of two octets: for each bit of the first, the highest first, the sum so far times x, and the second added where the
-- bit is one. Of greater numbers it reads the lowest eight bits.
unfoldable pub times : ℕ → ℕ → ℕ
times a b = fold (λ sum bit. bit_xor (times_x sum) (if bit then b % 256 else 0)) 0 (bits_of 8 a)

-- octets as coefficients: the sum goes bit by bit
abbrev pub octet_field : Coefficients ℕ
octet_field = record { add = bit_xor; none = 0; times = times }

-- what a product in the field is: it differs from the product of the polynomials by a multiple of the field's
unfoldable pub IsProduct : ℕ → ℕ → ℕ → Type 0
IsProduct a b c =
    IsMultiple binary_field field_polynomial
    (xor_bits (product binary_field (bits_of 8 a) (bits_of 8 b)) (replicate 7 false ++ bits_of 8 c))
