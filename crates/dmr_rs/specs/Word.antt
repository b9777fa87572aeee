-- Words of the Reed-Solomon code (12,9). ETSI TS 102 361-1, annex B.3.6.
use Rattle.std.specs.Prelude.{◌≡◌, ℕ, zero, suc, ◌+◌, ◌==◌, ◌<◌, ◌≤◌, List, [], ◌∷◌, fold, bit_xor, if◌then◌else◌}
use Rattle.dmr_bits.specs.Polynomials.{IsMultiple}
use Rattle.dmr_rs.specs.Field.{times, octet_field}

-- the coefficients of the generator below its highest
abbrev pub generator_low : List ℕ
generator_low = 0x0E ∷ 0x38 ∷ 0x40 ∷ []

-- octets, twelve wherever a word is meant, are one where they are the coefficients of a multiple of the generator, which is
-- x^3 + 0E x^2 + 38 x + 40
abbrev pub IsRsWord : List ℕ → Type 0
IsRsWord octets = IsMultiple octet_field (1 ∷ generator_low) octets

-- the value of the polynomial with these coefficients, the highest power first, where x is an octet
unfoldable pub value_at : ℕ → List ℕ → ℕ
value_at x octets = fold (λ sum octet. bit_xor (times x sum) octet) 0 octets

-- the powers of the octet 02
abbrev pub power : ℕ → ℕ
power zero = 1
power (suc k) = times 2 (power k)

-- zero at the powers 1 to 3
abbrev pub IsZeroAtRoots : List ℕ → Type 0
IsZeroAtRoots octets = (k : ℕ) → 0 < k → k ≤ 3 → value_at (power k) octets ≡ 0

-- the number of places in which two lists differ
abbrev pub octet_distance : List ℕ → List ℕ → ℕ
octet_distance [] ys = 0
octet_distance (x ∷ xs) [] = 0
octet_distance (x ∷ xs) (y ∷ ys) = (if x == y then 0 else 1) + octet_distance xs ys
