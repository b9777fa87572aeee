-- Words that say octets.
use Rattle.std.proofs.Common.{◌≡◌, ◌≢◌, ℕ, ◌*◌, ◌/◌, ◌%◌, ◌<◌, ◌==◌, if◌then◌else◌, Bool, true, false, Ok, Err, List, []}
use Rattle.std.proofs.Common.{◌∷◌, length, inl, inr, refl, ap, arith}
use Rattle.std.specs.Prelude.{codes}
use Rattle.hex.specs.Hex.{decode_of, decode_pairs}
use Rattle.hex.specs.declared.error.FromHexError.TheVariants.{OddLength}
use Rattle.hex.proofs.HexLemmas.{decode_pairs-ok}
use Rattle.dmr_text.specs.Says.{SaysOctets}

long_by_parity : (odd : Bool) (word octets : List ℕ) → (if odd then Err OddLength else decode_pairs 0 word) ≡ Ok octets
    → length word ≡ 2 * length octets
long_by_parity true word octets e = cc e
long_by_parity false word octets e = (decode_pairs-ok 0 word octets e).1

-- two digits for each octet
decoded_long : (word octets : List ℕ) → decode_of word ≡ Ok octets → length word ≡ 2 * length octets
decoded_long word octets e = long_by_parity (length word % 2 == 1) word octets e

-- a word of one octet is no digits
pub too_short : (word : List ℕ) → length word / 2 ≡ 0 → word ≢ codes "-" → (octets : List ℕ) → SaysOctets word octets → ⊥
too_short word short other octets (inl (hyphen, none)) = other hyphen
too_short [] short other octets (inr (some, e)) = some refl
too_short (d ∷ []) short other octets (inr (some, e)) = cc e
too_short (d ∷ b ∷ word) short other octets (inr (some, e)) = absurd (omega arith)

-- digits of too many octets
pub too_many : (word : List ℕ) → 65535 < length word / 2 → (octets : List ℕ) → length octets < 65536 → SaysOctets word octets → ⊥
too_many word many octets few (inl (hyphen, none)) = let long = ap length hyphen in absurd (omega (arith, long, many))
too_many word many octets few (inr (some, e)) = let long = decoded_long word octets e in absurd (omega (arith, long, many, few))
