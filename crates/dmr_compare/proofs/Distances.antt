-- Distances of lists of bits.
use Rattle.std.proofs.Common.{◌≡◌, Bool, true, false, List, [], ◌∷◌, refl, sym, ap, ◌∙◌, arith}
use Rattle.dmr_bits.proofs.Lists.{distance-cons}
use Rattle.dmr_bits.specs.Bits.{distance}

-- nothing is at no distance from anything
pub from_nothing : (bits : List Bool) → distance bits [] ≡ 0
from_nothing [] = refl
from_nothing (b ∷ bits) = refl

-- a list is at no distance from itself
pub from_itself : (bits : List Bool) → distance bits bits ≡ 0
from_itself [] = refl
from_itself (true ∷ bits) = omega (arith, distance-cons true true bits bits, from_itself bits)
from_itself (false ∷ bits) = omega (arith, distance-cons false false bits bits, from_itself bits)

-- two equal lists are at no distance
pub of_equals : (a b : List Bool) → a ≡ b → distance a b ≡ 0
of_equals a b e = ap (λ (l : List Bool). distance a l) (sym e) ∙ from_itself a
