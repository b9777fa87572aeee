-- The fields of a burst in which others were written.
use Rattle.std.proofs.Common.{◌≡◌, ℕ, ◌+◌, ◌≤◌, Bool, List, ◌++◌, length, ◌∙◌, ap, arith}
use Rattle.dmr_bits.specs.Bits.{part, put_at}
use Rattle.dmr_bits.proofs.Parts.{part_put_same, part_put_before, part_put_behind, parts_join}

-- two pieces that are as they were
pub two : (a b c d : List Bool) → a ≡ c → b ≡ d → a ++ b ≡ c ++ d
two a b c d e f = cc

-- ---- a field in one piece
pub put_same : (b new w : List Bool) (at to : ℕ) → new ≡ put_at b at w → length b ≡ 264 → at + length w ≡ to → to ≤ 264
    → part new at to ≡ w
put_same b new w at to e long wide inside = ap (λ x. part x at to) e ∙ part_put_same b at w to wide (omega arith)

-- What stands in front of a part that is put stays.
pub put_before : (b new w : List Bool) (at from to : ℕ) → new ≡ put_at b at w → length b ≡ 264 → at + length w ≤ 264 → from ≤ to
    → to ≤ at → part new from to ≡ part b from to
put_before b new w at from to e long inside order before =
    ap (λ x. part x from to) e ∙ part_put_before b at w from to order before (omega arith)

-- What stands behind a part that is put stays.
pub put_behind : (b new w : List Bool) (at from to : ℕ) → new ≡ put_at b at w → length b ≡ 264 → at + length w ≤ from → from ≤ to
    → to ≤ 264 → part new from to ≡ part b from to
put_behind b new w at from to e long behind order inside =
    ap (λ x. part x from to) e ∙ part_put_behind b at w from to behind order (omega arith)

-- ---- a field in two pieces
-- what was put in two pieces
pub record IsPutTwice (b mid new w : List Bool) (at again half : ℕ) : Type 0 where
  pub first : mid ≡ put_at b at (part w 0 half)
  pub second : new ≡ put_at mid again (part w half (half + half))
  pub long : length b ≡ 264
  pub kept : length mid ≡ 264
  pub wide : length w ≡ half + half
  pub first_wide : length (part w 0 half) ≡ half
  pub second_wide : length (part w half (half + half)) ≡ half
  pub order : at + half ≤ again
  pub inside : again + half ≤ 264

-- A word that is put in two halves is read back from both.
pub twice_written : (b mid new w : List Bool) (at again half : ℕ) → IsPutTwice b mid new w at again half
    → part new at (at + half) ++ part new again (again + half) ≡ w
twice_written b mid new w at again half is =
    two (part new at (at + half)) (part new again (again + half)) (part w 0 half) (part w half (half + half))
    (put_before mid new (part w half (half + half)) again at (at + half) is.second is.kept
    (omega (arith, is.second_wide, is.inside))
    (omega arith) is.order
    ∙ put_same b mid (part w 0 half) at (at + half) is.first is.long (omega (arith, is.first_wide))
    (omega (arith, is.order, is.inside)))
    (put_same mid new (part w half (half + half)) again (again + half) is.second is.kept (omega (arith, is.second_wide)) is.inside)
    ∙ parts_join w half (half + half) (omega arith) is.wide

-- What stands in front of both halves stays.
pub twice_front : (b mid new w : List Bool) (at again half : ℕ) → IsPutTwice b mid new w at again half
    → (from to : ℕ) → from ≤ to → to ≤ at → part new from to ≡ part b from to
twice_front b mid new w at again half is from to order front =
    put_before mid new (part w half (half + half)) again from to is.second is.kept (omega (arith, is.second_wide, is.inside)) order
    (omega (arith, is.order))
    ∙ put_before b mid (part w 0 half) at from to is.first is.long (omega (arith, is.first_wide, is.order, is.inside)) order front

-- What stands between both halves stays.
pub twice_between : (b mid new w : List Bool) (at again half : ℕ) → IsPutTwice b mid new w at again half
    → (from to : ℕ) → at + half ≤ from → from ≤ to → to ≤ again → part new from to ≡ part b from to
twice_between b mid new w at again half is from to behind order before =
    put_before mid new (part w half (half + half)) again from to is.second is.kept (omega (arith, is.second_wide, is.inside)) order
    before
    ∙ put_behind b mid (part w 0 half) at from to is.first is.long (omega (arith, is.first_wide)) order
    (omega (arith, is.inside))

-- What stands behind both halves stays.
pub twice_behind : (b mid new w : List Bool) (at again half : ℕ) → IsPutTwice b mid new w at again half
    → (from to : ℕ) → again + half ≤ from → from ≤ to → to ≤ 264 → part new from to ≡ part b from to
twice_behind b mid new w at again half is from to behind order inside =
    put_behind mid new (part w half (half + half)) again from to is.second is.kept (omega (arith, is.second_wide)) order inside
    ∙ put_behind b mid (part w 0 half) at from to is.first is.long (omega (arith, is.first_wide, is.order)) order inside
