-- Two link controls that a test finds equal, field by field.
use mathlib.Core.Bool.{beq}
use Rattle.std.proofs.Common.{◌≡◌, ℕ, Bool, true, false, List, refl, sym}
use Rattle.std.proofs.lemmas.Bool.{and_parts, eqb-true}
use Rattle.std.specs.Cmp.Lexicographic.{pointwise, same_text}
use Rattle.std.specs.Prelude.{nat_eq, ◌&&◌}
use Rattle.dmr_link.specs.declared.full_lc.FullLc.{FullLc}

same_bit : (a b : Bool) → beq a b ≡ true → a ≡ b
same_bit true true e = refl
same_bit true false e = sym e
same_bit false true e = e
same_bit false false e = refl

of_fields : (p p' r r' : Bool) (o o' f f' : ℕ) (b b' : List ℕ) → p ≡ p' → r ≡ r' → o ≡ o' → f ≡ f' → b ≡ b'
    → ◌≡◌ {A = FullLc} (record { protect = p; reserved = r; flco = o; fid = f; body = b })
    (record { protect = p'; reserved = r'; flco = o'; fid = f'; body = b' })
of_fields p p' r r' o o' f f' b b' h i j k l = cc

-- two link controls whose fields are found equal are the same
pub same_lc : (a b : FullLc)
    → (beq a.protect b.protect && (beq a.reserved b.reserved && (nat_eq a.flco b.flco && (nat_eq a.fid b.fid
    && pointwise nat_eq a.body b.body)))) ≡ true → a ≡ b
same_lc a b e =
    let first = and_parts _ _ e in
    let second = and_parts _ _ first.1 in
    let third = and_parts _ _ second.1 in
    let last = and_parts _ _ third.1 in
    of_fields a.protect b.protect a.reserved b.reserved a.flco b.flco a.fid b.fid a.body b.body
    (same_bit a.protect b.protect first.0) (same_bit a.reserved b.reserved second.0) (eqb-true a.flco b.flco third.0)
    (eqb-true a.fid b.fid last.0) (same_text a.body b.body (sym last.1))
