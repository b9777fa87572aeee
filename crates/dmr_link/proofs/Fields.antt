-- The fields and their bits decide each other.
use Rattle.std.proofs.Common.{◌≡◌, ℕ, List, Bool, ◌++◌, sym, ◌∙◌}
use Rattle.dmr_bits.specs.Bits.{bits_of, bits_of_octets}
use Rattle.dmr_bits.proofs.Spelled.{same_number, same_octets}
use Rattle.dmr_link.specs.declared.full_lc.FullLc.{FullLc}
use Rattle.dmr_link.specs.FullLc.{full_lc_bits, FitsFullLc}

-- the fields are decided by their bits
pub same_fields : (a b : FullLc) → FitsFullLc a → FitsFullLc b → full_lc_bits a ≡ full_lc_bits b → a ≡ b
same_fields a b p q e =
    let tail : bits_of 6 a.flco ++ (bits_of 8 a.fid ++ bits_of_octets a.body) ≡ bits_of 6 b.flco ++ (bits_of 8 b.fid ++
    bits_of_octets b.body) = cc in
    let protect : a.protect ≡ b.protect = cc in
    let reserved : a.reserved ≡ b.reserved = cc in
    let flco = same_number 6 a.flco b.flco (bits_of 8 a.fid ++ bits_of_octets a.body) (bits_of 8 b.fid ++ bits_of_octets b.body)
    p.flco q.flco tail in
    let fid = same_number 8 a.fid b.fid (bits_of_octets a.body) (bits_of_octets b.body) p.fid q.fid flco.1 in
    let body = same_octets a.body b.body p.octets q.octets (p.count ∙ sym q.count) fid.1 in
    same_record a.protect b.protect a.reserved b.reserved a.flco b.flco a.fid b.fid a.body b.body protect reserved flco.0 fid.0 body
  where
    same_record : (p p' r r' : Bool) (c c' f f' : ℕ) (o o' : List ℕ) → p ≡ p' → r ≡ r' → c ≡ c' → f ≡ f' → o ≡ o'
        → ◌≡◌ {A = FullLc} (record { protect = p; reserved = r; flco = c; fid = f; body = o }) (record {
          protect = p';
          reserved =
              r';
          flco = c';
          fid = f';
          body = o';
        })
    same_record p p' r r' c c' f f' o o' e1 e2 e3 e4 e5 = cc
