-- A block and its bits decide each other.
use Rattle.std.proofs.Common.{◌≡◌, ℕ, ◌≤◌, ◌<◌, List, Bool, Some, ◌∷◌, ◌++◌, length, take, sym, ap, ◌∙◌, subst, arith}
use Rattle.std.specs.List.{All}
use Rattle.std.proofs.lemmas.List.{take_at, length-take-le, length-append, append_assoc}
use Rattle.std.proofs.lemmas.List.Elements.{All-take}
use Rattle.dmr_bits.specs.Bits.{bits_of, bits_of_octets, octets_of}
use Rattle.dmr_bits.proofs.Spelled.{same_number, same_octets}
use Rattle.dmr_bits.proofs.Octets.{octets_of-bits_of_octets, bits_of_octets-octets_of}
use Rattle.dmr_bits.proofs.OctetFronts.{length-bits_of_octets, bits_of_octets-take, length-octets_of, octets_of-small}
use Rattle.dmr_bptc.specs.ProductWord.{IsWritten}
use Rattle.dmr_bptc.proofs.Decoded.{written_decoded}
use Rattle.dmr_checks.specs.Sealed.{IsSealed}
use Rattle.dmr_checks.proofs.Blocks.{sealed_alike}
use Rattle.dmr_checks.specs.declared.sealing.Mask.TheVariants as mask
use Rattle.dmr_csbk.specs.declared.block.Csbk.{Csbk}
use Rattle.dmr_csbk.specs.Block.{csbk_bits, FitsCsbk, IsCsbk, IsReadCsbk}

-- the fields are decided by their bits
pub same_fields : (a b : Csbk) → FitsCsbk a → FitsCsbk b → csbk_bits a ≡ csbk_bits b → a ≡ b
same_fields a b p q e =
    let tail : bits_of 6 a.code ++ (bits_of 8 a.fid ++ bits_of_octets a.body) ≡ bits_of 6 b.code ++ (bits_of 8 b.fid ++
    bits_of_octets b.body) = cc in
    let last : a.last ≡ b.last = cc in
    let protect : a.protect ≡ b.protect = cc in
    let code = same_number 6 a.code b.code (bits_of 8 a.fid ++ bits_of_octets a.body) (bits_of 8 b.fid ++ bits_of_octets b.body)
    p.code q.code tail in
    let fid = same_number 8 a.fid b.fid (bits_of_octets a.body) (bits_of_octets b.body) p.fid q.fid code.1 in
    let body = same_octets a.body b.body p.octets q.octets (p.count ∙ sym q.count) fid.1 in
    same_record a.last b.last a.protect b.protect a.code b.code a.fid b.fid a.body b.body last protect code.0 fid.0 body
  where
    same_record : (l l' p p' : Bool) (c c' f f' : ℕ) (o o' : List ℕ) → l ≡ l' → p ≡ p' → c ≡ c' → f ≡ f' → o ≡ o'
        → ◌≡◌ {A = Csbk} (record { last = l; protect = p; code = c; fid = f; body = o }) (record {
          last = l';
          protect = p';
          code =
              c';
          fid = f';
          body = o';
        })
    same_record l l' p p' c c' f f' o o' e1 e2 e3 e4 e5 = cc

-- the first octets of a message are those of its first bits
front_of : (message : List Bool) → length message ≡ 96 → bits_of_octets (take 10 (octets_of 12 message)) ≡ take 80 message
front_of message long =
    let twelve : 10 ≤ length (octets_of 12 message) = omega (arith, length-octets_of 12 message) in
    sym (bits_of_octets-take 10 (octets_of 12 message) twelve) ∙ ap (take 80) (bits_of_octets-octets_of 12 message long)

-- messages that are sealed and have the same fields are equal
pub same_message : (c : Csbk) (a b : List Bool) → IsCsbk c a → IsCsbk c b → a ≡ b
same_message c a b p q =
    let xs : List ℕ = octets_of 12 a in
    let ys : List ℕ = octets_of 12 b in
    let long : length xs ≡ 12 = length-octets_of 12 a in
    let long' : length ys ≡ 12 = length-octets_of 12 b in
    let fronts : take 10 xs ≡ take 10 ys =
    same_octets (take 10 xs) (take 10 ys) (All-take (λ octet. octet < 256) 10 xs (octets_of-small 12 a)) (All-take (λ octet. octet
    < 256) 10 ys (octets_of-small 12 b))
    (length-take-le 10 xs (omega arith) ∙ sym (length-take-le 10 ys (omega arith)))
    (front_of a p.long ∙ p.fields ∙ sym q.fields ∙ sym (front_of b q.long)) in
    let same = sealed_alike mask.Csbk xs ys long long' (octets_of-small 12 a) (octets_of-small 12 b) fronts p.sealed q.sealed in
    sym (bits_of_octets-octets_of 12 a p.long) ∙ ap bits_of_octets same ∙ bits_of_octets-octets_of 12 b q.long

-- a message is of one block
pub same_block : (a b : Csbk) (message : List Bool) → IsCsbk a message → IsCsbk b message → a ≡ b
same_block a b message p q = same_fields a b p.fit q.fit (sym p.fields ∙ q.fields)

-- what is read of a written form is what was written
pub read_back : (c read : Csbk) (message bits : List Bool) → IsCsbk c message → IsWritten message bits → IsReadCsbk bits read
    → read ≡ c
read_back c read message bits is written found =
    let same : found.0 ≡ message = same_some found.0 message (written_decoded message bits (Some found.0) written found.1) in
    same_block read c message (subst (IsCsbk read) same found.2) is
  where
    same_some : (a b : List Bool) → Some a ≡ Some b → a ≡ b
    same_some a b e = cc

-- ---- reading
-- the fields stand in front of what is left
pub fields_first : (last protect : Bool) (code fid body rest : List Bool) → length code ≡ 6 → length fid ≡ 8 → length body ≡ 64
    → take 80 (last ∷ protect ∷ (code ++ (fid ++ (body ++ rest)))) ≡ last ∷ protect ∷ (code ++ (fid ++ body))
fields_first last protect code fid body rest six eight many =
    let front : List Bool = code ++ (fid ++ body) in
    let long : length front ≡ 78 = omega (arith, length-append code (fid ++ body), length-append fid body) in
    let split : code ++ (fid ++ (body ++ rest)) ≡ front ++ rest =
    ap (λ l. code ++ l) (sym (append_assoc fid body rest)) ∙ sym (append_assoc code (fid ++ body) rest) in
    ap (λ l. last ∷ protect ∷ take 78 l) split ∙ ap (λ l. last ∷ protect ∷ l) (take_at front rest 78 long)

-- ---- writing
-- the sealed octets of the fields are a block
pub sealed_block : (c : Csbk) (message : List Bool) (fields block : List ℕ) (list : List Bool) → FitsCsbk c → list ≡ csbk_bits c →
    bits_of_octets fields ≡ list
    → take 10 block ≡ fields → IsSealed mask.Csbk block → message ≡ bits_of_octets block → length block ≡ 12 → All (λ octet. octet
    < 256) block → IsCsbk c message
sealed_block c message fields block list fit is spelled front sealed written long small = record {
  fit = fit;
  long = ap length written ∙ length-bits_of_octets block ∙ omega arith;
  fields = ap (take 80) written ∙ bits_of_octets-take 10 block (omega arith) ∙ ap bits_of_octets front ∙ spelled ∙ is;
  sealed = subst (IsSealed mask.Csbk) (sym (octets_of-bits_of_octets block small) ∙ ap (λ n. octets_of n (bits_of_octets block))
      long ∙ ap (octets_of 12) (sym written)) sealed;
}
