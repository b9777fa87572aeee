-- Any link control whose fields fit has a sealed form, and any bits are read as one or as none.
use Rattle.std.proofs.Common.{◌≡◌, ℕ, ◌*◌, ◌^◌, ◌<◌, ◌⊎◌, List, Bool, [], ◌∷◌, ◌++◌, length, take, drop, refl, sym, ap}
use Rattle.std.proofs.Common.{◌∙◌, subst, arith, inl, inr, length-append, Option, Some, None}
use Rattle.std.specs.List.{All}
use Rattle.std.proofs.lemmas.Bool.{cases_eq, cases_lt}
use Rattle.std.proofs.lemmas.List.{take_at, take-append-drop, length-take-le, length-drop}
use Rattle.std.proofs.lemmas.List.Elements.{All-take}
use Rattle.dmr_bits.specs.Bits.{bits_of, bits_of_octets, number_of, octets_of}
use Rattle.dmr_bits.proofs.Lists.{length-bits_of, number_of-lt, bits_of_spelled}
use Rattle.dmr_bits.proofs.OctetFronts.{length-bits_of_octets, length-octets_of, octets_of-small}
use Rattle.dmr_bits.proofs.Octets.{bits_of_octets-octets_of}
use Rattle.dmr_bptc.specs.Decoding.{IsDecoded}
use Rattle.dmr_bptc.proofs.Decoded.{one_decoded}
use Rattle.dmr_bptc.proofs.Existing.{decoded_somehow}
use Rattle.dmr_codes.proofs.Searching.{Decided, searched}
use Rattle.dmr_rs.specs.Word.{IsRsWord, octet_distance}
use Rattle.dmr_rs.proofs.Roots.{check, length-check, word_is_completed, only_check, words_are_octets}
use Rattle.dmr_link.specs.FullLc.{full_lc_bits, FitsFullLc}
use Rattle.dmr_link.specs.Sealed.{masked, IsSealedLc, IsLc, IsWithinOctet, IsReadLc}
use Rattle.dmr_link.specs.declared.full_lc.FullLc.{FullLc}
use Rattle.dmr_link.specs.declared.sealing.LcUse.{LcUse}
use Rattle.dmr_link.proofs.Masks.{length-masked, small-masked}
use Rattle.dmr_link.proofs.SealedForms.{sealed_word, same_lc, one_sealed_near}

-- the fields of a link control that fits have 72 bits
pub length-full_lc_bits : (lc : FullLc) → FitsFullLc lc → length (full_lc_bits lc) ≡ 72
length-full_lc_bits lc fit =
    let tail : List Bool = bits_of 8 lc.fid ++ bits_of_octets lc.body in
    omega (
      arith,
      length-append (bits_of 6 lc.flco) tail,
      length-append (bits_of 8 lc.fid) (bits_of_octets lc.body),
      length-bits_of 6 lc.flco,
      length-bits_of 8 lc.fid,
      length-bits_of_octets lc.body,
      fit.count,
    )

-- any link control whose fields fit has a sealed form for each use
pub lc_somehow : (lc_use : LcUse) (lc : FullLc) → FitsFullLc lc → (message : List Bool) × IsLc lc_use lc message
lc_somehow lc_use lc fit =
    let octets : List ℕ = octets_of 9 (full_lc_bits lc) in
    let nine : length octets ≡ 9 = length-octets_of 9 (full_lc_bits lc) in
    let word : List ℕ = octets ++ check octets in
    let is = word_is_completed octets (octets_of-small 9 (full_lc_bits lc)) in
    let long : length word ≡ 12 = length-append octets (check octets) ∙ omega (arith, nine, length-check octets) in
    let spelled = ap bits_of_octets (take_at octets (check octets) 9 nine)
    ∙ bits_of_octets-octets_of 9 (full_lc_bits lc) (omega (arith, length-full_lc_bits lc fit)) in (
      bits_of_octets (masked lc_use word),
      sealed_word lc_use lc word (bits_of_octets (masked lc_use word)) fit long (words_are_octets word is) is spelled refl,
    )

-- ---- the fields that bits spell
-- so many bits spell a number, which fits them
fits : (width : ℕ) (bits : List Bool) → length bits ≡ width → number_of bits < 2 ^ width
fits width bits e = subst (λ (n : ℕ). number_of bits < 2 ^ n) e (number_of-lt bits)

three_parts : (a b c : List Bool) (x y z : List Bool) → x ≡ a → y ≡ b → z ≡ c → x ++ (y ++ z) ≡ a ++ (b ++ c)
three_parts a b c x y z e f g = cc

-- 72 bits spell a link control
pub lc_of_bits : (bits : List Bool) → length bits ≡ 72 → (lc : FullLc) × (full_lc_bits lc ≡ bits) × FitsFullLc lc
lc_of_bits [] e = absurd (omega arith)
lc_of_bits (p ∷ []) e = absurd (omega arith)
lc_of_bits (p ∷ r ∷ rest) e =
    let opcode : List Bool = take 6 rest in
    let feature : List Bool = take 8 (drop 6 rest) in
    let body : List Bool = drop 8 (drop 6 rest) in
    let six : length opcode ≡ 6 = length-take-le 6 rest (omega arith) in
    let eight : length feature ≡ 8 = length-take-le 8 (drop 6 rest) (omega (arith, length-drop 6 rest)) in
    let many : length body ≡ 8 * 7 = omega (arith, length-drop 8 (drop 6 rest), length-drop 6 rest) in
    let lc : FullLc =
    record { protect = p; reserved = r; flco = number_of opcode; fid = number_of feature; body = octets_of 7 body } in
    let joined : opcode ++ (feature ++ body) ≡ rest =
    ap (λ (l : List Bool). opcode ++ l) (take-append-drop 8 (drop 6 rest)) ∙ take-append-drop 6 rest in
    let spelled : bits_of 6 lc.flco ++ (bits_of 8 lc.fid ++ bits_of_octets lc.body) ≡ rest =
    three_parts opcode feature body _ _ _ (bits_of_spelled 6 opcode six) (bits_of_spelled 8 feature eight)
    (bits_of_octets-octets_of 7 body many) ∙ joined in (
      lc,
      ap (λ (l : List Bool). p ∷ r ∷ l) spelled,
      record {
        flco = fits 6 opcode six;
        fid = fits 8 feature eight;
        octets = octets_of-small 7 body;
        count = length-octets_of 7 body;
      },
    )

-- ---- what bits are read as
-- Octets are equal, or they aren't.
octets_or_not : (a b : List ℕ) → Decided (a ≡ b)
octets_or_not [] [] = inl refl
octets_or_not [] (y ∷ b) = inr (λ e. cc)
octets_or_not (x ∷ a) [] = inr (λ e. cc)
octets_or_not (x ∷ a) (y ∷ b) =
    elim (cases_eq x y) [
      | inl same ↦
          elim (octets_or_not a b) [
            | inl alike ↦ inl (cc)
            | inr other ↦ inr (λ e. other (cc))
          ]
      | inr apart ↦ inr (λ e. apart (cc))
    ]

-- Twelve octets are a word of the Reed-Solomon code where the last three are the parity of the first nine.
rs_word_or_not : (octets : List ℕ) → length octets ≡ 12 → All (λ octet. octet < 256) octets → Decided (IsRsWord octets)
rs_word_or_not octets long small =
    let front : List ℕ = take 9 octets in
    let parity : List ℕ = drop 9 octets in
    let whole : front ++ parity ≡ octets = take-append-drop 9 octets in
    elim (octets_or_not parity (check front)) [
      | inl same ↦ inl (subst IsRsWord (ap (λ l. front ++ l) (sym same) ∙ whole)
          (word_is_completed front (All-take (λ octet. octet < 256) 9 octets small)))
      | inr other ↦ inr (λ is. other (only_check front parity (length-drop 9 octets ∙ omega (arith, long))
          (subst IsRsWord (sym whole) is)))
    ]

sealed_or_not : (lc_use : LcUse) (message : List Bool) → Decided (IsSealedLc lc_use message)
sealed_or_not lc_use message =
    let octets : List ℕ = octets_of 12 message in
    elim (cases_eq (length message) 96) [
      | inl long ↦
          elim (rs_word_or_not (masked lc_use octets) (length-masked lc_use octets (length-octets_of 12 message))
          (small-masked lc_use octets (octets_of-small 12 message))) [
            | inl word ↦ inl (record { long = long; word = word })
            | inr none ↦ inr (λ is. none is.word)
          ]
      | inr other ↦ inr (λ is. other is.long)
    ]

-- A sealed message within one octet of these bits.
record IsNear (lc_use : LcUse) (message sealed : List Bool) : Type 0 where
  is : IsSealedLc lc_use sealed
  near : IsWithinOctet sealed message

near_or_not : (lc_use : LcUse) (message sealed : List Bool) → Decided (IsNear lc_use message sealed)
near_or_not lc_use message sealed =
    elim (sealed_or_not lc_use sealed) [
      | inl is ↦
          elim (cases_lt 1 (octet_distance (octets_of 12 sealed) (octets_of 12 message))) [
            | inl far ↦ inr (λ found. let near = found.near in absurd (omega arith))
            | inr near ↦ inl (record { is = is; near = omega arith })
          ]
      | inr none ↦ inr (λ found. none found.is)
    ]

same_some : (a b : List Bool) → Some a ≡ Some b → a ≡ b
same_some a b e = cc

-- Bits are read as a link control, or as none: by what the product code says of them,
read_at : (lc_use : LcUse) (bits : List Bool) (result : Option (List Bool)) → IsDecoded bits result
    → ((lc : FullLc) × IsReadLc lc_use bits lc) ⊎ ((lc : FullLc) → IsReadLc lc_use bits lc → ⊥)
read_at lc_use bits None decoded =
    inr (λ lc read. let bad : None ≡ Some read.message = one_decoded bits None (Some read.message) decoded read.decoded in cc)
read_at lc_use bits (Some message) decoded =
    elim (searched 96 (IsNear lc_use message) (near_or_not lc_use message)) [
      | inl found ↦
          (let (sealed, is) = found in
          let (lc, spelled, fit) = lc_of_bits (take 72 sealed)
          (length-take-le 72 sealed (let long = is.is.long in omega arith)) in
          inl (
            lc,
            record {
              message = message;
              sealed = sealed;
              decoded = decoded;
              near = is.near;
              is = record { fit = fit; fields = sym spelled; sealed = is.is };
            },
          ))
      | inr none ↦ inr (λ lc read.
          let same : read.message ≡ message =
          same_some read.message message (one_decoded bits (Some read.message) (Some message) read.decoded decoded) in
          none read.sealed read.is.sealed.long
          (record { is = read.is.sealed; near = subst (IsWithinOctet read.sealed) same read.near }))
    ]

-- and so by themselves.
pub read_or_not : (lc_use : LcUse) (bits : List Bool)
    → ((lc : FullLc) × IsReadLc lc_use bits lc) ⊎ ((lc : FullLc) → IsReadLc lc_use bits lc → ⊥)
read_or_not lc_use bits = let (result, decoded) = decoded_somehow bits in read_at lc_use bits result decoded

-- They are read as one at most.
pub one_read : (lc_use : LcUse) (bits : List Bool) (a b : FullLc) → IsReadLc lc_use bits a → IsReadLc lc_use bits b → a ≡ b
one_read lc_use bits a b p q =
    let same : p.message ≡ q.message =
    same_some p.message q.message (one_decoded bits (Some p.message) (Some q.message) p.decoded q.decoded) in
    let sealed : p.sealed ≡ q.sealed =
    one_sealed_near lc_use p.sealed q.sealed q.message p.is.sealed q.is.sealed (subst (IsWithinOctet p.sealed) same p.near) q.near
    in
    same_lc lc_use a b q.sealed (subst (IsLc lc_use a) sealed p.is) q.is
