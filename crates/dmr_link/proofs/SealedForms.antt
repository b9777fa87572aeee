-- Sealed link controls, and the words that they are under the mask.
use Rattle.std.proofs.Common.{◌≡◌, ℕ, ◌+◌, ◌≤◌, ◌<◌, List, Bool, true, false, [], ◌∷◌, ◌++◌}
use Rattle.std.proofs.Common.{◌==◌, suc, if◌then◌else◌, length, take, drop, Option, Some, sym, ap, ◌∙◌, subst, arith}
use Rattle.std.specs.List.{All}
use Rattle.std.proofs.lemmas.List.{length-take-le, length-drop, take-append-drop}
use Rattle.std.proofs.lemmas.List.Elements.{All-take}
use Rattle.dmr_bits.specs.Bits.{bits_of_octets, octets_of}
use Rattle.dmr_bits.proofs.Octets.{octets_of-bits_of_octets, bits_of_octets-octets_of}
use Rattle.dmr_bits.proofs.OctetFronts.{length-bits_of_octets, bits_of_octets-take, length-octets_of, octets_of-small}
use Rattle.dmr_bptc.specs.ProductWord.{IsWritten}
use Rattle.dmr_bptc.proofs.Decoded.{written_decoded}
use Rattle.dmr_rs.specs.Word.{IsRsWord, octet_distance}
use Rattle.dmr_rs.proofs.Near.{no_distance, one_within}
use Rattle.dmr_rs.proofs.Roots.{four_apart}
use Rattle.dmr_link.specs.declared.full_lc.FullLc.{FullLc}
use Rattle.dmr_link.specs.declared.sealing.LcUse.{LcUse}
use Rattle.dmr_link.specs.FullLc.{full_lc_bits, FitsFullLc}
use Rattle.dmr_link.specs.Sealed.{masked, IsSealedLc, IsLc, IsWithinOctet, IsReadLc}
use Rattle.dmr_bits.proofs.Spelled.{same_octets}
use Rattle.dmr_link.proofs.Fields.{same_fields}
use Rattle.dmr_link.proofs.Masks.{length-masked, take-masked, masked_twice, small-masked, distance-append, distance-masked}

-- the octets that the bits of octets spell
spelled_back : (octets : List ℕ) → length octets ≡ 12 → All (λ octet. octet < 256) octets → octets_of 12 (bits_of_octets octets) ≡
    octets
spelled_back octets long small = ap (λ n. octets_of n (bits_of_octets octets)) (sym long) ∙ octets_of-bits_of_octets octets small

-- the bits of the first nine octets of a message are its first 72
front_of : (message : List Bool) → length message ≡ 96 → bits_of_octets (take 9 (octets_of 12 message)) ≡ take 72 message
front_of message long =
    let nine : 9 ≤ length (octets_of 12 message) = omega (arith, length-octets_of 12 message) in
    sym (bits_of_octets-take 9 (octets_of 12 message) nine) ∙ ap (take 72) (bits_of_octets-octets_of 12 message long)

-- a word that begins with the fields is, under the mask, the sealed form
pub sealed_word : (lc_use : LcUse) (lc : FullLc) (word : List ℕ) (message : List Bool) → FitsFullLc lc → length word ≡ 12 → All
    (λ octet. octet < 256) word
    → IsRsWord word → bits_of_octets (take 9 word) ≡ full_lc_bits lc → message ≡ bits_of_octets (masked lc_use word)
    → IsLc lc_use lc
    message
sealed_word lc_use lc word message fit long small is spelled written =
    let veil : List ℕ = masked lc_use word in
    let twelve : length veil ≡ 12 = length-masked lc_use word long in
    let back : octets_of 12 message ≡ veil = ap (octets_of 12) written ∙ spelled_back veil twelve (small-masked lc_use word small)
    in
    record {
      fit = fit;
      fields = ap (take 72) written ∙ bits_of_octets-take 9 veil (omega arith) ∙ ap bits_of_octets (take-masked lc_use word long) ∙
          spelled;
      sealed = record {
        long = ap length written ∙ length-bits_of_octets veil ∙ omega arith;
        word = subst IsRsWord (sym (ap (masked lc_use) back ∙ masked_twice lc_use word long)) is;
      };
    }

-- the sealed form of a word near the octets of a message is near the message
pub near_message : (lc_use : LcUse) (word : List ℕ) (message : List Bool) → length word ≡ 12 → All (λ octet. octet < 256) word
    → octet_distance word (masked lc_use (octets_of 12 message)) ≤ 1 → IsWithinOctet (bits_of_octets (masked lc_use word)) message
near_message lc_use word message long small near =
    let octets : List ℕ = octets_of 12 message in
    let twelve : length octets ≡ 12 = length-octets_of 12 message in
    let veil : List ℕ = masked lc_use word in
    let same : octet_distance (octets_of 12 (bits_of_octets veil)) octets ≡ octet_distance word (masked lc_use octets) =
    ap (λ l. octet_distance l octets) (spelled_back veil (length-masked lc_use word long) (small-masked lc_use word small))
    ∙ ap (octet_distance veil) (sym (masked_twice lc_use octets twelve))
    ∙ distance-masked lc_use word (masked lc_use octets) long (length-masked lc_use octets twelve) in
    omega arith

-- a correction that finds every near word finds that of a near sealed form
pub near_word : (lc_use : LcUse) (sealed message : List Bool) (octets veil : List ℕ) (corrected : Option (List ℕ)) → octets ≡
    octets_of 12 message → veil ≡ masked lc_use octets
    → ((word : List ℕ) → length word ≡ 12 → IsRsWord word → octet_distance word veil ≤ 1 → corrected ≡ Some word)
    → IsSealedLc lc_use sealed → IsWithinOctet sealed message → corrected ≡ Some (masked lc_use (octets_of 12 sealed))
near_word lc_use sealed message octets veil corrected theirs under finds is near =
    let ours : List ℕ = octets_of 12 sealed in
    let twelve : length ours ≡ 12 = length-octets_of 12 sealed in
    let same : octet_distance (masked lc_use ours) veil ≡ octet_distance ours (octets_of 12 message) =
    ap (octet_distance (masked lc_use ours)) (under ∙ ap (masked lc_use) theirs) ∙ distance-masked lc_use ours (octets_of 12
    message) twelve (length-octets_of 12 message) in
    finds (masked lc_use ours) (length-masked lc_use ours twelve) is.word (omega arith)

-- the word of a sealed form begins with its fields
pub word_fields : (lc_use : LcUse) (sealed : List Bool) → length sealed ≡ 96 → bits_of_octets (take 9 (masked lc_use (octets_of 12
    sealed))) ≡ take 72 sealed
word_fields lc_use sealed long = ap bits_of_octets (take-masked lc_use (octets_of 12 sealed) (length-octets_of 12 sealed)) ∙
    front_of sealed long

-- the word of a sealed form is, under the mask, that form
pub word_form : (lc_use : LcUse) (sealed : List Bool) → length sealed ≡ 96 → bits_of_octets (masked lc_use (masked lc_use
    (octets_of 12 sealed))) ≡ sealed
word_form lc_use sealed long = ap bits_of_octets (masked_twice lc_use (octets_of 12 sealed) (length-octets_of 12 sealed)) ∙
    bits_of_octets-octets_of 12 sealed long

-- the fields of the word that is found are those of the sealed form
pub found_form : (lc_use : LcUse) (lc : FullLc) (sealed : List Bool) (corrected : Option (List ℕ)) (word : List ℕ) → FitsFullLc lc →
    full_lc_bits lc ≡ bits_of_octets (take 9 word)
    → corrected ≡ Some word → corrected ≡ Some (masked lc_use (octets_of 12 sealed)) → IsSealedLc lc_use sealed → IsLc lc_use lc
    sealed
found_form lc_use lc sealed corrected word fit spelled found near is =
    let same : word ≡ masked lc_use (octets_of 12 sealed) = cc in
    record {
      fit = fit;
      fields = sym (word_fields lc_use sealed is.long) ∙ ap (λ l. bits_of_octets (take 9 l)) (sym same) ∙ sym spelled;
      sealed = is;
    }

-- a message is near itself
pub near_itself : (message : List Bool) → IsWithinOctet message message
near_itself message = let none = no_distance (octets_of 12 message) in omega arith

-- a message is of one link control
pub same_lc : (lc_use : LcUse) (a b : FullLc) (message : List Bool) → IsLc lc_use a message → IsLc lc_use b message → a ≡ b
same_lc lc_use a b message p q = same_fields a b p.fit q.fit (sym p.fields ∙ q.fields)

-- lists differ in no more places than they have
distance-le : (x y : List ℕ) → octet_distance x y ≤ length x
distance-le [] y = omega arith
distance-le (o ∷ x) [] = omega arith
distance-le (o ∷ x) (p ∷ y) = let rest = distance-le x y in elim (o == p) as (λ b. (if b then 0 else 1) + octet_distance x y ≤ suc
    (length x)) [ true ↦ omega arith | false ↦ omega arith ]

-- words of one beginning of nine octets are equal
same_word : (x y : List ℕ) → length x ≡ 12 → length y ≡ 12 → IsRsWord x → IsRsWord y → take 9 x ≡ take 9 y → x ≡ y
same_word x y long other is too front =
    let nine : length (take 9 x) ≡ length (take 9 y) = ap length front in
    let fronts : octet_distance (take 9 x) (take 9 y) ≡ 0 = ap (octet_distance (take 9 x)) (sym front) ∙ no_distance (take 9 x) in
    let parts : octet_distance x y ≡ octet_distance (take 9 x) (take 9 y) + octet_distance (drop 9 x) (drop 9 y) =
    ap (λ l. octet_distance l y) (sym (take-append-drop 9 x)) ∙ ap (octet_distance (take 9 x ++ drop 9 x)) (sym (take-append-drop 9
    y))
    ∙ distance-append (take 9 x) (take 9 y) (drop 9 x) (drop 9 y) nine in
    four_apart x y long other is too (omega (arith, distance-le (drop 9 x) (drop 9 y), length-drop 9 x))

-- a link control has one sealed form for a use
pub same_message : (lc_use : LcUse) (lc : FullLc) (a b : List Bool) → IsLc lc_use lc a → IsLc lc_use lc b → a ≡ b
same_message lc_use lc a b p q =
    let Small : ℕ → Type 0 = λ octet. octet < 256 in
    let ours : List ℕ = octets_of 12 a in
    let theirs : List ℕ = octets_of 12 b in
    let long : length ours ≡ 12 = length-octets_of 12 a in
    let other : length theirs ≡ 12 = length-octets_of 12 b in
    let fronts : take 9 ours ≡ take 9 theirs =
    same_octets (take 9 ours) (take 9 theirs) (All-take Small 9 ours (octets_of-small 12 a)) (All-take Small 9 theirs
    (octets_of-small 12 b))
    (length-take-le 9 ours (omega arith) ∙ sym (length-take-le 9 theirs (omega arith)))
    (front_of a p.sealed.long ∙ p.fields ∙ sym q.fields ∙ sym (front_of b q.sealed.long)) in
    let words : masked lc_use ours ≡ masked lc_use theirs =
    same_word (masked lc_use ours) (masked lc_use theirs) (length-masked lc_use ours long) (length-masked lc_use theirs other)
    p.sealed.word q.sealed.word
    (take-masked lc_use ours long ∙ fronts ∙ sym (take-masked lc_use theirs other)) in
    sym (word_form lc_use a p.sealed.long) ∙ ap (λ l. bits_of_octets (masked lc_use l)) words ∙ word_form lc_use b q.sealed.long

-- one sealed message is within one octet of any
pub one_sealed_near : (lc_use : LcUse) (a b message : List Bool) → IsSealedLc lc_use a → IsSealedLc lc_use b
    → IsWithinOctet a message → IsWithinOctet b message → a ≡ b
one_sealed_near lc_use a b message is too near close =
    let middle : List ℕ = octets_of 12 message in
    let twelve : (x : List Bool) → length (octets_of 12 x) ≡ 12 = length-octets_of 12 in
    let same : (x : List Bool) → octet_distance (masked lc_use (octets_of 12 x)) (masked lc_use middle) ≡ octet_distance (octets_of
    12 x) middle =
    λ x. distance-masked lc_use (octets_of 12 x) middle (twelve x) (twelve message) in
    let within : (x : List Bool) → IsWithinOctet x message → octet_distance (masked lc_use (octets_of 12 x)) (masked lc_use middle)
    ≤ 1 =
    λ x h. (let e = same x in omega arith) in
    let veil : (x : List Bool) → length (masked lc_use (octets_of 12 x)) ≡ 12 = λ x. length-masked lc_use (octets_of 12 x) (twelve
    x) in
    let words = one_within (masked lc_use middle) (masked lc_use (octets_of 12 a)) (masked lc_use (octets_of 12 b)) (veil message)
    (veil a) (veil b)
    is.word too.word (within a near) (within b close) in
    sym (word_form lc_use a is.long) ∙ ap (λ l. bits_of_octets (masked lc_use l)) words ∙ word_form lc_use b too.long

-- what is read of a written form is what was written
pub read_back : (lc_use : LcUse) (lc read : FullLc) (message bits : List Bool) → IsLc lc_use lc message → IsWritten message bits →
    IsReadLc lc_use bits read → read ≡ lc
read_back lc_use lc read message bits is written found =
    let same : found.message ≡ message = same_some found.message message (written_decoded message bits (Some found.message) written
    found.decoded) in
    let near : IsWithinOctet found.sealed message = subst (IsWithinOctet found.sealed) same found.near in
    let sealed : found.sealed ≡ message = one_sealed_near lc_use found.sealed message message found.is.sealed is.sealed near
    (near_itself message) in
    same_lc lc_use read lc message (subst (IsLc lc_use read) sealed found.is) is
  where
    same_some : (a b : List Bool) → Some a ≡ Some b → a ≡ b
    same_some a b e = cc
