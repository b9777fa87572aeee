-- Pieces of a buffer, and of what a device has given or taken.
use Rattle.std.proofs.Common.{◌≡◌, ℕ, ◌+◌, ◌-◌, ◌≤◌, List, ◌++◌, length, take, drop, [], ◌∷◌, ap, ◌∙◌, subst, sym}
use Rattle.std.proofs.Common.{Option, append-nil, arith, slice_set}
use Rattle.std.proofs.lemmas.List.{take_at, take_all, drop_at, drop_all, length-take-le, take-append-le}
use Rattle.std.proofs.lemmas.List.{take_rest}
use Rattle.std.specs.Io.KnownBytes.{Consumes, Appends}
use Rattle.std.proofs.KnownBytes.{Consumes-trans, Appends-trans}
use borrow.Rule.Slice.PartMut.{put_mid, post_of}
use lib.Seq.{take-add}

-- what was read into the rest of a buffer stands after what had come
pub take-put_mid_front : (at k n : ℕ) (xs ys : List ℕ) → at ≤ length xs → n ≤ length ys → take (at + n) (put_mid at k xs ys) ≡
    take at xs ++ take n ys
take-put_mid_front at k n xs ys within fits =
    let rest = ys ++ post_of at k xs in
    let long = length-take-le at xs within in
    take-add at n (put_mid at k xs ys)
    ∙ ap (λ l. l ++ take n (drop at (put_mid at k xs ys))) (take_at (take at xs) rest at long)
    ∙ ap (λ l. take at xs ++ take n l) (drop_at (take at xs) rest at long)
    ∙ ap (λ l. take at xs ++ l) (take-append-le n ys (post_of at k xs) fits)

-- a source gave the front, and then some octets into the rest of the buffer
pub Consumes-filled : (a b c : Option (List ℕ)) (at k n : ℕ) (xs ys : List ℕ) → at ≤ length xs → n ≤ length ys
    → Consumes a b (take at xs) → Consumes b c (take n ys) → Consumes a c (take (at + n) (put_mid at k xs ys))
Consumes-filled a b c at k n xs ys within fits front more =
    subst (Consumes a c) (sym (take-put_mid_front at k n xs ys within fits)) (Consumes-trans a b c _ _ front more)

-- a source gave a tag, and then what belongs to it
pub tagged : (a b c : Option (List ℕ)) (tag wanted : ℕ) (rest : List ℕ) → tag ≡ wanted → Consumes a b (tag ∷ []) → Consumes b c rest
    → Consumes a c (wanted ∷ rest)
tagged a b c tag wanted rest e p q =
    let P : ℕ → Type 0 = λ t. Consumes a c (t ∷ rest) in
    subst P e (Consumes-trans a b c (tag ∷ []) rest p q)

-- a source filled a buffer that spells this
pub Consumes-spelled : (a b : Option (List ℕ)) (n : ℕ) (xs ys : List ℕ) → length xs ≡ n → xs ≡ ys → Consumes a b (take n xs) →
    Consumes a b ys
Consumes-spelled a b n xs ys all e took = subst (Consumes a b) (take_all n xs (omega arith) ∙ e) took

-- a sink took the front of a piece, and then some of the rest, `&piece[at..]`
pub Appends-onwards : (a b c : Option (List ℕ)) (at n : ℕ) (xs : List ℕ) → Appends a b (take at xs) → Appends b c (take n (take
    (length xs - at) (drop at xs))) → Appends a c (take (at + n) xs)
Appends-onwards a b c at n xs front more =
    let joined = Appends-trans a b c _ _ front (subst (Appends b c) (ap (take n) (take_rest xs at)) more) in
    subst (Appends a c) (sym (take-add at n xs)) joined

-- a tag, and two pieces behind it, fill a record
pub laid_behind : (place front back : List ℕ) (tag : ℕ) → length place ≡ 37 → length front ≡ 3
    → put_mid 4 (length (put_mid 1 3 (slice_set place 0 tag) front) - 4) (put_mid 1 3 (slice_set place 0 tag) front) back
    ≡ tag ∷ (front ++ back)
laid_behind (x ∷ rest) (a ∷ b ∷ c ∷ []) back tag whole three =
    ap (λ l. tag ∷ a ∷ b ∷ c ∷ (back ++ l)) (drop_all (length (tag ∷ a ∷ b ∷ c ∷ drop 3 rest) - 4) (drop 3 rest) (omega arith))
    ∙ ap (λ l. tag ∷ a ∷ b ∷ c ∷ l) (append-nil back)
laid_behind [] front back tag whole three = absurd (omega (arith, whole))
laid_behind (x ∷ rest) [] back tag whole three = absurd (omega (arith, three))
laid_behind (x ∷ rest) (a ∷ []) back tag whole three = absurd (omega (arith, three))
laid_behind (x ∷ rest) (a ∷ b ∷ []) back tag whole three = absurd (omega (arith, three))
laid_behind (x ∷ rest) (a ∷ b ∷ c ∷ d ∷ more) back tag whole three = absurd (omega (arith, three))

-- a piece behind another of the same length fills a buffer of both
pub laid_after : (front back rest : List ℕ) (n : ℕ) → length front ≡ n → length rest ≡ n
    → take n (front ++ rest) ++ (back ++ drop n (drop n (front ++ rest))) ≡ front ++ back
laid_after front back rest n one two =
    ap (λ l. l ++ (back ++ drop n (drop n (front ++ rest)))) (take_at front rest n one)
    ∙ ap (λ l. front ++ (back ++ drop n l)) (drop_at front rest n one)
    ∙ ap (λ l. front ++ (back ++ l)) (drop_all n rest (omega (arith, two)))
    ∙ ap (λ l. front ++ l) (append-nil back)
