-- One's complement sums: in whatever order, and with the checksum in its place.
use Rattle.std.proofs.Common.{◌≡◌, ℕ, suc, ◌+◌, ◌-◌, ◌≤◌, ◌⊎◌, List, [], ◌∷◌, ◌++◌, fold, refl, ap, ◌∙◌, inl, inr, arith}
use Rattle.std.proofs.lemmas.List.Sums.{fold-append}
use Rattle.dmr_ip.specs.Checksum.{words, plus}
use Rattle.dmr_ip.specs.Contents.{AreOctets}

-- numbers of 16 bits
abbrev pub AreWords : List ℕ → Type 0
AreWords [] = Unit {0}
AreWords (w ∷ ws) = (w ≤ 65535) × AreWords ws

-- the sum with no carry, or with the carry brought round
plus_cases : (a b : ℕ) → a ≤ 65535 → b ≤ 65535 → ((a + b ≤ 65535) × (plus a b ≡ a + b)) ⊎ ((65536 ≤ a + b) × (plus a b + 65535 ≡ a
    + b))
unfolding plus
plus_cases a b h k = grind arith

pub plus-le : (a b : ℕ) → a ≤ 65535 → b ≤ 65535 → plus a b ≤ 65535
plus-le a b h k = elim (plus_cases a b h k) [ inl p ↦ omega arith | inr p ↦ omega arith ]

pub plus_assoc : (a b c : ℕ) → a ≤ 65535 → b ≤ 65535 → c ≤ 65535 → plus (plus a b) c ≡ plus a (plus b c)
plus_assoc a b c h k l =
    let left = plus-le a b h k in
    let right = plus-le b c k l in
    let a_b = plus_cases a b h k in
    let a_b-c = plus_cases (plus a b) c left l in
    let b_c = plus_cases b c k l in
    let a-b_c = plus_cases a (plus b c) h right in
    grind arith

plus_comm : (a b : ℕ) → plus a b ≡ plus b a
unfolding plus
plus_comm a b = let e : a + b ≡ b + a = omega arith in rw e refl

plus_zero : (a : ℕ) → a ≤ 65535 → plus a 0 ≡ a
unfolding plus
plus_zero a h = omega arith

complement : (a : ℕ) → a ≤ 65535 → plus (65535 - a) a ≡ 65535
unfolding plus
complement a h = let e : 65535 - a + a ≡ 65535 = omega arith in rw e refl

fold-le : (a : ℕ) (ws : List ℕ) → a ≤ 65535 → AreWords ws → fold plus a ws ≤ 65535
fold-le a [] h k = h
fold-le a (w ∷ ws) h k = fold-le (plus a w) ws (plus-le a w h k.0) k.1

-- a word that stands first comes out of the sum
fold_first : (a b : ℕ) (ws : List ℕ) → a ≤ 65535 → b ≤ 65535 → AreWords ws → fold plus (plus a b) ws ≡ plus a (fold plus b ws)
fold_first a b [] h k l = refl
fold_first a b (w ∷ ws) h k l =
    ap (λ n. fold plus n ws) (plus_assoc a b w h k l.0) ∙ fold_first a (plus b w) ws h (plus-le b w k l.0) l.1

-- With the complement of their sum among them, words add up to FFFF.
pub sum_is_right : (before behind : List ℕ) → AreWords before → AreWords behind → fold plus 0 (before ++ (65535 - fold plus 0
    (before ++ 0 ∷ behind)) ∷ behind) ≡ 65535
sum_is_right before behind h k =
    let front : ℕ = fold plus 0 before in
    let low : front ≤ 65535 = fold-le 0 before (omega arith) h in
    let sum : ℕ = fold plus front behind in
    let small : sum ≤ 65535 = fold-le front behind low k in
    let blank : fold plus 0 (before ++ 0 ∷ behind) ≡ sum = fold-append plus 0 before (0 ∷ behind) ∙ ap (λ n. fold plus n behind)
    (plus_zero front low) in
    fold-append plus 0 before ((65535 - fold plus 0 (before ++ 0 ∷ behind)) ∷ behind)
    ∙ ap (λ n. fold plus (plus front (65535 - n)) behind) blank
    ∙ ap (λ n. fold plus n behind) (plus_comm front (65535 - sum))
    ∙ fold_first (65535 - sum) front behind (omega arith) low k
    ∙ complement sum small

complement_zero : plus 65535 65535 ≡ 65535
unfolding plus
complement_zero = refl

-- So do they with FFFF in place of a complement of 0.
pub sum_is_right_sent : (before behind : List ℕ) → AreWords before → AreWords behind → 65535 - fold plus 0 (before ++ 0 ∷ behind) ≡
    0 → fold plus 0 (before ++ 65535 ∷ behind) ≡ 65535
sum_is_right_sent before behind h k zero =
    let front : ℕ = fold plus 0 before in
    let low : front ≤ 65535 = fold-le 0 before (omega arith) h in
    let sum : ℕ = fold plus front behind in
    let small : sum ≤ 65535 = fold-le front behind low k in
    let blank : fold plus 0 (before ++ 0 ∷ behind) ≡ sum = fold-append plus 0 before (0 ∷ behind) ∙ ap (λ n. fold plus n behind)
    (plus_zero front low) in
    let full : sum ≡ 65535 = omega arith in
    fold-append plus 0 before (65535 ∷ behind)
    ∙ ap (λ n. fold plus n behind) (plus_comm front 65535)
    ∙ fold_first 65535 front behind (omega arith) low k
    ∙ ap (plus 65535) full
    ∙ complement_zero

-- the words of octets are words
pub AreWords-words : (octets : List ℕ) → AreOctets octets → AreWords (words octets)
AreWords-words [] h = tt
AreWords-words (high ∷ []) h = (omega (arith, h 0), tt)
AreWords-words (high ∷ low ∷ rest) h = (omega (arith, h 0, h 1), AreWords-words rest (λ k. h (suc (suc k))))
