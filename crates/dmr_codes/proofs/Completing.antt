-- Any information has a word.
use Rattle.std.proofs.Common.{◌≡◌, ℕ, ◌+◌, ◌-◌, ◌/◌, ◌%◌, ◌^◌, ◌==◌, ◌<◌, Bool, true, cond, List, [], ◌∷◌, ◌++◌, length}
use Rattle.std.proofs.Common.{suc, take, drop, refl, sym, ◌∙◌, ap, subst, arith, inl, inr, length-append}
use Rattle.std.proofs.lemmas.Bool.{and_parts, eqb-true, cases_lt}
use Rattle.std.proofs.lemmas.Bool.Decides.{eqb_tells}
use Rattle.std.proofs.lemmas.List.{take_at, length-drop}
use Rattle.std.proofs.Math.Seq.{drop-append_seam}
use Rattle.dmr_codes.specs.Code.{ones_over, IsWord, IsShaped, is_stepped}
use Rattle.dmr_codes.specs.Words.{ones_over_split, stepped_past}

-- the bit of a check place, which decides the check that it leads
bit_of_check : (wanted c m ones : ℕ) → c / 2 ^ m ≡ 1 → ones ≡ 0
    → (cond (wanted % 2 == 1) (c / 2 ^ m % 2) 0 + ones) % 2 ≡ wanted % 2
bit_of_check wanted c m ones leads none =
    let at : Bool → ℕ = λ b. (cond b (c / 2 ^ m % 2) 0 + ones) % 2 in
    elim (eqb_tells (wanted % 2) 1) [
      | inl p ↦ (let odd : wanted % 2 ≡ 1 = p.1 in ap at p.0 ∙ omega (arith, leads, none, odd))
      | inr p ↦ (let even : wanted % 2 ≡ 1 → ⊥ = p.1 in ap at p.0 ∙ omega (arith, none, even))
    ]

-- what is left to a check by the places behind one
left_to_check : (wanted bit ones : ℕ) → ones % 2 ≡ (wanted + bit) % 2 → (bit + ones) % 2 ≡ wanted % 2
left_to_check wanted bit ones e = omega arith

-- Bits of check places, with as many ones over each check, modulo 2, as are wanted.
tail_somehow : (cs : List ℕ) (wanted : ℕ → ℕ) → is_stepped cs ≡ true
    → (u : List Bool) × (length u ≡ length cs) × ((j : ℕ) → j < length cs → ones_over j cs u % 2 ≡ wanted j % 2)
tail_somehow [] wanted e = ([], refl, λ j h. absurd (omega arith))
tail_somehow (c ∷ cs) wanted e =
    let parts = and_parts (c / 2 ^ length cs == 1) (is_stepped cs) e in
    let b : Bool = wanted (length cs) % 2 == 1 in
    let (u, long, even) = tail_somehow cs (λ j. wanted j + cond b (c / 2 ^ j % 2) 0) parts.1 in (
      b ∷ u,
      ap suc long,
      λ j h. elim (cases_lt j (length cs)) [
        | inl low ↦ left_to_check (wanted j) (cond b (c / 2 ^ j % 2) 0) (ones_over j cs u) (even j low)
        | inr high ↦
            (let last : j ≡ length cs = omega arith in
            subst (λ (i : ℕ). (cond b (c / 2 ^ i % 2) 0 + ones_over i cs u) % 2 ≡ wanted i % 2) (sym last)
            (bit_of_check (wanted (length cs)) c (length cs) (ones_over (length cs) cs u) (eqb-true _ _ parts.0)
            (stepped_past (length cs) cs u parts.1 (omega arith))))
      ],
    )

-- any information as long as the code has it begins some word of the code
pub word_somehow : (n k : ℕ) (cs : List ℕ) (information : List Bool) → IsShaped n k cs → length information ≡ k
    → (word : List Bool) × IsWord cs (n - k) word × (take k word ≡ information)
word_somehow n k cs information shaped long =
    let (u, many, even) = tail_somehow (drop k cs) (λ j. ones_over j (take k cs) information) shaped.stepped in
    let front : take k (information ++ u) ≡ information = take_at information u k long in
    let behind : drop k (information ++ u) ≡ u =
    ap (λ i. drop i (information ++ u)) (sym long) ∙ drop-append_seam information u in
    let count : length (drop k cs) ≡ n - k = length-drop k cs ∙ ap (λ m. m - k) shaped.places in
    let fit = shaped.information in
    let twice : (x : ℕ) → (x + x) % 2 ≡ 0 = λ x. omega arith in (
      information ++ u,
      record {
        long = length-append information u ∙ omega (arith, long, many, count, shaped.places, fit);
        even = λ j h.
            (let split = ones_over_split j k cs (information ++ u) in
            let first : ones_over j (take k cs) (take k (information ++ u)) ≡ ones_over j (take k cs) information =
            ap (ones_over j (take k cs)) front in
            let last : ones_over j (drop k cs) (drop k (information ++ u)) ≡ ones_over j (drop k cs) u =
            ap (ones_over j (drop k cs)) behind in
            omega (arith, split, first, last, even j (omega (arith, count))));
      },
      front,
    )
