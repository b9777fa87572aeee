-- The CACHs of four records, one for each fragment of a message.
use Rattle.std.proofs.Common.{◌≡◌, ℕ, zero, suc, ◌%◌, ◌<◌, ◌==◌, Bool, List, [], ◌∷◌, length, slice_index_or}
use Rattle.std.proofs.Common.{if◌then◌else◌, ap, subst, arith}
use Rattle.std.proofs.lemmas.List.{get_or_default}
use Rattle.std.proofs.lemmas.List.Elements.{All-cons, All-nil}
use Rattle.std.specs.List.{All}
use Rattle.dmr_bits.specs.Bits.{bits_of_octets}
use Rattle.dmr_burst.specs.Cach.{IsCach}
use Rattle.dmr_station.specs.Sent.{AreCachs, FitOctets, fragment_lcss}

-- where each of four CACHs is of octets, all four are
pub four_octets : (a b c d : List ℕ) → FitOctets a → FitOctets b → FitOctets c → FitOctets d → All FitOctets (a ∷ b ∷ c ∷ d ∷ [])
four_octets a b c d h i j k =
    All-cons FitOctets a (b ∷ c ∷ d ∷ []) h
    (All-cons FitOctets b (c ∷ d ∷ []) i (All-cons FitOctets c (d ∷ []) j (All-cons FitOctets d [] k (All-nil FitOctets))))

-- the fragment of a CACH in one of four places is the same whatever stands for a missing one
pub with_fragment : (busy odd : Bool) (lcss : ℕ) (fragments : List (List Bool)) (place : ℕ) (other : List Bool) (cach : List Bool)
    → place < 4 → length fragments ≡ 4 → IsCach busy odd lcss (slice_index_or fragments place other) cach
    → IsCach busy odd lcss (slice_index_or fragments place []) cach
with_fragment busy odd lcss fragments place other cach few four =
    subst (λ fragment. IsCach busy odd lcss fragment cach) (get_or_default fragments place other [] (omega arith))

abbrev cach_of : Bool → List (List Bool) → List (List ℕ) → ℕ → Bool → ℕ → Type 0
cach_of busy fragments cachs rest odd lcss =
    IsCach busy odd lcss (slice_index_or fragments rest []) (bits_of_octets (slice_index_or cachs rest []))

module _ (busy : Bool) (fragments : List (List Bool)) (a b c d : List ℕ)
    (first : cach_of busy fragments (a ∷ b ∷ c ∷ d ∷ []) 0 (0 % 2 == 1) (fragment_lcss 0))
    (second : cach_of busy fragments (a ∷ b ∷ c ∷ d ∷ []) 1 (1 % 2 == 1) (fragment_lcss 1))
    (third : cach_of busy fragments (a ∷ b ∷ c ∷ d ∷ []) 2 (2 % 2 == 1) (fragment_lcss 2))
    (fourth : cach_of busy fragments (a ∷ b ∷ c ∷ d ∷ []) 3 (3 % 2 == 1) (fragment_lcss 3)) where
  cach_at : (rest : ℕ) → rest < 4 → cach_of busy fragments (a ∷ b ∷ c ∷ d ∷ []) rest (rest % 2 == 1) (fragment_lcss rest)
  cach_at zero few = first
  cach_at (suc zero) few = second
  cach_at (suc (suc zero)) few = third
  cach_at (suc (suc (suc zero))) few = fourth
  cach_at (suc (suc (suc (suc rest)))) few = absurd (omega arith)

  -- What stands at a place goes by what is left of it by four.
  pub four_cachs : AreCachs busy fragments (a ∷ b ∷ c ∷ d ∷ [])
  four_cachs place =
      let few : place % 4 < 4 = omega arith in
      let same : place % 4 % 4 ≡ place % 4 = omega arith in
      let parity : place % 4 % 2 ≡ place % 2 = omega arith in
      subst (λ odd. cach_of busy fragments (a ∷ b ∷ c ∷ d
      ∷ []) (place % 4) odd (fragment_lcss place)) (ap (λ rest. rest == 1) parity)
      (subst (λ lcss. cach_of busy fragments (a ∷ b ∷ c ∷ d ∷ []) (place % 4) (place % 4 % 2 == 1) lcss)
      (ap (λ rest. if rest == 0 then 1 else (if rest == 3 then 2 else 3)) same) (cach_at (place % 4) few))
