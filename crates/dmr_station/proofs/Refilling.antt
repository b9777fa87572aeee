-- CACHs whose fragments are replaced: their TACT bits stay.
use Rattle.std.proofs.Common.{◌≡◌, ℕ, zero, suc, ◌%◌, ◌<◌, Bool, false, List, [], ◌∷◌, length, get_or, slice_index_or, map, take}
use Rattle.std.proofs.Common.{refl, sym, ◌∙◌, ap, subst, arith}
use Rattle.std.specs.List.{range_with_len}
use Rattle.std.proofs.lemmas.List.{get_or_default}
use Rattle.std.proofs.lemmas.List.FromFn.{fill_by_all}
use Rattle.dmr_bits.specs.Bits.{part, put_at, bits_of_octets}
use Rattle.dmr_codes.specs.Seven.{IsHamming7}
use Rattle.dmr_burst.specs.Cach.{IsCach, tact_field}
use Rattle.dmr_burst.proofs.Interleaving.{fragment_field}
use Rattle.dmr_station.specs.Sent.{AreCachs, CarryMessage}
use Rattle.dmr_station.specs.declared.announcing.Message.{Message}

-- 24 bits with a fragment in its places
abbrev pub with_fragment : List Bool → List Bool → List Bool
with_fragment bits f =
    put_at (put_at (put_at (put_at (put_at (put_at (put_at bits 1 (part f 0 3)) 5 (part f 3 6)) 9 (part f 6 9)) 13 (part f 9 10)) 15
    (part f 10 13)) 19 (part f 13 16)) 23 (part f 16 17)

-- bits by their places
abbrev by_place : ℕ → (ℕ → Bool) → List Bool
by_place n f = map f (range_with_len 0 n)

tact_stays : (b f : ℕ → Bool) → tact_field (with_fragment (by_place 24 b) (by_place 17 f)) ≡ tact_field (by_place 24 b)
tact_stays b f = refl

fragment_is_new : (b f : ℕ → Bool) → fragment_field (with_fragment (by_place 24 b) (by_place 17 f)) ≡ by_place 17 f
fragment_is_new b f = refl

length_stays : (b f : ℕ → Bool) → length (with_fragment (by_place 24 b) (by_place 17 f)) ≡ 24
length_stays b f = refl

-- a CACH with another fragment in its places is the CACH of that
pub of_new_fragment : (at tc : Bool) (lcss : ℕ) (old bits f : List Bool) → length f ≡ 17 → IsCach at tc lcss old bits
    → IsCach at tc lcss f (with_fragment bits f)
of_new_fragment at tc lcss old bits f e is =
    let b : ℕ → Bool = λ k. get_or bits k false in
    let g : ℕ → Bool = λ k. get_or f k false in
    let whole : bits ≡ by_place 24 b = fill_by_all b bits 24 false is.long (λ k h. refl) in
    let piece : f ≡ by_place 17 g = fill_by_all g f 17 false e (λ k h. refl) in
    let made : with_fragment bits f ≡ with_fragment (by_place 24 b) (by_place 17 g) =
    ap (λ x. with_fragment x f) whole ∙ ap (with_fragment (by_place 24 b)) piece in
    let tact : tact_field (with_fragment bits f) ≡ tact_field bits = ap tact_field made ∙ tact_stays b g
    ∙ ap tact_field (sym whole) in
    record {
      long = ap length made ∙ length_stays b g;
      word = subst IsHamming7 (sym tact) is.word;
      says = ap (take 4) tact ∙ is.says;
      holds = ap fragment_field made ∙ fragment_is_new b g ∙ sym piece;
    }

-- a CACH of some fragment becomes that of another
abbrev pub Refills : List ℕ → List Bool → List ℕ → Type 0
Refills cach fragment new =
    (at tc : Bool) (lcss : ℕ) (old : List Bool) → IsCach at tc lcss old (bits_of_octets cach)
    → IsCach at tc lcss fragment (bits_of_octets new)

-- the same, whatever stands for a missing CACH and a missing fragment
pub refills_at : (cachs : List (List ℕ)) (fragments : List (List Bool)) (place : ℕ) (x : List ℕ) (y : List Bool) (new : List ℕ)
    → place < length cachs → place < length fragments
    → Refills (slice_index_or cachs place x) (slice_index_or fragments place y) new
    → Refills (slice_index_or cachs place []) (slice_index_or fragments place []) new
refills_at cachs fragments place x y new few also refills =
    subst (λ cach. Refills cach (slice_index_or fragments place []) new) (get_or_default cachs place x [] few)
    (subst (λ fragment. Refills (slice_index_or cachs place x) fragment new) (get_or_default fragments place y [] also) refills)

module _ (cachs : List (List ℕ)) (fragments : List (List Bool)) (a b c d : List ℕ)
    (first : Refills (slice_index_or cachs 0 []) (slice_index_or fragments 0 []) a)
    (second : Refills (slice_index_or cachs 1 []) (slice_index_or fragments 1 []) b)
    (third : Refills (slice_index_or cachs 2 []) (slice_index_or fragments 2 []) c)
    (fourth : Refills (slice_index_or cachs 3 []) (slice_index_or fragments 3 []) d) where
  refilled_at : (place : ℕ) → place < 4
      → Refills (slice_index_or cachs place []) (slice_index_or fragments place []) (slice_index_or (a ∷ b ∷ c ∷ d ∷ []) place [])
  refilled_at zero few = first
  refilled_at (suc zero) few = second
  refilled_at (suc (suc zero)) few = third
  refilled_at (suc (suc (suc zero))) few = fourth
  refilled_at (suc (suc (suc (suc place)))) few = absurd (omega arith)

  -- Where each of four CACHs becomes that of another fragment, they are CACHs of these fragments.
  pub four_refilled : (busy : Bool) (m : Message) → CarryMessage busy m cachs → AreCachs busy fragments (a ∷ b ∷ c ∷ d ∷ [])
  four_refilled busy m carry place =
      let (old, short, is) = carry place in
      refilled_at (place % 4) (omega arith) busy _ _ _ is
