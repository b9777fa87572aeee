-- Silent frames that are copied.
use Rattle.std.proofs.Common.{◌≡◌, ℕ, ◌+◌, ◌*◌, ◌/◌, ◌%◌, ◌≤◌, ◌≢◌, List, [], ◌∷◌, ◌++◌, take, replicate, Option, Some, None}
use Rattle.std.proofs.Common.{refl, sym, ap, ◌∙◌, subst, arith, append_assoc, append-nil}
use Rattle.std.proofs.lemmas.List.{replicate-append-replicate, take-replicate, take-take}
use Rattle.std.specs.Io.KnownBytes.{Appends, Keeps}
use Rattle.std.proofs.KnownBytes.{Appends-nil, Appends-trans}
use Rattle.dmr_record.specs.Devices.{Tears, TearsBehind}
use Rattle.dmr_record.specs.Silence.{silence_octets}

-- what a sink holds behind more octets
abbrev pub behind : Option (List ℕ) → List ℕ → Option (List ℕ)
behind None xs = None
behind (Some held) xs = Some (held ++ xs)

whole_behind : (old : Option (List ℕ)) (xs : List ℕ) → Appends old (behind old xs) xs
whole_behind None xs = tt
whole_behind (Some held) xs = refl

rest_behind : (old new : Option (List ℕ)) (xs ys : List ℕ) → Appends old new (xs ++ ys) → Appends (behind old xs) new ys
rest_behind None new xs ys all = tt
rest_behind (Some held) None xs ys all = absurd all
rest_behind (Some held) (Some more) xs ys all = all ∙ sym (append_assoc held xs ys)

-- nothing went out, of a piece that isn't empty
pub nothing_out : (old new : Option (List ℕ)) → Keeps old new → TearsBehind [] old new (0 ∷ 0 ∷ [])
nothing_out old new kept = record {
  between = old;
  whole = Appends-nil old;
  torn = record { count = 0; fewer = omega arith; front = none_more old new kept };
}
  where
    none_more : (a b : Option (List ℕ)) → Keeps a b → Appends a b []
    none_more None b same = tt
    none_more (Some xs) None same = absurd same
    none_more (Some xs) (Some ys) same = same ∙ sym (append-nil xs)

-- an even count of zeros is so many silent frames
pub whole_frames : (n : ℕ) → n ≤ 64 → n % 2 ≡ 0 → take n (replicate 64 0) ≡ silence_octets (n / 2)
whole_frames n few even = take-replicate n 64 0 few ∙ ap (λ m. replicate m 0) (omega (arith, even))

-- an odd one is so many and a half,
frames_and_half : (n : ℕ) → n ≤ 64 → n % 2 ≢ 0 → take n (replicate 64 0) ≡ silence_octets (n / 2) ++ 0 ∷ []
frames_and_half n few odd =
    take-replicate n 64 0 few ∙ ap (λ m. replicate m 0) (omega (arith, odd))
    ∙ sym (replicate-append-replicate (2 * (n / 2)) 1 0)

-- and with the other half it is one more
pub with_other_half : (n : ℕ) (old mid new : Option (List ℕ)) → n ≤ 64 → n % 2 ≢ 0 → Appends old mid (take n (replicate 64 0))
    → Appends mid new (0 ∷ []) → Appends old new (silence_octets (n / 2 + 1))
with_other_half n old mid new few odd front half =
    subst (Appends old new)
    (ap (λ l. l ++ 0 ∷ []) (take-replicate n 64 0 few) ∙ replicate-append-replicate n 1 0
    ∙ ap (λ m. replicate m 0) (omega (arith, odd)))
    (Appends-trans old mid new _ _ front half)

-- the other half doesn't go out
pub half_out : (n : ℕ) (old mid new : Option (List ℕ)) → n ≤ 64 → n % 2 ≢ 0 → Appends old mid (take n (replicate 64 0))
    → Tears mid new (0 ∷ []) → TearsBehind (silence_octets (n / 2)) old new (0 ∷ 0 ∷ [])
half_out n old mid new few odd front torn =
    let none : torn.count ≡ 0 = let fewer = torn.fewer in omega (arith, fewer) in
    let same : Appends old new (take n (replicate 64 0) ++ []) =
    Appends-trans old mid new _ _ front (subst (λ k. Appends mid new (take k (0 ∷ []))) none torn.front) in
    record {
      between = behind old (silence_octets (n / 2));
      whole = whole_behind old (silence_octets (n / 2));
      torn = record {
        count = 1;
        fewer = omega arith;
        front = rest_behind old new (silence_octets (n / 2)) (0 ∷ [])
            (subst (Appends old new) (append-nil _ ∙ frames_and_half n few odd) same);
      };
    }

-- frames that stand at the front of a buffer
pub at_front : (n : ℕ) (buffer : List ℕ) → n ≤ 32 → replicate 64 0 ≡ take 64 buffer → silence_octets n ≡ take (2 * n) buffer
at_front n buffer few front =
    sym (take-replicate (2 * n) 64 0 (omega arith)) ∙ ap (take (2 * n)) front ∙ take-take (2 * n) 64 buffer (omega arith)
