-- The recording goes on, frame by frame.
use Rattle.std.proofs.Common.{◌≡◌, ℕ, zero, suc, ◌+◌, ◌≤◌, nat_le, Bool, true, false, List, [], ◌∷◌, ◌++◌, Option, refl, sym, ap}
use Rattle.std.proofs.Common.{◌∙◌, subst, append-nil, append_assoc, arith, Result, Ok, Err}
use Rattle.std.specs.Prelude.{OnErr}
use Rattle.std.specs.Io.KnownBytes.{Appends}
use Rattle.std.proofs.KnownBytes.{Appends-trans}
use Rattle.std.proofs.lemmas.Bool.Decides.{nat_tests}
use Rattle.std.proofs.lemmas.List.Concat.{flat_map-append}
use Rattle.dmr_record.proofs.Torn.{Tears_after, Tears_more}
use Rattle.dmr_record.specs.Devices.{Tears}
use Rattle.dmr_record.specs.Uplink.{UplinkSlot, frame_octets, frames_octets, slot_octets}
use Rattle.dmr_dmrd.specs.Holding.{first_frames, slot_in}

-- both slots of a frame
pub pair_octets : (one two : UplinkSlot) → slot_octets one ++ slot_octets two ≡ frame_octets (one ∷ two ∷ [])
pair_octets one two = ap (λ l. slot_octets one ++ l) (sym (append-nil (slot_octets two)))

-- the second one was torn
pub second_torn : {X E : Type 0} (r : Result X E) (a b c : Option (List ℕ)) (xs ys : List ℕ) → Appends a b xs
    → OnErr r (Tears b c ys) → OnErr r (Tears a c (xs ++ ys))
second_torn (Ok x) a b c xs ys first torn = tt
second_torn (Err e) a b c xs ys first torn = Tears_after a b c xs ys first torn

-- the octets of one frame more
pub octets_more : (one two : List UplinkSlot) (n : ℕ)
    → frames_octets (first_frames one two (n + 1))
    ≡ frames_octets (first_frames one two n) ++ frame_octets (slot_in one n ∷ slot_in two n ∷ [])
octets_more one two n =
    let next : n + 1 ≡ suc n = omega arith in
    ap (λ m. frames_octets (first_frames one two m)) next
    ∙ flat_map-append frame_octets (first_frames one two n) ((slot_in one n ∷ slot_in two n ∷ []) ∷ [])
    ∙ ap (λ l. frames_octets (first_frames one two n) ++ l) (append-nil (frame_octets (slot_in one n ∷ slot_in two n ∷ [])))

-- Octets are a front of others.
pub record IsFront (front whole : List ℕ) : Type 0 where
  pub rest : List ℕ
  pub parts : whole ≡ front ++ rest

front_by : (one two : List UplinkSlot) (n m : ℕ) (below : Bool) → nat_le n m ≡ below → n ≤ suc m
    → (n ≤ m → IsFront (frames_octets (first_frames one two n)) (frames_octets (first_frames one two m)))
    → IsFront (frames_octets (first_frames one two n)) (frames_octets (first_frames one two (suc m)))
front_by one two n m true below less front =
    let before : n ≤ m = grind (arith, nat_tests) in
    let is = front before in
    let last = frame_octets (slot_in one m ∷ slot_in two m ∷ []) in
    let next : m + 1 ≡ suc m = omega arith in
    record {
      rest = is.rest ++ last;
      parts = ap (λ k. frames_octets (first_frames one two k)) (sym next)
          ∙ octets_more one two m
          ∙ ap (λ l. l ++ last) is.parts
          ∙ append_assoc (frames_octets (first_frames one two n)) is.rest last;
    }
front_by one two n m false below less front =
    let same : n ≡ suc m = grind (arith, nat_tests) in
    record {
      rest = [];
      parts = ap (λ k. frames_octets (first_frames one two k)) (sym same)
          ∙ sym (append-nil (frames_octets (first_frames one two n)));
    }

-- fewer frames are a front
pub fewer_front : (one two : List UplinkSlot) (n m : ℕ) → n ≤ m
    → IsFront (frames_octets (first_frames one two n)) (frames_octets (first_frames one two m))
fewer_front one two n zero less =
    let same : n ≡ zero = omega arith in
    record { rest = []; parts = ap (λ k. frames_octets (first_frames one two k)) (sym same) ∙ sym (append-nil _) }
fewer_front one two n (suc m) less = front_by one two n m (nat_le n m) refl less (fewer_front one two n m)

-- a frame was torn, and with it all frames
pub frame_torn : (one two : List UplinkSlot) (n m : ℕ) (a b c : Option (List ℕ)) → n + 1 ≤ m
    → Appends a b (frames_octets (first_frames one two n)) → Tears b c (frame_octets (slot_in one n ∷ slot_in two n ∷ []))
    → Tears a c (frames_octets (first_frames one two m))
frame_torn one two n m a b c less before torn =
    let front = fewer_front one two (n + 1) m less in
    subst (Tears a c) (sym front.parts)
    (Tears_more a c (frames_octets (first_frames one two (n + 1))) front.rest
    (subst (Tears a c) (sym (octets_more one two n)) (Tears_after a b c _ _ before torn)))

-- a frame more was written
pub frame_written : (one two : List UplinkSlot) (n : ℕ) (a b c : Option (List ℕ))
    → Appends a b (frames_octets (first_frames one two n)) → Appends b c (frame_octets (slot_in one n ∷ slot_in two n ∷ []))
    → Appends a c (frames_octets (first_frames one two (n + 1)))
frame_written one two n a b c before put =
    subst (Appends a c) (sym (octets_more one two n)) (Appends-trans a b c _ _ before put)
