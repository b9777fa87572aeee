-- What is announced by the rules is what a look back finds, and there is one such message a frame.
use Rattle.std.proofs.Common.{◌≡◌, ℕ, ◌%◌, List, [], ◌∷◌, length, Option, Some, None}
use Rattle.std.proofs.Common.{refl, sym, ap, ◌∙◌, subst, arith, slice_index_or}
use Rattle.std.proofs.Common.{map}
use Rattle.dmr_link.specs.declared.full_lc.FullLc.{FullLc}
use Rattle.dmr_slot.specs.declared.line.SlotOut.{SlotOut}
use Rattle.dmr_slot.proofs.Messages.{one_message as one_message_of_calls}
use Rattle.dmr_station.specs.Announced.{IsMessageFor, IsAnnounced, AreAnnounced}
use Rattle.dmr_station.specs.declared.announcing.Message.{Message}

-- ---- by the rules, frame after frame
abbrev pub Announces : Option Message → List (List SlotOut) → List Message → Type 0
Announces kept [] [] = Unit {0}
Announces kept [] (m ∷ messages) = ⊥
Announces kept (outs ∷ frames) [] = ⊥
Announces kept (outs ∷ frames) (m ∷ messages) =
    (after : Option Message) × IsAnnounced kept outs m after × Announces after frames messages

-- what is kept after these frames, newest first
abbrev pub Keeps : Option Message → List (List SlotOut) → Type 0
Keeps None back = length back % 2 ≡ 0
Keeps (Some kept) [] = ⊥
Keeps (Some kept) (last ∷ back) = (length back % 2 ≡ 0) × IsMessageFor last kept

-- The frame whose slots decide the message of a frame.
abbrev pub deciding : List (List SlotOut) → List SlotOut → List SlotOut
deciding back outs = slice_index_or (outs ∷ back) (length back % 2) outs

itself : (back : List (List SlotOut)) (outs : List SlotOut) → length back % 2 ≡ 0 → deciding back outs ≡ outs
itself back outs even = ap (λ (n : ℕ). slice_index_or (outs ∷ back) n outs) even

before : (last : List SlotOut) (back : List (List SlotOut)) (outs : List SlotOut) → length back % 2 ≡ 0
    → deciding (last ∷ back) outs ≡ last
before last back outs even =
    let odd : length (last ∷ back) % 2 ≡ 1 = omega (arith, even) in
    ap (λ (n : ℕ). slice_index_or (outs ∷ last ∷ back) n outs) odd

-- the messages that frames announce one after another are those that a look back finds
pub looks_back : (kept : Option Message) (back frames : List (List SlotOut)) (messages : List Message) → Keeps kept back
    → Announces kept frames messages → AreAnnounced back frames messages
looks_back kept back [] [] k u = tt
looks_back kept back [] (m ∷ messages) k u = absurd u
looks_back kept back (outs ∷ frames) [] k u = absurd u
looks_back None back (outs ∷ frames) (m ∷ messages) k u =
    let is_for : IsMessageFor outs m = u.1.0 in (
      subst (λ (decides : List SlotOut). IsMessageFor decides m) (sym (itself back outs k)) is_for,
      looks_back (Some m) (outs ∷ back) frames messages (k, is_for)
          (subst (λ (after : Option Message). Announces after frames messages) u.1.1 u.2),
    )
looks_back (Some kept) [] (outs ∷ frames) (m ∷ messages) k u = absurd k
looks_back (Some kept) (last ∷ back) (outs ∷ frames) (m ∷ messages) k u =
    let even : length back % 2 ≡ 0 = k.0 in
    let next : length (outs ∷ last ∷ back) % 2 ≡ 0 = omega arith in (
      subst (λ (decides : List SlotOut). IsMessageFor decides m) (sym (before last back outs even))
          (subst (IsMessageFor last) (sym u.1.0) k.1),
      looks_back None (outs ∷ last ∷ back) frames messages next
          (subst (λ (after : Option Message). Announces after frames messages) u.1.1 u.2),
    )

-- ---- there is one
-- The known link control of the call of each slot.
abbrev known_lcs : List SlotOut → List (Option FullLc)
known_lcs outs = map (λ (out : SlotOut). out.lc) outs

same_fields : (m n : Message) → m.slco ≡ n.slco → m.body ≡ n.body → m ≡ n
same_fields m n e f =
    let of : ℕ → ℕ → Message = λ slco body. record { slco = slco; body = body } in
    ap (λ (slco : ℕ). of slco m.body) e ∙ ap (of n.slco) f

one_message : (outs : List SlotOut) (m n : Message) → IsMessageFor outs m → IsMessageFor outs n → m ≡ n
one_message outs m n u v =
    let same = one_message_of_calls (slice_index_or (known_lcs outs) 0 None) (slice_index_or (known_lcs outs) 1 None) m.slco m.body
    n.slco n.body u v in
    same_fields m n same.0 same.1

-- there is one message alone for each frame
pub one_announced : (back frames : List (List SlotOut)) (a b : List Message) → AreAnnounced back frames a
    → AreAnnounced back frames b → a ≡ b
one_announced back [] [] [] u v = refl
one_announced back [] (m ∷ a) b u v = absurd u
one_announced back [] [] (n ∷ b) u v = absurd v
one_announced back (outs ∷ frames) [] b u v = absurd u
one_announced back (outs ∷ frames) (m ∷ a) [] u v = absurd v
one_announced back (outs ∷ frames) (m ∷ a) (n ∷ b) u v =
    let head = one_message (deciding back outs) m n u.0 v.0 in
    let tail = one_announced (outs ∷ back) frames a b u.1 v.1 in
    cc
