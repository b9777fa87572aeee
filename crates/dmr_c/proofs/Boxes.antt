-- How std takes a box apart and puts it together, as a caller sees it. Both calls are handed a machine word that owns a box, and
-- what they answer is such a word again, of the same value. Assumes `Logic`.
--     Tokens, Lives        what a call under two type parameters gets and gives back, and what it asks of their lifetimes
--     Holds                a word that owns a box of this value
--     Opens, at_open       `into_raw_with_allocator`, and what a caller picks for it.    hands_box, opened     before and after it
--     Shuts, at_shut       `from_raw`, and what a caller picks for it.                   hands_parts, shut     before and after it
use mathlib.Core.Path.{◌≡◌, refl, sym, ap, ◌∙◌}
use mathlib.Core.List.{List, [], ◌∷◌, ◌++◌}
use Prim.Native.Nat.{ℕ}
use seplogic.Ra.Ura.{Ura}
use mir.Syntax.{Dict}
use mir.Raw.{raw as bare}
use mir.Val.{Val, vptr, vstruct, of_list}
use base.Logic.{SProp, ent, id⊢, never, fst∗}
use base.Fml.{Lft, Share, ftrue, fsep, flft}
use contract.BorrowLft.{◌⊑◌}
use contract.Monad.{Fun, fact}
use prog.Memory.{Memory}
use prog.Routine.{Routine}
use types.Logic.{Logic, sem}
use types.Kit.{Item, mean, ‵, raw, ◌⊛◌, some, later, ◌$◌, ◌∵◌, !, qed, move, keep, drop, use1, join, split, split3, pick, rewrite}
use types.Kit.{fsplit, fjoin, fpick, feq_i, feq_l, show, await, updating, now, done}
use denote.RawPtr.{Ptr, RawPtr, block_ptr, null_ptr, ptr_val, in_a_block}
use denote.Steps.{heard, nothing}
use denote.Struct.Tuple.{Tuple}
use denote.Triple.Spec.{triple_of}
use denote.Triple.Statement.{Contract}
use denote.Triple.Walked.{says}
use Rattle.core.proofs.alloc.Calls.{token, handle_tells}
use Rattle.std_alloc.specs.Box.Ownership.{box_owns}
use Rattle.std_alloc.proofs.BoxSteps.Form.{Bx, X, D, τ, R, P, B, word}
use Rattle.std_alloc.proofs.BoxSteps.Steps.{box_in}
use Rattle.std_alloc.specs.contracts.boxed.Box.into_raw_with_allocator as Open
use Rattle.std_alloc.specs.contracts.boxed.Box.from_raw as Shut

abbrev pub Two : Type 0 → Type 0
Two A = A × (A × Unit {0})

-- What is said of the parameters of both calls, which they use up.
abbrev Unsaid : Type 0
Unsaid = Unit {0} × (Unit {0} × Unit {0})

module _ (E : Bx) {M : Type 1} {𝓤 : Ura M} (𝓛 : Logic 𝓤) where
  abbrev pub Tokens : Two Lft → Two Share → Item 𝓤
  Tokens κs qs = ‵ (flft κs.0 qs.0) ⊛ ‵ (flft κs.1.0 qs.1.0) ⊛ ‵ ftrue

  abbrev pub Lives : Two Lft → Item 𝓤
  Lives κs = raw (fact 𝓤 (κs.0 ⊑ E.row.lives)) ⊛ raw (fact 𝓤 (κs.1.0 ⊑ E.al.row.lives)) ⊛ ‵ ftrue

  abbrev pub Owns : X E → Val → D E → Item 𝓤
  Owns x u d = ‵ ((B E).own_val d (u ∷ [])) ⊛ raw (fact 𝓤 (d.value ≡ x))

  abbrev pub Holds : X E → Val → Item 𝓤
  Holds x u = some (Owns x u)

  holds : (d : D E) (u : Val) {x : X E} → d.value ≡ x → ent 𝓤 (sem 𝓛 ((B E).own_val d (u ∷ []))) (mean 𝓛 (Holds x u))
  holds d u {x} same =
      qed 𝓛 (‵ ((B E).own_val d (u ∷ [])) ∷ []) ∵ show ! (λ (e : D E). mean 𝓛 (Owns x u e)) d $ says ! same $ done !

module _ (E : Bx) {M : Type 1} {𝓤 : Ura M} (𝓛 : Logic 𝓤) (at_mem : Memory → SProp 𝓤) (run : Routine → Fun 𝓤) where
  open 𝓛 use {H}

  module _ (dx : Dict) where
    abbrev pub Opens : Contract 𝓤
    Opens = triple_of 𝓛 (Open.signature E.row E.al.row E.al.g E.al.d E.al.drops dx)
        (Open.spec E.row E.al.row E.al.g E.al.d E.al.drops dx 𝓛 at_mem run)

    module _ (κs : Two Lft) (qs : Two Share) (d : D E) (w : Val) where
      abbrev pub at_open : Opens.Ghost
      at_open = ((κs, qs, tt, (d, tt), (w ∷ [], tt)), tt)

      pub hands_box : ent 𝓤 (mean 𝓛 (‵ ((B E).own_val d (w ∷ [])) ⊛ Tokens E 𝓛 κs qs ⊛ Lives E 𝓛 κs)) (Opens.pre at_open)
      hands_box =
          qed 𝓛 ((‵ ((B E).own_val d (w ∷ [])) ⊛ Tokens E 𝓛 κs qs ⊛ Lives E 𝓛 κs) ∷ []) ∵ split3 ! $
          nothing ! $ move ! (1 ∷ 0 ∷ []) $ fjoin ! $ move ! (1 ∷ 0 ∷ []) $ join ! $ join ! $ done !

      -- The pair of a pointer and an allocator.
      abbrev Answers : Val → Item 𝓤
      Answers u =
          later (some (λ (r : Ptr × E.al.row.Denot). (Tokens E 𝓛 κs qs ⊛ ‵ ((Tuple (RawPtr ∷ P E ∷ [])).own_val r (u ∷ [])))
          ⊛ some (λ (_ : Unsaid × Unit {0}). ‵ (fsep (fsep ftrue (fsep ftrue ftrue)) ftrue)
          ⊛ (raw (fact 𝓤 (r.1 ≡ d.alloc)) ⊛ ‵ (box_owns (token E.al d.alloc) (R E) r.0 d.value)))))

      pub opened : (u : Val) → ent 𝓤 (Opens.post at_open u) (H.⇛ (mean 𝓛 (Holds E 𝓛 d.value u ⊛ Tokens E 𝓛 κs qs)))
      opened u =
          qed 𝓛 (raw (Opens.post at_open u) ∷ []) ∵ updating ! $ use1 𝓛 (Answers u) (id⊢ 𝓤 _) $ await ! tt $
          pick ! (λ r. split ! $ split ! $ move ! (2 ∷ []) $ pick ! (λ _. split3 ! $ drop ! $ heard ! (r.1 ≡ d.alloc) (λ same.
          in_a_block ! r.0 (λ p. box_owns (token E.al d.alloc) (R E) p d.value)
          (fst∗ 𝓤 (never 𝓤) (sem 𝓛 (token E.al d.alloc (bare (τ E)) null_ptr))) (λ b o at_b. now ! $
          -- [what the box owned; the tokens; the pair]
          move ! (2 ∷ []) $ fpick ! (λ vss. fsplit ! $ feq_l ! (λ a_pair. fsplit ! $ feq_l ! (λ a_ptr. fsplit ! $
          rewrite ! 0 (λ (a : E.al.row.Denot). ‵ (E.al.row.own_val a vss.1.0)) same refl $
          handle_tells E.al ! d.alloc vss.1.0 (λ hv a_handle fits. move ! (2 ∷ 0 ∷ 3 ∷ []) $ fsplit ! $
          let e : D E = record { ptr = block_ptr b o; alloc = d.alloc; value = d.value } in
          let is_word : u ∷ [] ≡ word E hv b o ∷ [] =
          a_pair ∙ (λ i. vstruct (of_list ((a_ptr ∙ ap (λ (p : Ptr). ptr_val p ∷ []) at_b) i ++ (a_handle i ++ []))) ∷ []) in
          box_in E ! e b o d.value refl refl $
          rewrite ! 0 (λ (us : List Val). ‵ ((B E).own_val e us)) (sym is_word) refl $
          use1 𝓛 (Holds E 𝓛 d.value u) (holds E 𝓛 e u refl) $ keep ! (0 ∷ 1 ∷ []) $ done !))))))))

  abbrev pub Shuts : Contract 𝓤
  Shuts = triple_of 𝓛 (Shut.signature E.row E.al.row E.al.g E.al.d E.al.drops)
      (Shut.spec E.row E.al.row E.al.g E.al.d E.al.drops 𝓛 at_mem run)

  module _ (κs : Two Lft) (qs : Two Share) (a : E.al.row.Denot) (x : X E) (b o : ℕ) (hv : Val) where
    abbrev pub at_shut : Shuts.Ghost
    at_shut = ((κs, qs, tt, (a, (block_ptr b o, tt)), (hv ∷ [], (vptr b o ∷ [], tt))), x)

    -- What a box owns but for its place: the value, the right to free it, and the allocator.
    abbrev pub Owned : Item 𝓤
    Owned = ‵ (box_owns (token E.al a) (R E) (block_ptr b o) x) ⊛ ‵ ((P E).own_val a (hv ∷ []))

    pub hands_parts : ent 𝓤 (mean 𝓛 (Owned ⊛ Tokens E 𝓛 κs qs ⊛ Lives E 𝓛 κs)) (Shuts.pre at_shut)
    hands_parts =
        qed 𝓛 ((Owned ⊛ Tokens E 𝓛 κs qs ⊛ Lives E 𝓛 κs) ∷ []) ∵ split3 ! $ split ! $
        -- [the value; the allocator; the tokens; the lifetimes]
        nothing ! $ feq_i ! (List Val) (vptr b o ∷ []) (vptr b o ∷ []) refl $ fjoin ! $ move ! (2 ∷ 0 ∷ []) $ fjoin ! $
        move ! (2 ∷ 0 ∷ []) $ join ! $ move ! (2 ∷ []) $ split3 ! $ move ! (2 ∷ []) $ drop ! $
        -- [what is asked of each lifetime; the tokens with what is passed; the value]
        move ! (1 ∷ 3 ∷ []) $ join ! $ move ! (1 ∷ 0 ∷ []) $ join ! $ move ! (1 ∷ 0 ∷ []) $ join ! $ done !

    -- The box.
    abbrev Box_back : Val → Item 𝓤
    Box_back u =
        later (some (λ (r : D E). (Tokens E 𝓛 κs qs ⊛ ‵ ((B E).own_val r (u ∷ [])))
        ⊛ some (λ (_ : Unsaid). ‵ (fsep ftrue (fsep ftrue ftrue)) ⊛ (raw (fact 𝓤 (r.value ≡ x)) ⊛ raw (fact 𝓤 (r.alloc ≡ a))))))

    pub shut : (u : Val) → ent 𝓤 (Shuts.post at_shut u) (H.⇛ (mean 𝓛 (Holds E 𝓛 x u ⊛ Tokens E 𝓛 κs qs)))
    shut u =
        qed 𝓛 (raw (Shuts.post at_shut u) ∷ []) ∵ updating ! $ use1 𝓛 (Box_back u) (id⊢ 𝓤 _) $ await ! tt $
        pick ! (λ r. split ! $ split ! $ move ! (2 ∷ []) $ pick ! (λ _. split3 ! $ drop ! $ heard ! (r.value ≡ x) (λ same.
        drop ! $ now ! $ move ! (1 ∷ []) $ use1 𝓛 (Holds E 𝓛 x u) (holds E 𝓛 r u same) $ done !)))
