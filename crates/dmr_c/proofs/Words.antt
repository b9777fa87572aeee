-- The machine value of a handle, and what it owns. Assumes `Logic`.
use Rattle.std.proofs.Common.{◌≡◌, ℕ, List, [], ◌∷◌, ◌++◌, refl, subst}
use seplogic.Ra.Ura.{Ura}
use mir.Val.{Val, vstruct, vcons, vnil, of_list}
use types.Logic.{Logic, sem}
use mir.Raw.{raw as bare}
use base.Fml.{Fml}
use base.Logic.{ent, guard, guard_i, via, never, fst∗, snd∗}
use types.Kit.{Item, Goal, Seq, Step, step, ‵, given, ◌$◌, drop, learn, use1, fsplit, fjoin, fpick, fpack, feq_i, feq_l}
use contract.Monad.{fact_use}
use denote.RattleType.{Valss}
use denote.RawPtr.{Ptr, RawPtr, ptr_val, block_ptr, null_ptr, in_a_block, Testable}
use denote.Memory.{lone}
use Rattle.core.specs.Ptr.{points_to}
use denote.Steps.{nothing}
use denote.Struct.Struct.{within}
use denote.Struct.Owning.{shape}
use Rattle.std.specs.declared.option.Option.{Option}
use Rattle.std.specs.declared.option.Option.TheVariants.{None, Some}
use Rattle.std_heap.specs.contracts.GlobalAllocator.TheImpl.{ghosts}
use Rattle.std.proofs.GlobalToken.{dealloc_token-Testable}
use Rattle.dmr_station.specs.Station.{State}
use Rattle.dmr_station.specs.contracts.station.Station.{the_row}
use Rattle.std.specs.Global.{Global}
use Rattle.dmr_c.specs.Handle.{handle_owns, heap}
use Rattle.dmr_c.specs.contracts.handle.StationHandle as handle

-- the value of a struct that holds one pointer
abbrev pub one : Ptr → Val
one p = vstruct (vcons (ptr_val p) vnil)

module _ {M : Type 1} {𝓤 : Ura M} {𝓛 : Logic 𝓤} {K : Type 0} {Γ : List (Item 𝓤)} {G : Goal 𝓤 𝓛.H} where
  pub handle_out : K → (d : handle.the_row.Denot) (vs : List Val)
      → (vs ≡ one d.at ∷ [] → Seq K 𝓛 (‵ (handle_owns d.at d.held) ∷ Γ) G)
      → Seq K 𝓛 (‵ (handle.the_row.own_val d vs) ∷ Γ) G
  handle_out t d vs k =
      fsplit t $ fpick t (λ vss. fsplit t $ feq_l t (λ ev. fsplit t $ feq_l t (λ ep. drop t $ k
      (subst (λ (ps : List Val). vs ≡ vstruct (of_list (ps ++ [])) ∷ []) ep ev))))

  pub handle_in : K → (p : Ptr) (x : Option State)
      → Step K 𝓛 (‵ (handle.the_row.own_val (record { at = p; held = x }) (one p ∷ [])) ∷ Γ) G (‵ (handle_owns p x) ∷ Γ) G
  handle_in t p x = step (λ s.
      nothing t $ feq_i t (List Val) (ptr_val p ∷ []) (ptr_val p ∷ []) refl $ fjoin t $
      feq_i t (List Val) (one p ∷ []) (one p ∷ []) refl $ fjoin t $
      fpack t (Valss (RawPtr ∷ [])) (within (shape handle.the_type) (p, tt) (one p ∷ [])) (ptr_val p ∷ [], tt) $ fjoin t $ s)

module _ {M : Type 1} {𝓤 : Ura M} (𝓛 : Logic 𝓤) (a : Global) where
  abbrev freed : Ptr → Fml
  freed = ghosts.dealloc_token heap (bare (lone the_row.mir))

  -- What owns a station may be tested for null.
  tested : (p : Ptr) (x : State)
      → ent 𝓤 (sem 𝓛 (handle_owns p (Some x))) (guard 𝓤 (Testable p) (sem 𝓛 (handle_owns p (Some x))))
  tested p x =
      fact_use 𝓤 (Testable p)
      (via 𝓤 _ (snd∗ 𝓤 (sem 𝓛 (points_to the_row p x)) (sem 𝓛 (freed p)))
      (dealloc_token-Testable 𝓛 a (bare (lone the_row.mir)) p))
      (guard_i 𝓤 (Testable p) (sem 𝓛 (handle_owns p (Some x))))

module _ {M : Type 1} {𝓤 : Ura M} {𝓛 : Logic 𝓤} {K : Type 0} {Γ : List (Item 𝓤)} {G : Goal 𝓤 𝓛.H} where
  -- Either the pointer is null and nothing is held, or a station is held in a block that may be tested.
  pub held_either : K → (a : Global) (p : Ptr) (x : Option State)
      → (p ≡ null_ptr → x ≡ None → Seq K 𝓛 Γ G)
      → ((b o : ℕ) (y : State) → p ≡ block_ptr b o → x ≡ Some y → Testable (block_ptr b o)
      → Seq K 𝓛 (‵ (handle_owns (block_ptr b o) (Some y)) ∷ Γ) G)
      → Seq K 𝓛 (‵ (handle_owns p x) ∷ Γ) G
  held_either t a p None none some = feq_l t (λ e. none e refl)
  held_either t a p (Some y) none some =
      in_a_block t p (λ q. handle_owns q (Some y)) (fst∗ 𝓤 (never 𝓤) (sem 𝓛 (freed 𝓛 a null_ptr))) (λ b o e.
      use1 𝓛 (given (Testable (block_ptr b o)) (‵ (handle_owns (block_ptr b o) (Some y)))) (tested 𝓛 a (block_ptr b o) y) $
      learn t (λ u. some b o y e refl u))
