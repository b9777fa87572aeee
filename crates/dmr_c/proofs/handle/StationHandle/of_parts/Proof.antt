-- `of_parts` moves the pointer, and what the parts own goes with it.
use Rattle.std.proofs.Common.{List, [], ◌∷◌, ◌++◌, refl}
use seplogic.Ra.Ura.{Ura}
use mir.Val.{Val}
use base.Logic.{SProp, ent, emp, id⊢}
use base.Fml.{ftrue, fsep}
use prog.Memory.{Memory}
use prog.Routine.{Routine}
use prog.Wp.{WpFn, Tables}
use types.Logic.{Logic}
use contract.Monad.{Fun}
use contract.Running.{tables, tables_of}
use sound.WpLaws.{WpFn-mono}
use types.Kit.{‵, raw, ◌⊛◌, prop, ◌$◌, ◌∵◌, !, qed, keep, drop, use1, join, split, fsplit, fjoin, regoal, suffices, done}
use types.Part.{whole, sub, agg}
use types.Run.{stop, fld, no_more, and_then, of_opd, returns, enter}
use types.ByLocal.{alloc_all, pass_all, free_all, look_at, get, get_in, sets}
use denote.Exit.{yes}
use denote.RawPtr.{block_ptr}
use denote.Signature.{type_at}
use denote.Steps.{nothing}
use denote.Triple.Spec.{triple_of}
use denote.Triple.Statement.{Contract}
use denote.Triple.Table.{entered}
use denote.Triple.Walked.{says, Stays, stay_dropped, walk_of, ends_at, Goes-dropped, walk_Meets}
use Rattle.std.specs.declared.option.Option.TheVariants.{Some}
use Rattle.std_alloc.proofs.BoxSteps.Form.{D, B, word, box_typed}
use Rattle.std_alloc.proofs.BoxSteps.Steps.{box_out}
use Rattle.dmr_c.specs.Handle.{handle_owns}
use Rattle.dmr_c.proofs.AsBox.{E, FromParts}
use Rattle.dmr_c.proofs.Words.{one, handle_in}
use Rattle.dmr_c.specs.contracts.handle.StationHandle.of_parts as f
use Rattle.dmr_c.specs.contracts.handle.StationHandle.of_parts.Key.{name as own_name}
use Rattle.dmr_c.proofs.handle.StationHandle.of_parts.Statement as stated
use Rattle.dmr_c.proofs.handle.StationHandle.of_parts.Code as code

abbrev stayed : Stays (f.ended).signature.params (f.ended).kept
stayed = (stay_dropped FromParts yes, tt)

module _ {M : Type 1} {𝓤 : Ura M} (𝓛 : Logic 𝓤) (at_mem : Memory → SProp 𝓤) (run : Routine → Fun 𝓤) (𝓣 : Tables 𝓤 𝓛.H) where
  open 𝓛 use {H}

  abbrev Walk : Contract 𝓤
  Walk = walk_of 𝓛 f.ended stayed (f.clauses 𝓛 at_mem run)

  walk : (z : (Walk).Ghost) → ent 𝓤 ((Walk).pre z) (WpFn 𝓤 H 𝓣.C 𝓣.Λ code.function (z.0.4.0 ++ []) ((Walk).post z))
  walk z =
      let Post = (Walk).post z in let To = type_at (f.signature).result tt in
      let v : D E = record { ptr = z.0.3.0.ptr; alloc = z.0.3.0.alloc; value = z.0.3.0.value } in
      qed 𝓛 ((‵ ftrue ⊛ ‵ (fsep ((B E).own_val v z.0.4.0) ftrue)) ∷ raw (emp 𝓤) ∷ []) ∵ split ! $ drop ! $ fsplit ! $
      box_out E ! v z.0.4.0 (λ b o hv at_b is_word fits. fjoin ! $
      use1 𝓛 (‵ (handle_owns (block_ptr b o) (Some v.value))) (id⊢ 𝓤 _) $ keep ! (0 ∷ []) $
      handle_in ! (block_ptr b o) (Some v.value) $
      regoal ! (λ (us : List Val). prop (WpFn 𝓤 H 𝓣.C 𝓣.Λ code.function (us ++ []) Post)) is_word refl $
      let made : To.Denot = record { at = block_ptr b o; held = Some v.value } in
      enter ! 𝓣.C 𝓣.Λ code.function (word E hv b o ∷ []) Post $ alloc_all ! (λ l. pass_all ! refl (box_typed E hv b o fits, tt) $
      sets ! (of_opd ! (get_in ! (fld ! refl (stop !)) (sub ! 0 refl (whole !)))) refl (tt, tt) $
      sets ! (of_opd ! (get ! refl)) refl (tt, tt) $
      sets ! (agg ! (and_then ! (get ! refl) (no_more !))) refl (tt, (tt, tt)) $ returns ! (look_at ! 0 refl) $ free_all ! refl $
      suffices ! _ (ends_at 𝓛 f.ended stayed (f.clauses 𝓛 at_mem run) z (one (block_ptr b o)) made (tt, tt) (tt, tt)) $
      says ! refl $ nothing ! $ nothing ! $ fjoin ! $ join ! $ nothing ! $ join ! $ done !))

pub of_parts_spec : {M : Type 1} → stated.statement M
unfolding tables_of
of_parts_spec 𝓤 𝓛 𝓜 𝓡 wired =
    let 𝓣 : Tables 𝓤 𝓛.H = tables_of 𝓤 𝓛.H 𝓜 (tables 𝓤 𝓛.H 𝓜 𝓡 𝓡.env) in
    let goes = Goes-dropped 𝓛 0 FromParts yes (λ κs x w. refl) in
    entered 𝓤 𝓛.H (triple_of 𝓛 f.signature (f.spec 𝓛 𝓜.mem 𝓡.returns)) 𝓣.C 𝓣.Λ own_name code.function
    (code.unfolded 𝓤 𝓛.H 𝓜 𝓡 wired)
    (walk_Meets 𝓛 f.ended stayed (goes, tt) (f.clauses 𝓛 𝓜.mem 𝓡.returns) (WpFn 𝓤 𝓛.H 𝓣.C 𝓣.Λ code.function)
    (WpFn-mono 𝓤 𝓛.H 𝓛.laws 𝓣 code.function) (walk 𝓛 𝓜.mem 𝓡.returns 𝓣))
