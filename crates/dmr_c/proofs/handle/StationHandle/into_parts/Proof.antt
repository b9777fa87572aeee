-- `into_parts` reads the pointer: nothing lies at null, and elsewhere the box's parts.
use Rattle.std.proofs.Common.{List, [], ◌∷◌, ◌++◌, refl, sym, lit<}
use mir.Raw.{raw as bare}
use mir.Val.{Val, vcons, vnil}
use base.Fraction.{full_share}
use base.Logic.{SProp, ent, emp, id⊢}
use base.Fml.{ftrue, fsep}
use seplogic.Ra.Ura.{Ura}
use prog.Memory.{Memory}
use prog.Routine.{Routine}
use prog.Wp.{WpFn, Tables}
use types.Logic.{Logic}
use contract.Monad.{Fun}
use contract.Running.{tables, tables_of}
use sound.WpLaws.{WpFn-mono}
use types.Kit.{‵, raw, ◌⊛◌, at_ret, prop, ◌$◌, ◌∵◌, !, qed, move, keep, drop, join, split, fsplit, fjoin, regoal, suffices}
use types.Kit.{use0, use1, done}
use types.Run.{stop, fld, lit, of_opd, bin, no_more, and_then, first, branches, exec, returns, enter}
use types.ByLocal.{alloc_all, pass_all, free_all, look_at, get, get_in, sets, sets_last, env}
use types.Part.{agg, sub, whole}
use types.Match.{live}
use denote.Exit.{yes}
use denote.Memory.{part_at}
use denote.Param.{layout}
use denote.RawPtr.{Ptr, block_ptr, null_ptr, tests_null}
use denote.Signature.{type_at}
use denote.Steps.{nothing}
use denote.Triple.Spec.{triple_of}
use denote.Triple.Statement.{Contract}
use denote.Triple.Table.{entered}
use denote.Triple.Walked.{says, Stays, stay_dropped, walk_of, ends_at, Goes-dropped, walk_Meets}
use Rattle.core.proofs.alloc.Calls.{handle_tells, token}
use Rattle.core.proofs.cell.Inside.{Good}
use Rattle.core.proofs.option.Made.{Some-of, none_of}
use Rattle.std.specs.declared.option.Option.TheVariants.{None, Some}
use Rattle.std_alloc.proofs.ResultValues.{and_tt}
use Rattle.std_alloc.proofs.BoxSteps.Form.{R, τ, word, box_typed}
use Rattle.std_alloc.proofs.BoxSteps.Steps.{box_in}
use Rattle.std_heap.specs.contracts.Global as Heap
use Rattle.dmr_c.proofs.AsBox.{E, Pr, FromHandle, FromHeap}
use Rattle.dmr_c.proofs.Words.{one, handle_out, held_either}
use Rattle.dmr_c.specs.contracts.handle.StationHandle as Handle
use Rattle.dmr_c.specs.contracts.handle.StationHandle.into_parts as f
use Rattle.dmr_c.specs.contracts.handle.StationHandle.into_parts.Key.{name as own_name}
use Rattle.dmr_c.proofs.handle.StationHandle.into_parts.Statement as stated
use Rattle.dmr_c.proofs.handle.StationHandle.into_parts.Code as code

abbrev stayed : Stays (f.ended).signature.params (f.ended).kept
stayed = (stay_dropped FromHandle yes, (stay_dropped FromHeap yes, tt))

module _ {M : Type 1} {𝓤 : Ura M} (𝓛 : Logic 𝓤) (at_mem : Memory → SProp 𝓤) (run : Routine → Fun 𝓤) (𝓣 : Tables 𝓤 𝓛.H) where
  open 𝓛 use {H}

  abbrev Walk : Contract 𝓤
  Walk = walk_of 𝓛 f.ended stayed (f.clauses 𝓛 at_mem run)

  walk : (z : (Walk).Ghost)
      → ent 𝓤 ((Walk).pre z) (WpFn 𝓤 H 𝓣.C 𝓣.Λ code.function (z.0.4.0 ++ (z.0.4.1.0 ++ [])) ((Walk).post z))
  walk z =
      let Post = (Walk).post z in let Out = type_at (f.signature).result tt in
      let Run : List Val → SProp 𝓤 = λ us. WpFn 𝓤 H 𝓣.C 𝓣.Λ code.function us Post in
      let d = z.0.3.0 in let a = z.0.3.1.0 in let vs = z.0.4.0 in let gs = z.0.4.1.0 in
      let passed = fsep ((Handle.the_row).own_val d vs) (fsep ((Heap.the_row).own_val a gs) ftrue) in
      let end = ends_at 𝓛 f.ended stayed (f.clauses 𝓛 at_mem run) z in
      qed 𝓛 ((‵ ftrue ⊛ ‵ passed) ∷ raw (emp 𝓤) ∷ []) ∵ split ! $ drop ! $ fsplit ! $
      handle_out ! d vs (λ is_handle. move ! (1 ∷ []) $ fsplit ! $
      handle_tells E.al ! a gs (λ h is_heap fits. move ! (2 ∷ 0 ∷ []) $ keep ! (0 ∷ 1 ∷ []) $
      regoal ! (λ (us : List Val). prop (Run (us ++ (gs ++ [])))) is_handle refl $
      regoal ! (λ (us : List Val). prop (Run (one d.at ∷ (us ++ [])))) is_heap refl $
      held_either ! a d.at d.held
      (λ null nothing_held. regoal ! (λ (p : Ptr). prop (Run (one p ∷ (h ∷ [])))) null refl $
      enter ! 𝓣.C 𝓣.Λ code.function (one null_ptr ∷ (h ∷ [])) Post $
      alloc_all ! (λ l. pass_all ! refl ((tt, (record { fits = lit< tt }, tt)), (fits, tt)) $
      let Ev = env code.Mir.locals l in
      sets ! (of_opd ! (get_in ! (fld ! refl (stop !)) (sub ! 0 refl (whole !)))) refl (tt, record { fits = lit< tt }) $
      sets ! (bin ! (get ! refl) (lit ! tt) tt) refl (tt, tt) $ first ! $ branches ! (get ! refl)
      (λ _. sets_last ! (agg ! (and_then ! (lit ! tt) (no_more !))) refl (tt, (record { fits = lit< tt }, tt)) $
      exec ! 𝓣.C 𝓣.Λ Ev code.Mir.t-4 (at_ret Ev Post) $
      sets ! (of_opd ! (get ! refl)) refl (tt, (record { fits = lit< tt }, tt)) $
      returns ! (look_at ! 0 refl) $ free_all ! refl $ drop ! $
      use0 𝓛 (‵ (Out.own_val None (live 0 vnil ∷ []))) (none_of 𝓛 Pr) $
      suffices ! _ (end (live 0 vnil) None (tt, (tt, tt)) (tt, (tt, tt))) $ says ! (sym nothing_held) $
      nothing ! $ nothing ! $ fjoin ! $ nothing ! $ fjoin ! $ join ! $ nothing ! $ join ! $ done !)
      (λ wrong. absurd wrong)))
      (λ b o y block box tested. regoal ! (λ (p : Ptr). prop (Run (one p ∷ (h ∷ [])))) block refl $
      let inner = word E h b o in let typed = box_typed E h b o fits in let v = live 1 (vcons inner vnil) in
      let made : Pr.Denot = record { ptr = block_ptr b o; alloc = a; value = y } in
      let good : Good (layout Out) v = (and_tt _ typed.0, (record { fits = lit< tt }, (typed.1, tt))) in
      use1 𝓛 (‵ (fsep (part_at (R E) full_share y b o) (token E.al a (bare (τ E)) (block_ptr b o)))) (id⊢ 𝓤 _) $ fsplit ! $
      box_in E ! {hv = h} (record { ptr = block_ptr b o; alloc = a; value = y }) b o y refl refl $
      use1 𝓛 (‵ (Pr.own_val made (inner ∷ []))) (id⊢ 𝓤 _) $
      use1 𝓛 (‵ (Out.own_val (Some made) (v ∷ []))) (Some-of 𝓛 Pr made inner) $
      enter ! 𝓣.C 𝓣.Λ code.function (one (block_ptr b o) ∷ (h ∷ [])) Post $
      alloc_all ! (λ l. pass_all ! refl ((tt, (tt, tt)), (fits, tt)) $
      let Ev = env code.Mir.locals l in
      sets ! (of_opd ! (get_in ! (fld ! refl (stop !)) (sub ! 0 refl (whole !)))) refl (tt, tt) $
      sets ! (bin ! (get ! refl) (lit ! tt) (tests_null (block_ptr b o) tested)) refl (tt, tt) $ first ! $ branches ! (get ! refl)
      (λ wrong. absurd wrong)
      (λ _. sets ! (of_opd ! (get ! refl)) refl (tt, tt) $
      sets ! (agg ! (and_then ! (get ! refl) (and_then ! (get ! refl) (no_more !)))) refl typed $
      sets_last ! (agg ! (and_then ! (lit ! tt) (and_then ! (get ! refl) (no_more !)))) refl good $
      exec ! 𝓣.C 𝓣.Λ Ev code.Mir.t-4 (at_ret Ev Post) $ sets ! (of_opd ! (get ! refl)) refl good $
      returns ! (look_at ! 0 refl) $ free_all ! refl $
      suffices ! _ (end v (Some made) (tt, (tt, tt)) (tt, (tt, tt))) $ says ! (sym box) $
      nothing ! $ nothing ! $ fjoin ! $ nothing ! $ fjoin ! $ join ! $ nothing ! $ join ! $ done !)))))

pub into_parts_spec : {M : Type 1} → stated.statement M
unfolding tables_of
into_parts_spec 𝓤 𝓛 𝓜 𝓡 wired =
    let 𝓣 : Tables 𝓤 𝓛.H = tables_of 𝓤 𝓛.H 𝓜 (tables 𝓤 𝓛.H 𝓜 𝓡 𝓡.env) in
    let goes = Goes-dropped 𝓛 0 FromHandle yes (λ κs x w. refl) in
    let heap_goes = Goes-dropped 𝓛 0 FromHeap yes (λ κs x w. refl) in
    entered 𝓤 𝓛.H (triple_of 𝓛 f.signature (f.spec 𝓛 𝓜.mem 𝓡.returns)) 𝓣.C 𝓣.Λ own_name code.function
    (code.unfolded 𝓤 𝓛.H 𝓜 𝓡 wired)
    (walk_Meets 𝓛 f.ended stayed (goes, (heap_goes, tt)) (f.clauses 𝓛 𝓜.mem 𝓡.returns) (WpFn 𝓤 𝓛.H 𝓣.C 𝓣.Λ code.function)
    (WpFn-mono 𝓤 𝓛.H 𝓛.laws 𝓣 code.function) (walk 𝓛 𝓜.mem 𝓡.returns 𝓣))
