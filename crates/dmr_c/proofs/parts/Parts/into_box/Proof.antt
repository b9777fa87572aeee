-- `into_box` hands what the parts own to std, which makes the box.
use mathlib.Core.Path.{◌≡◌, refl, sym, subst, ap}
use mathlib.Core.List.{List, [], ◌∷◌, ◌++◌}
use seplogic.Ra.Ura.{Ura}
use mir.Syntax.{Fn}
use mir.MapTy.{inst_fn}
use lib.Dec.{T}
use mir.Val.{Val, has_ty, WT}
use base.Logic.{SProp, ent}
use base.Fml.{ftrue, fsep}
use prog.Memory.{Memory}
use prog.Routine.{Routine}
use prog.Wp.{WpFn, Tables}
use types.Logic.{Logic}
use contract.Monad.{Fun}
use contract.Running.{tables, tables_of}
use sound.WpLaws.{fm_of, WpFn-mono}
use types.Kit.{at_ret, ‵, raw, ◌⊛◌, later, prop, ◌$◌, ◌∵◌, !, qed, move, keep, use1, group, join}
use types.Kit.{split, pick, rewrite, fsplit, fjoin, regoal, suffices, await, done}
use types.Part.{whole, sub}
use types.Run.{stop, fld, no_more, and_then, of_opd, returns, enter, first, blocks, exec}
use types.ByLocal.{alloc_all, pass_all, free_all, look_at, get, get_in, sets, lands_last, env}
use denote.RattleType.{RattleType}
use denote.Exit.{no}
use denote.Signature.{plain}
use denote.Steps.{heard, nothing, only}
use denote.Triple.Call.{calls_at_last}
use denote.Triple.Clauses.{Ended, Clauses}
use denote.Triple.Spec.{triple_of}
use denote.Triple.Statement.{Contract, Triple}
use denote.Triple.Table.{entered}
use denote.Triple.Walked.{says, Stays, stay_dropped, walk_of, ends_at, walk_Meets}
use Rattle.core.proofs.alloc.Calls.{Goes-blank}
use Rattle.std_alloc.proofs.VecSteps.Shapes.{after}
use Rattle.std_alloc.proofs.BoxSteps.Form.{Bx, D, R, P, B, args, box_ty, word, box_typed}
use Rattle.std_alloc.proofs.BoxSteps.Steps.{box_out, box_in}
use Rattle.std_alloc.proofs.boxed.Box.from_raw.Symbol as shuts
use Rattle.std_alloc.proofs.boxed.Box.from_raw.Met as shuts_met
use Rattle.dmr_c.specs.contracts.parts.Parts as parts
use Rattle.dmr_c.proofs.Boxes.{Tokens, Lives, Holds, Shuts, at_shut, hands_parts, shut}
use Rattle.dmr_c.specs.contracts.parts.Parts.into_box as f
use Rattle.dmr_c.specs.contracts.parts.Parts.into_box.Key.{name as own_name}
use Rattle.dmr_c.proofs.parts.Parts.into_box.Statement as stated
use Rattle.dmr_c.proofs.parts.Parts.into_box.Code as code

module _ (E : Bx) where
  abbrev self : Fn
  self = inst_fn (args E) code.function

  abbrev ended : Ended
  ended = f.ended E.row E.al.row E.al.g E.al.d E.al.drops

  abbrev Taken : RattleType
  Taken = parts.the_row (R E) (P E) E.al.g

  abbrev stayed : Stays ended.signature.params ended.kept
  stayed = (stay_dropped (plain (λ _. Taken)) no, tt)

  module _ {M : Type 1} {𝓤 : Ura M} (𝓛 : Logic 𝓤) (at_mem : Memory → SProp 𝓤) (run : Routine → Fun 𝓤) (𝓣 : Tables 𝓤 𝓛.H) where
    open 𝓛 use {H}

    abbrev clauses : Clauses 𝓤 ended
    clauses = f.clauses E.row E.al.row E.al.g E.al.d E.al.drops 𝓛 at_mem run

    abbrev Walk : Contract 𝓤
    Walk = walk_of 𝓛 ended stayed clauses

    walk : Triple 𝓤 (𝓣.C (shuts.name (args E))) (Shuts E 𝓛 at_mem run) → (z : (Walk).Ghost)
        → ent 𝓤 ((Walk).pre z) (WpFn 𝓤 H 𝓣.C 𝓣.Λ self (z.0.4.0 ++ []) ((Walk).post z))
    walk met z =
        let κs = z.0.0 in let qs = z.0.1 in let Post = (Walk).post z in
        let d : D E = record { ptr = z.0.3.0.ptr; alloc = z.0.3.0.alloc; value = z.0.3.0.value } in
        qed 𝓛 ((Tokens E 𝓛 κs qs ⊛ ‵ (fsep ((B E).own_val d z.0.4.0) ftrue)) ∷ Lives E 𝓛 κs ∷ []) ∵
        split ! $ move ! (1 ∷ []) $ fsplit ! $
        box_out E ! d z.0.4.0 (λ b o hv at_b is_word fits. fjoin ! $ join ! $ keep ! (0 ∷ 2 ∷ 3 ∷ []) $
        regoal ! (λ (us : List Val). prop (WpFn 𝓤 H 𝓣.C 𝓣.Λ self (us ++ []) Post)) is_word refl $
        let y = at_shut E 𝓛 at_mem run κs qs d.alloc d.value b o hv in
        enter ! 𝓣.C 𝓣.Λ self (word E hv b o ∷ []) Post $ alloc_all ! (λ l. pass_all ! refl (box_typed E hv b o fits, tt) $
        sets ! (of_opd ! (get_in ! (fld ! refl (stop !)) (sub ! 0 refl (whole !)))) refl (tt, tt) $
        sets ! (of_opd ! (get_in ! (fld ! refl (stop !)) (sub ! 1 refl (whole !)))) refl fits $
        first ! $ blocks ! $ sets ! (of_opd ! (get ! refl)) refl fits $
        group ! 3 $ use1 𝓛 (raw ((Shuts E 𝓛 at_mem run).pre y)) (hands_parts E 𝓛 at_mem run κs qs d.alloc d.value b o hv) $
        calls_at_last ! (fm_of 𝓤 H 𝓛.laws 𝓣) (Shuts E 𝓛 at_mem run) met y
        (and_then ! (get ! refl) (and_then ! (get ! refl) (no_more !))) (λ u.
        use1 𝓛 (later (Holds E 𝓛 d.value u ⊛ Tokens E 𝓛 κs qs)) (shut E 𝓛 at_mem run κs qs d.alloc d.value b o hv u) $
        await ! tt $ split ! $ pick ! (λ e. split ! $ move ! (1 ∷ []) $ heard ! (e.value ≡ d.value) (λ same.
        box_out E ! e (u ∷ []) (λ b' o' hw at_b' is_box fits'. box_in E ! e b' o' e.value at_b' refl $
        rewrite ! 0 (λ (us : List Val). ‵ ((B E).own_val e us)) (sym is_box) refl $
        let typed : T (has_ty (box_ty E) u) × WT u =
        subst (λ (v : Val). T (has_ty (box_ty E) v) × WT v) (sym (ap only is_box)) (box_typed E hw b' o' fits') in
        lands_last ! refl typed $
        exec ! 𝓣.C 𝓣.Λ (env self.locals l) (after 3 self.body) (at_ret (env self.locals l) Post) $
        sets ! (of_opd ! (get ! refl)) refl typed $ returns ! (look_at ! 0 refl) $ free_all ! refl $
        suffices ! _ (ends_at 𝓛 ended stayed clauses z u e ((tt, (tt, tt)), tt) (tt, tt)) $ says ! same $
        nothing ! $ nothing ! $ fjoin ! $ join ! $ move ! (1 ∷ 0 ∷ []) $ join ! $ done !))))))

pub into_box_spec : {M : Type 1} → stated.statement M
unfolding tables_of
into_box_spec 𝓤 𝓛 𝓜 𝓡 wired X A lawful_X lawful_A g d dd allocator met =
    let E : Bx = record { row = X; laws = lawful_X; al = record { row = A; laws = lawful_A; g = g; d = d; drops = dd } } in
    let 𝓣 : Tables 𝓤 𝓛.H = tables_of 𝓤 𝓛.H 𝓜 (tables 𝓤 𝓛.H 𝓜 𝓡 𝓡.env) in
    let c = clauses E 𝓛 𝓜.mem 𝓡.returns 𝓣 in
    let calls = code.calls-std_alloc::boxed::Box::from_raw 𝓡.env wired in
    let shuts_as_said = shuts_met.met 𝓤 𝓛 𝓜 𝓡 calls X A lawful_X lawful_A g d dd allocator met in
    let asked = triple_of 𝓛 (ended E).signature (f.spec X A g d dd 𝓛 𝓜.mem 𝓡.returns) in
    entered 𝓤 𝓛.H asked 𝓣.C 𝓣.Λ (own_name (args E)) (self E)
    (code.unfolded 𝓤 𝓛.H 𝓜 𝓡 wired (X, (A, tt)) d dd)
    (walk_Meets 𝓛 (ended E) (stayed E) (Goes-blank 𝓛 2 (plain (λ _. Taken E)) no (λ κs x w. tt), tt) c
    (WpFn 𝓤 𝓛.H 𝓣.C 𝓣.Λ (self E)) (WpFn-mono 𝓤 𝓛.H 𝓛.laws 𝓣 (self E)) (walk E 𝓛 𝓜.mem 𝓡.returns 𝓣 shuts_as_said))
