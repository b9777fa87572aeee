-- `of` has std take the box apart, and puts what is answered into the parts, which own it then.
use mathlib.Core.Path.{◌≡◌, refl, ap}
use mathlib.Core.List.{List, [], ◌∷◌, ◌++◌}
use seplogic.Ra.Ura.{Ura}
use mir.Syntax.{Fn, Args, Dict, a_type, dcons, dnil}
use mir.MapTy.{inst_fn}
use mir.Val.{Val}
use base.Logic.{SProp, ent, id⊢}
use base.Fml.{ftrue, fsep}
use prog.Memory.{Memory}
use prog.Routine.{Routine}
use prog.Wp.{WpFn, Tables}
use types.Logic.{Logic}
use contract.Monad.{Fun}
use contract.Running.{tables, tables_of}
use sound.WpLaws.{fm_of, WpFn-mono}
use types.Kit.{‵, raw, ◌⊛◌, later, prop, ◌$◌, ◌∵◌, !, qed, move, keep, use1, group, join}
use types.Kit.{split, pick, fsplit, fjoin, regoal, suffices, await, done}
use types.Part.{whole, sub, agg}
use types.Run.{stop, fld, no_more, and_then, of_opd, returns, enter}
use types.ByLocal.{alloc_all, pass_all, free_all, look_at, get, get_in, sets, lands_as}
use denote.RattleType.{RattleType}
use denote.Exit.{no}
use denote.Param.{bounded}
use denote.Signature.{plain}
use denote.Steps.{heard, nothing, only}
use denote.Triple.Call.{calls_at}
use denote.Triple.Clauses.{Ended, Clauses}
use denote.Triple.Spec.{triple_of}
use denote.Triple.Statement.{Contract, Triple}
use denote.Triple.Table.{entered}
use denote.Triple.Walked.{says, Stays, stay_dropped, walk_of, ends_at, walk_Meets}
use Rattle.core.proofs.alloc.Calls.{Goes-blank}
use Rattle.std_alloc.proofs.BoxSteps.Form.{Bx, R, P, B, word, box_typed}
use Rattle.std_alloc.proofs.BoxSteps.Steps.{box_out, box_in}
use Rattle.std_alloc.proofs.boxed.Box.into_raw_with_allocator.Symbol as opens
use Rattle.std_alloc.proofs.boxed.Box.into_raw_with_allocator.Met as opens_met
use Rattle.dmr_c.specs.contracts.parts.Parts as parts
use Rattle.dmr_c.proofs.Boxes.{Tokens, Lives, Holds, Opens, at_open, hands_box, opened}
use Rattle.dmr_c.specs.contracts.parts.Parts.of as f
use Rattle.dmr_c.specs.contracts.parts.Parts.of.Key.{name as own_name}
use Rattle.dmr_c.proofs.parts.Parts.of.Statement as stated
use Rattle.dmr_c.proofs.parts.Parts.of.Code as code

module _ (E : Bx) (dx : Dict) where
  abbrev args : Args
  args = bounded (a_type ∷ a_type ∷ []) (E.row, (E.al.row, tt)) (dcons E.al.d (dcons E.al.drops (dcons dx dnil)))

  abbrev self : Fn
  self = inst_fn args code.function

  abbrev ended : Ended
  ended = f.ended E.row E.al.row E.al.g E.al.d E.al.drops dx

  abbrev stayed : Stays ended.signature.params ended.kept
  stayed = (stay_dropped (plain (λ _. B E)) no, tt)

  abbrev Made : RattleType
  Made = parts.the_row (R E) (P E) E.al.g

  module _ {M : Type 1} {𝓤 : Ura M} (𝓛 : Logic 𝓤) (at_mem : Memory → SProp 𝓤) (run : Routine → Fun 𝓤) (𝓣 : Tables 𝓤 𝓛.H) where
    open 𝓛 use {H}

    abbrev clauses : Clauses 𝓤 ended
    clauses = f.clauses E.row E.al.row E.al.g E.al.d E.al.drops dx 𝓛 at_mem run

    abbrev Walk : Contract 𝓤
    Walk = walk_of 𝓛 ended stayed clauses

    walk : Triple 𝓤 (𝓣.C (opens.name args)) (Opens E 𝓛 at_mem run dx) → (z : (Walk).Ghost)
        → ent 𝓤 ((Walk).pre z) (WpFn 𝓤 H 𝓣.C 𝓣.Λ self (z.0.4.0 ++ []) ((Walk).post z))
    walk met z =
        let κs = z.0.0 in let qs = z.0.1 in let d = z.0.3.0 in let Post = (Walk).post z in
        qed 𝓛 ((Tokens E 𝓛 κs qs ⊛ ‵ (fsep ((B E).own_val d z.0.4.0) ftrue)) ∷ Lives E 𝓛 κs ∷ []) ∵
        split ! $ move ! (1 ∷ []) $ fsplit ! $
        box_out E ! d z.0.4.0 (λ b o hv at_b is_word fits. box_in E ! d b o d.value at_b refl $
        keep ! (0 ∷ 2 ∷ 3 ∷ []) $
        regoal ! (λ (us : List Val). prop (WpFn 𝓤 H 𝓣.C 𝓣.Λ self (us ++ []) Post)) is_word refl $
        let w : Val = word E hv b o in let y = at_open E 𝓛 at_mem run dx κs qs d w in
        enter ! 𝓣.C 𝓣.Λ self (w ∷ []) Post $ alloc_all ! (λ l. pass_all ! refl (box_typed E hv b o fits, tt) $
        sets ! (of_opd ! (get ! refl)) refl (box_typed E hv b o fits) $
        group ! 3 $ use1 𝓛 (raw ((Opens E 𝓛 at_mem run dx).pre y)) (hands_box E 𝓛 at_mem run dx κs qs d w) $
        calls_at ! (fm_of 𝓤 H 𝓛.laws 𝓣) (Opens E 𝓛 at_mem run dx) met y (and_then ! (get ! refl) (no_more !)) (λ u.
        use1 𝓛 (later (Holds E 𝓛 d.value u ⊛ Tokens E 𝓛 κs qs)) (opened E 𝓛 at_mem run dx κs qs d w u) $
        await ! tt $ split ! $ pick ! (λ e. split ! $ move ! (1 ∷ []) $ heard ! (e.value ≡ d.value) (λ same.
        box_out E ! e (u ∷ []) (λ b' o' hw at_b' is_pair fits'. box_in E ! e b' o' e.value at_b' refl $
        let v : Val = word E hw b' o' in let made : Made.Denot = record { ptr = e.ptr; alloc = e.alloc; value = e.value } in
        lands_as ! (ap only is_pair) refl (box_typed E hw b' o' fits') $
        sets ! (of_opd ! (get_in ! (fld ! refl (stop !)) (sub ! 0 refl (whole !)))) refl (tt, tt) $
        sets ! (of_opd ! (get_in ! (fld ! refl (stop !)) (sub ! 1 refl (whole !)))) refl fits' $
        sets ! (of_opd ! (get ! refl)) refl fits' $
        sets ! (agg ! (and_then ! (get ! refl) (and_then ! (get ! refl) (no_more !)))) refl (box_typed E hw b' o' fits') $
        returns ! (look_at ! 0 refl) $ free_all ! refl $
        use1 𝓛 (‵ (Made.own_val made (v ∷ []))) (id⊢ 𝓤 _) $
        suffices ! _ (ends_at 𝓛 ended stayed clauses z v made ((tt, (tt, tt)), tt) (tt, tt)) $ says ! same $
        nothing ! $ nothing ! $ fjoin ! $ join ! $ move ! (1 ∷ 0 ∷ []) $ join ! $ done !))))))

pub of_spec : {M : Type 1} → stated.statement M
unfolding tables_of
of_spec 𝓤 𝓛 𝓜 𝓡 wired X A lawful_X lawful_A g d dd dx allocator met met_X =
    let E : Bx = record { row = X; laws = lawful_X; al = record { row = A; laws = lawful_A; g = g; d = d; drops = dd } } in
    let 𝓣 : Tables 𝓤 𝓛.H = tables_of 𝓤 𝓛.H 𝓜 (tables 𝓤 𝓛.H 𝓜 𝓡 𝓡.env) in
    let c = clauses E dx 𝓛 𝓜.mem 𝓡.returns 𝓣 in
    let calls = code.calls-std_alloc::boxed::Box::into_raw_with_allocator 𝓡.env wired in
    let opens_as_said = opens_met.met 𝓤 𝓛 𝓜 𝓡 calls X A lawful_X lawful_A g d dd dx allocator met met_X in
    let asked = triple_of 𝓛 (ended E dx).signature (f.spec X A g d dd dx 𝓛 𝓜.mem 𝓡.returns) in
    entered 𝓤 𝓛.H asked 𝓣.C 𝓣.Λ (own_name (args E dx)) (self E dx)
    (code.unfolded 𝓤 𝓛.H 𝓜 𝓡 wired (X, (A, tt)) d dd dx)
    (walk_Meets 𝓛 (ended E dx) (stayed E dx) (Goes-blank 𝓛 2 (plain (λ _. B E)) no (λ κs x w. tt), tt) c
    (WpFn 𝓤 𝓛.H 𝓣.C 𝓣.Λ (self E dx)) (WpFn-mono 𝓤 𝓛.H 𝓛.laws 𝓣 (self E dx)) (walk E dx 𝓛 𝓜.mem 𝓡.returns 𝓣 opens_as_said))
