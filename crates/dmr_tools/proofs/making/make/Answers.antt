use Rattle.std.proofs.Common.{◌≡◌, ℕ, Bool, true, false, List, All, Option, Some, None, Result, Ok, Err, IfOk, IfSome, OnOk}
use Rattle.std.proofs.Common.{is_some, refl, subst}
use Rattle.dmr_planning.specs.Plans.{IsPlanOf}
use Rattle.dmr_planning.specs.declared.plan.Made.{Made}
use Rattle.dmr_planning.specs.declared.plan.Plan.{Plan}
use Rattle.dmr_script.specs.Fits.{FitsNumbered}
use Rattle.dmr_script.specs.Order.{MayStandBehind, said_nothing}
use Rattle.dmr_script.specs.Reading.{IsScriptRead, IsWholeScript}
use Rattle.dmr_script.specs.declared.fault.RefusedLine.{RefusedLine}
use Rattle.dmr_script.specs.declared.script.Script.{Script}
use Rattle.dmr_script.specs.declared.statement.NumberedStatement.{NumberedStatement}
use Rattle.dmr_tools.specs.Made.{HasListOf, HasRecordingOf, IsSomeMaking}
use Rattle.dmr_tools.proofs.making.make.Goals as goal

-- a script of which no line is refused is a whole one
whole : (refused : Option RefusedLine) (failed : Bool) (left left' : Option (List ℕ)) (ss : List NumberedStatement)
    → refused ≡ None → IsScriptRead refused ss failed left left' → IsScriptRead None ss false left left'
whole refused failed left left' ss none read =
    let all : IsWholeScript failed left left' ss =
    subst (λ (r : Option RefusedLine). IsScriptRead r ss failed left left') none read in
    record { end = all.end; said = all.said; done = all.done; well = refl }

-- where there is a place for a list, there is a list
listed : {F : Type 0} (outgoing : Option F) (held : F → Option (List ℕ)) (plan : Plan) (taken : Bool) → is_some outgoing ≡ taken
    → IfSome outgoing (λ file. HasListOf plan (held file)) → taken ≡ true → (old : Option (List ℕ)) × HasListOf plan old
listed None held plan taken e l t = absurd (cc)
listed (Some file) held plan taken e l t = (held file, l)

-- all that is known of what was made
some_making : (taken : Bool) (script : Script) (plan : Plan) (made : Made) (failed : Bool) (left left' uplink : Option (List ℕ))
    → IsScriptRead script.refused script.statements.items failed left left' → All FitsNumbered script.statements.items
    → MayStandBehind said_nothing script.statements.items → IsPlanOf script taken plan → HasRecordingOf plan made uplink
    → (taken ≡ true → (old : Option (List ℕ)) × HasListOf plan old) → IsSomeMaking taken made
some_making taken script plan made failed left left' uplink read fit follow planned recording list = record {
  plan = plan;
  left_old = left;
  left_new = left';
  of_text = record {
    script = script;
    read = whole script.refused failed left left' script.statements.items planned.read read;
    fit = fit;
    follow = follow;
    planned = planned;
  };
  uplink = uplink;
  recording = recording;
  list = list;
}

-- what follows where both hold of an Ok
at_ok : {X E : Type 0} (r : Result X E) (P Q : X → Type 0) (A : Type 0) → IfOk r P → OnOk r A → ((x : X) → P x → A → Q x)
    → IfOk r Q
at_ok (Ok x) P Q A p a f = f x p a
at_ok (Err e) P Q A p a f = tt

pub returns : goal.returns
returns g c =
    let script : Script = c.in-Ok.script in
    let plan : Plan = c.in_ok-plan.plan in
    let taken : Bool = is_some c.args.places.now.outgoing in
    let planned : IsPlanOf script taken plan =
    subst (λ (t : Bool). IsPlanOf script t plan) c.is_some.ensures c.in_ok-plan.ensures.planned in
    record {
      made = at_ok c.write_files.result _ (λ (made : Made). IsSomeMaking taken made) _ c.write_files.ensures.recording
          c.write_files.ensures.list (λ made recording list.
          some_making taken script plan made _ _ _ _ c.in-Ok.ensures.read c.in-Ok.ensures.fit c.in-Ok.ensures.follow planned
          recording (listed c.in_ok-files.files.outgoing _ plan taken c.in_ok-files.ensures.given list));
    }
