use Rattle.std.proofs.Common.{◌↔◌, IsTrue, Contains, nat_eq, refl, sym, ap, ◌∙◌, subst, [], map}
use Rattle.std.specs.Cmp.{unsigned_Decides}
use Rattle.std.specs.Option.{option_map, unwrap_or}
use Rattle.std.proofs.lemmas.Slice.Eq.{slice_eq-Decides}
use Rattle.clap.proofs.WalkLemmas.{list_any-map}
use Rattle.dmr_options.proofs.Among.{found_among}
use Rattle.dmr_options.proofs.found.is_text_of.Goals as goal
use lib.Pointwise.{pointwise}

pub returns-in-Some : goal.returns-in-Some
returns-in-Some c =
    let texts = map (λ v. v.now) c.in-Some.texts.now in
    let given = ap (λ o. unwrap_or o []) (sym c.get_strs.ensures ∙ ap (option_map (λ s. map (λ v. v.now) s.now)) c.in-Some.is) in
    let found = found_among (pointwise nat_eq) (λ a b. slice_eq-Decides unsigned_Decides a b _ refl) texts c.args.text.now in
    let value = c.contains.ensures.value
    ∙ list_any-map (λ y. pointwise nat_eq y c.args.text.now) (λ v. v.now) c.in-Some.texts.now in
    record {
      given = subst (λ ts. IsTrue c.contains.result ↔ Contains ts c.args.text.now) (sym given)
          ((λ t. found.0 (sym value ∙ t)), λ h. value ∙ found.1 h);
    }
