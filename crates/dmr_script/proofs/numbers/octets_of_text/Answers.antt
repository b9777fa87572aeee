use Rattle.std.proofs.Common.{◌<◌, All, arith, subst, sym}
use Rattle.std.proofs.lemmas.List.Elements.{All-from_get_or}
use Rattle.dmr_script.proofs.numbers.octets_of_text.Goals as goal

pub returns : goal.returns
returns c =
    let all : All (λ octet. octet < 256) c.args.text.now =
    All-from_get_or (λ octet. octet < 256) c.args.text.now 0 (λ k h. let fits = c.type_inv.text k in omega (arith, fits)) in
    record {
      small = subst (All (λ octet. octet < 256)) (sym (c.in_ok-octets.ensures.items_if_clones_equal (λ x y same. same))) all;
    }
