use Rattle.std.proofs.Common.{ℕ, List, refl, sym, subst, arith}
use Rattle.std.proofs.lemmas.List.{drop_more, drop_all}
use Rattle.dmr_watch.specs.Ears.{Listens}
use Rattle.dmr_watch.specs.declared.ear.Ear.{Ear}
use Rattle.dmr_watch.proofs.ear.Ear.hear.Goals as goal

pub loop-octet-preserved : goal.loop-octet-preserved
loop-octet-preserved c after rest =
    let octets : List ℕ = c.args.octets.now in
    c.loop-octet.invariant after
    (subst (λ (xs : List ℕ). Listens c.loop-octet.self xs after) (sym (drop_more octets c.loop-octet.octet-index 0 (omega arith)))
    (c.hear_octet.new.self, c.hear_octet.ensures.heard, rest))

pub returns : goal.returns
returns c =
    let ear : Ear = c.loop-octet.self in
    record {
      heard = c.loop-octet.invariant ear
          (subst (λ (xs : List ℕ). Listens ear xs ear) (sym (drop_all c.loop-octet.octet-index c.args.octets.now (omega arith)))
          refl);
    }
