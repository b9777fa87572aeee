use Rattle.std.proofs.Common.{ℕ, ◌+◌, List, sym, ◌∙◌, ap, arith, drop}
use Rattle.std.proofs.lemmas.List.{at_drop_more, at_drop_all}
use Rattle.dmr_watch.specs.Reached.{reached_by}
use Rattle.dmr_watch.proofs.reached.Reached.by.Goals as goal

pub loop-octet-preserved : goal.loop-octet-preserved
loop-octet-preserved c =
    let i : ℕ = c.loop-octet.octet-index in
    let octets : List ℕ = c.args.octets.now in
    ap (λ r. reached_by c.args.format r (drop (i + 1) octets)) c.with-reached.ensures.value
    ∙ sym (at_drop_more (reached_by c.args.format c.loop-octet.reached) octets i 0 (omega arith))
    ∙ c.loop-octet.invariant

pub returns : goal.returns
returns c = record {
  value = sym (at_drop_all (reached_by c.args.format c.loop-octet.reached) c.args.octets.now c.loop-octet.octet-index
      (omega arith))
      ∙ c.loop-octet.invariant;
}
