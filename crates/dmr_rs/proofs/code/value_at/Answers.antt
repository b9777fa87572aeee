use Rattle.std.proofs.Common.{ℕ, ◌+◌, List, sym, ◌∙◌, ap, arith, drop, fold}
use Rattle.std.specs.Prelude.{bit_xor}
use Rattle.std.proofs.lemmas.List.{drop_more, drop_all}
use Rattle.dmr_rs.specs.Field.{times}
use Rattle.dmr_rs.specs.Word.{value_at}
use Rattle.dmr_rs.proofs.code.value_at.Goals as goal

pub loop-octet-preserved : goal.loop-octet-preserved
loop-octet-preserved c =
    let x : ℕ = c.args.x in
    let i : ℕ = c.loop-octet.octet-index in
    let octets : List ℕ = c.args.octets.now in
    let rest : List ℕ = drop (i + 1) octets in
    let step : ℕ → ℕ → ℕ = λ sum octet. bit_xor (times x sum) octet in
    ap (λ n. fold step n rest)
    (c.add-sum.ensures.value ∙ ap (λ n. bit_xor n c.from.result) c.mul.ensures.value ∙ ap (bit_xor (times x c.loop-octet.sum))
    c.from.ensures)
    ∙ ap (fold step c.loop-octet.sum) (sym (drop_more octets i 0 (omega arith)))
    ∙ c.loop-octet.invariant

pub returns : goal.returns
unfolding value_at
returns c = record {
  value = ap (fold (λ sum octet. bit_xor (times c.args.x sum) octet) c.loop-octet.sum)
      (sym (drop_all c.loop-octet.octet-index c.args.octets.now (omega arith)))
      ∙ c.loop-octet.invariant;
}
