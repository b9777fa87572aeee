use Rattle.std.proofs.Common.{◌≡◌, ℕ, ◌-◌, ◌<◌, List, length, sym, ◌∙◌, ap, arith, set, get_or, eqb-true, eq-eqb}
use Rattle.std.specs.Prelude.{bit_xor, Some}
use Rattle.std.specs.List.{All}
use Rattle.std.proofs.lemmas.List.{length-set}
use Rattle.std.proofs.lemmas.List.Elements.{All-from_get_or}
use Rattle.dmr_rs.specs.Field.{times_x}
use Rattle.dmr_rs.specs.Word.{IsRsWord, value_at}
use Rattle.dmr_rs.proofs.Correcting.{searched_none, searched_more, found, none_near}
use Rattle.dmr_rs.proofs.Near.{set_distance, one_within}
use Rattle.dmr_rs.proofs.Roots.{values}
use Rattle.dmr_rs.proofs.code.rs_correct.Goals.{else-eq-via-then-eq+else-eq-2, else-eq-via-else-eq}
use Rattle.dmr_rs.proofs.code.rs_correct.Goals as goal

pub loop-place-init : goal.loop-place-init
loop-place-init c =
    let octets : List ℕ = c.args.octets.now in
    let at = values octets in
    searched_none octets c.value_at-first.result c.value_at-second.result c.value_at-third.result
    (All-from_get_or (λ octet. octet < 256) octets 0 (λ i h. c.fits-octets i))
    (c.value_at-first.ensures.value ∙ ap (λ x. value_at x octets) c.from.ensures ∙ at.0)
    (c.value_at-second.ensures.value ∙ ap (λ x. value_at x octets) c.from-2.ensures ∙ at.1)
    (c.value_at-third.ensures.value ∙ ap (λ x. value_at x octets) c.from-3.ensures ∙ at.2)

pub loop-place-preserved : goal.loop-place-preserved
loop-place-preserved c =
    let differ : c.loop-place.first ≡ c.loop-place.second → c.loop-place.second ≡ c.loop-place.third → ⊥ =
    (λ p q. elim c.else-eq.branch [
      | else-eq-via-then-eq+else-eq-2 w ↦ (let e = w.eq-then-eq.ensures in let f = w.if-eq-2.false in let t = eq-eqb
          c.loop-place.second c.loop-place.third q in cc)
      | else-eq-via-else-eq w ↦ (let e = c.eq.ensures in let f = w.if-eq.false in let t = eq-eqb c.loop-place.first
          c.loop-place.second p in cc)
    ]) in
    searched_more c.args.octets.now c.loop-place.place c.loop-place.first c.loop-place.second c.loop-place.third
    c.over_x-first.result c.over_x-second.result c.over_x-third.result (omega arith) (omega arith) c.loop-place.invariant differ
    c.over_x-first.ensures.value
    (ap times_x c.over_x-second.ensures.value ∙ c.over_x.ensures.value)
    (ap (λ n. times_x (times_x n)) c.over_x-third.ensures.value ∙ ap times_x c.over_x-in-loop-place-2.ensures.value ∙
    c.over_x-in-loop-place.ensures.value)
    c.over_x-first.ensures.bound c.over_x-second.ensures.bound c.over_x-third.ensures.bound

pub returns-then-eq-2 : goal.returns-then-eq-2
returns-then-eq-2 c =
    let octets : List ℕ = c.args.octets.now in
    let place : ℕ = c.loop-place.place in
    let small : All (λ octet. octet < 256) octets = All-from_get_or (λ octet. octet < 256) octets 0 (λ i h. c.fits-octets i) in
    let p : c.loop-place.first ≡ c.loop-place.second = eqb-true c.loop-place.first c.loop-place.second (sym c.eq.ensures ∙
    c.if-eq.true) in
    let q : c.loop-place.second ≡ c.loop-place.third = eqb-true c.loop-place.second c.loop-place.third (sym c.eq-then-eq.ensures ∙
    c.if-eq-2.true) in
    let word = found octets place c.loop-place.first c.loop-place.second c.loop-place.third c.told-octets small (omega arith)
    (omega arith) c.loop-place.invariant p q in
    let same : set octets (place - 1) (bit_xor (get_or octets (place - 1) 0) c.loop-place.first) ≡ set octets (place - 1) (bit_xor
    (get_or octets (place - 1) 0) c.from-then-eq-2.result) =
    ap (λ n. set octets (place - 1) (bit_xor (get_or octets (place - 1) 0) n)) (sym c.from-then-eq-2.ensures) in
    let right : ℕ = bit_xor (get_or octets (place - 1) 0) c.from-then-eq-2.result in
    let is : IsRsWord (set octets (place - 1) right) = (word.0, word.1 ∙ same) in
    let near = set_distance octets (place - 1) right in
    let long : length (set octets (place - 1) right) ≡ 12 = length-set octets (place - 1) right ∙ c.told-octets in
    record {
      within = (is, near);
      only = λ other count other_is close.
          ap Some (one_within octets (set octets (place - 1) right) other c.told-octets long count is other_is near close);
    }

pub returns-clause-only : goal.returns-clause-only
returns-clause-only c word count is near =
    let octets : List ℕ = c.args.octets.now in
    let small : All (λ octet. octet < 256) octets = All-from_get_or (λ octet. octet < 256) octets 0 (λ i h. c.fits-octets i) in
    absurd (none_near octets c.loop-place.place c.loop-place.first c.loop-place.second c.loop-place.third c.told-octets small
    (omega arith) c.loop-place.invariant word count is near)
