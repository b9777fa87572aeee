use Rattle.std.proofs.Common.{◌≡◌, ℕ, ◌+◌, ◌-◌, ◌*◌, ◌%◌, ◌<◌, Bool, List, false, get_or, refl, subst, ◌∙◌, arith, eqb-true}
use Rattle.dmr_bits.specs.Bits.{bits_of}
use Rattle.dmr_bptc.specs.Seen.{AreSeen, line_place}
use Rattle.dmr_bptc.proofs.Spelled.{field_at}
use Rattle.dmr_bptc.proofs.OneEach.{seen_more, near_columns}
use Rattle.dmr_bptc.proofs.nearness.differs_once_a_column.Goals as goal

pub returns : goal.returns
returns c =
    let wrong : List Bool = c.xor-wrong.result in
    let once : ℕ = c.loop-group.seen.once in
    let twice : ℕ = c.loop-group.seen.twice in
    let last = c.with_line-last.result in
    let end : 4 * c.loop-group.group ≡ 12 = omega arith in
    let here : (i : ℕ) → i < 15 → get_or (bits_of 15 c.turned.result) i false ≡ get_or wrong (line_place 12 i) false =
    λ i h. c.turned.ensures.bits i h
    ∙ field_at wrong 181 15 c.field.result ((i + 15 - 6) % 15) (omega (arith, c.field.ensures.length)) c.field.ensures.value (omega
    arith) in
    let all : AreSeen wrong 13 last.once last.twice =
    seen_more wrong 12 once twice c.turned.result 13 last.once last.twice
    (subst (λ (n : ℕ). AreSeen wrong n once twice) end c.loop-group.invariant) here refl c.with_line-last.ensures.once
    c.with_line-last.ensures.twice in
    record {
      near = λ e. near_columns c.args.word.now c.args.bits.now last.once c.xor-wrong.ensures.length c.xor-wrong.ensures.other_length
          (subst (λ (bits : List Bool). AreSeen bits 13 last.once 0) c.xor-wrong.ensures.value
          (subst (λ (n : ℕ). AreSeen wrong 13 last.once n) (eqb-true last.twice 0 e) all));
    }
