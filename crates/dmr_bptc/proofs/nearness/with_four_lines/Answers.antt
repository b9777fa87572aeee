use Rattle.std.proofs.Common.{◌≡◌, ℕ, ◌+◌, ◌-◌, ◌*◌, ◌%◌, ◌<◌, Bool, List, false, get_or, ap, ◌∙◌, arith}
use Rattle.dmr_bits.specs.Bits.{bits_of}
use Rattle.dmr_bptc.specs.Seen.{line_place}
use Rattle.dmr_bptc.proofs.Spelled.{inner_at}
use Rattle.dmr_bptc.proofs.OneEach.{seen_more}
use Rattle.dmr_bptc.proofs.nearness.with_four_lines.Goals as goal

pub loop-line-preserved : goal.loop-line-preserved
loop-line-preserved c =
    let bits : List Bool = c.args.bits.now in
    let from : ℕ = c.args.from in
    let line : ℕ = c.loop-line.line in
    let here : (i : ℕ) → i < 15 → get_or (bits_of 15 c.turned.result) i false ≡ get_or bits (line_place (from + line) i) false =
    λ i h. (let j : ℕ = (i + 15 - 8 * (from + line) % 15) % 15 in
    let place : 1 + 15 * from + (15 * line + j) ≡ 1 + 15 * (from + line) + j = omega arith in
    c.turned.ensures.bits i h
    ∙ inner_at bits (1 + 15 * from) 60 c.field-lines.result (15 * line) 15 (45 - 15 * line) j
    (omega (arith, c.field-lines.ensures.length)) c.field-lines.ensures.value (omega arith) (omega arith)
    ∙ ap (λ p. get_or bits p false) place) in
    seen_more bits (from + line) c.loop-line.seen.once c.loop-line.seen.twice c.turned.result (from + (line + 1))
    c.with_line-seen.result.once c.with_line-seen.result.twice c.loop-line.invariant here (omega arith)
    c.with_line-seen.ensures.once c.with_line-seen.ensures.twice
