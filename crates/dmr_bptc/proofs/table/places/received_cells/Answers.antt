use Rattle.std.proofs.Common.{◌≡◌, ℕ, ◌+◌, ◌-◌, ◌*◌, ◌/◌, ◌%◌, ◌^◌, Bool, List, cond, false, get_or, refl, ◌∙◌, ap}
use Rattle.std.proofs.Common.{arith, subst, mod-lt, lit<}
use Rattle.dmr_bits.specs.Bits.{bits_of}
use Rattle.dmr_bptc.specs.ProductWord.{cell}
use Rattle.dmr_bptc.proofs.Numbered.{field_first, field_more}
use Rattle.dmr_bptc.proofs.Spelled.{field_bit, inner_bit}
use Rattle.dmr_bptc.proofs.Lines.{AreColumns, no_columns, line_more, three_at, columns_at}
use Rattle.dmr_bptc.proofs.table.places.received_cells.Goals as goal

pub loop-group-init : goal.loop-group-init
loop-group-init c =
    let bits : List Bool = c.args.bits.now in
    let n : ℕ = c.field.result in
    let are : AreColumns bits 1 c.with_line-columns.result.first c.with_line-columns.result.second c.with_line-columns.result.third
    c.with_line-columns.result.fourth =
    line_more bits 0 1 n 0 0 0 0 c.with_line-columns.result.first c.with_line-columns.result.second c.with_line-columns.result.third
    c.with_line-columns.result.fourth refl (omega arith) c.field.ensures.bound
    (λ i h. field_bit bits 181 15 n i (omega (arith, c.field.ensures.length)) c.field.ensures.value h) (no_columns bits)
    c.with_line-columns.ensures.first c.with_line-columns.ensures.second c.with_line-columns.ensures.third
    c.with_line-columns.ensures.fourth in
    are

pub loop-above-init : goal.loop-above-init
loop-above-init c =
    let start : 1 + 4 * c.loop-group.group ≡ 1 + 4 * c.loop-group.group + 0 = omega arith in
    subst (λ (k : ℕ). AreColumns c.args.bits.now k c.loop-group.columns.first c.loop-group.columns.second c.loop-group.columns.third
    c.loop-group.columns.fourth) start c.loop-group.invariant

pub loop-above-preserved : goal.loop-above-preserved
loop-above-preserved c =
    let bits : List Bool = c.args.bits.now in
    let g : ℕ = c.loop-group.group in
    let a : ℕ = c.loop-above.above in
    let m : ℕ = 1 + 4 * g + a in
    let n : ℕ = c.field-lines.result in
    let new = c.with_line-columns-in-loop-above.result in
    line_more bits m (1 + 4 * g + (a + 1)) (n / 2 ^ (15 * a) % 2 ^ 15) c.loop-above.columns.first c.loop-above.columns.second
    c.loop-above.columns.third c.loop-above.columns.fourth new.first new.second new.third new.fourth (omega arith) (omega arith)
    (mod-lt (n / 2 ^ (15 * a)) (lit< tt))
    (λ i h. let place : 121 - 60 * g + (15 * (3 - a) + i) ≡ 181 - 15 * (1 + 4 * g + a) + i = omega arith in
    inner_bit bits (121 - 60 * g) 60 n (15 * (3 - a)) 15 (15 * a) i (omega (arith, c.field-lines.ensures.length))
    c.field-lines.ensures.value (omega arith) h
    ∙ ap {B = ℕ} (λ k. cond (get_or bits k false) 1 0) place)
    c.loop-above.invariant c.with_line-columns-in-loop-above.ensures.first c.with_line-columns-in-loop-above.ensures.second
    c.with_line-columns-in-loop-above.ensures.third c.with_line-columns-in-loop-above.ensures.fourth

pub loop-group-preserved : goal.loop-group-preserved
loop-group-preserved c =
    let end : 1 + 4 * c.loop-group.group + c.loop-above.above ≡ 1 + 4 * (c.loop-group.group + 1) = omega arith in
    subst (λ (k : ℕ). AreColumns c.args.bits.now k c.loop-above.columns.first c.loop-above.columns.second c.loop-above.columns.third
    c.loop-above.columns.fourth) end c.loop-above.invariant

pub returns : goal.returns
returns c =
    let bits : List Bool = c.args.bits.now in
    let F : ℕ → Bool = λ k. cell bits (k / 15) (k % 15) in
    let m : ℕ = 1 + 4 * c.loop-group.group in
    let end : m ≡ 13 = omega arith in
    let at_first = field_first F c.zero.result 39 c.loop-group.columns.first
    (λ k h. ap (λ n. get_or (bits_of 39 n) k false) c.loop-group.invariant.first ∙ three_at bits m end k h) in
    let at_second = field_more F c.with_field-three.result 39 52 c.loop-group.columns.second (omega
    (arith, c.with_field-seven.ensures.length))
    (λ k h. ap (λ l. get_or l k false) c.with_field-three.ensures.value ∙ at_first k h)
    (λ k h. ap (λ n. get_or (bits_of 52 n) k false) c.loop-group.invariant.second ∙ columns_at bits 3 m (omega arith) end k h) in
    let at_third = field_more F c.with_field-seven.result 91 52 c.loop-group.columns.third (omega
    (arith, c.with_field-eleven.ensures.length))
    (λ k h. ap (λ l. get_or l k false) c.with_field-seven.ensures.value ∙ at_second k h)
    (λ k h. ap (λ n. get_or (bits_of 52 n) k false) c.loop-group.invariant.third ∙ columns_at bits 7 m (omega arith) end k h) in
    let at_fourth = field_more F c.with_field-eleven.result 143 52 c.loop-group.columns.fourth (omega
    (arith, c.with_field.ensures.length))
    (λ k h. ap (λ l. get_or l k false) c.with_field-eleven.ensures.value ∙ at_third k h)
    (λ k h. ap (λ n. get_or (bits_of 52 n) k false) c.loop-group.invariant.fourth ∙ columns_at bits 11 m (omega arith) end k h) in
    record { cells = λ k h. ap (λ l. get_or l k false) c.with_field.ensures.value ∙ at_fourth k (omega arith) }
