use Rattle.std.proofs.Common.{◌≡◌, ℕ, ◌+◌, ◌*◌, Bool, List, [], false, ◌++◌, get_or, take, drop, ◌∙◌, ap, arith}
use Rattle.std.proofs.lemmas.List.{get_or_append_left, length-append, take_at}
use Rattle.dmr_bits.specs.Bits.{bits_of}
use Rattle.dmr_bits.proofs.Lists.{length-bits_of}
use Rattle.dmr_embedded.specs.ShortLc.{short_cell}
use Rattle.dmr_embedded.proofs.Columns.{all_cells}
use Rattle.dmr_embedded.proofs.short_link_control.interleave.Goals as goal

pub returns-clause-cells : goal.returns-clause-cells
returns-clause-cells c =
    let f : ℕ → ℕ → Bool = λ r k. get_or (get_or c.args.rows.now r []) k false in
    let first : List Bool = bits_of 64 c.first_columns.result in
    let last : List Bool = bits_of 4 c.column_number.result in
    let rest : List Bool = drop (64 + 4) c.with_field.result in
    let long = length-bits_of 64 c.first_columns.result in
    let front : take 64 c.with_field.result ≡ first = ap (take 64) c.with_field.ensures.value
    ∙ take_at first (drop (0 + 64) c.zero.result) 64 long in
    let whole : c.with_field-2.result ≡ first ++ last ++ rest = c.with_field-2.ensures.value ∙ ap (λ l. l ++ last ++ rest) front in
    λ r k h l. ap (λ x. short_cell x r k) whole
    ∙ get_or_append_left (first ++ last) rest false (4 * k + r)
    (omega (arith, length-append first last, length-bits_of 4 c.column_number.result, long))
    ∙ all_cells f first last long c.first_columns.ensures.cells c.column_number.ensures.cells r k h l
