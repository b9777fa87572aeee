use Rattle.std.proofs.Common.{◌≡◌, ◌≢◌, ℕ, ◌+◌, ◌*◌, ◌<◌, ◌∙◌, [], ◌∷◌, Bool, List, false, get_or, ap, refl, arith}
use Rattle.dmr_bits.specs.Bits.{bits_of, xor}
use Rattle.dmr_embedded.proofs.Spreading.{each_of_four, row_written, rows_kept, word_bit}
use Rattle.dmr_embedded.proofs.spread.with_row.Goals as goal

pub returns-clause-written : goal.returns-clause-written
returns-clause-written c =
    let before : List ℕ = c.args.fields.now in
    let after : List ℕ = c.with_cells.result ∷ c.with_cells-2.result ∷ c.with_cells-3.result ∷ c.with_cells-4.result ∷ [] in
    let word : List Bool = c.args.word.now in
    let i : ℕ = c.args.row_number in
    row_written before after word i c.told-fields refl c.field.ensures.length c.requires.inside c.requires.clear
    (each_of_four (λ g. (k : ℕ) → k < 4 → get_or (bits_of 32 (get_or after g 0)) (8 * k + i) false
    ≡ xor (get_or (bits_of 32 (get_or before g 0)) (8 * k + i) false) (get_or word (4 * g + k) false))
    (λ k h. c.with_cells.ensures.added k h ∙ ap (xor (get_or (bits_of 32 (get_or before 0 0)) (8 * k + i) false))
    (word_bit word 0 c.field.result k (omega (arith, c.field.ensures.length)) c.field.ensures.value h))
    (λ k h. c.with_cells-2.ensures.added k h ∙ ap (xor (get_or (bits_of 32 (get_or before 1 0)) (8 * k + i) false))
    (word_bit word 4 c.field-2.result k (omega (arith, c.field.ensures.length)) c.field-2.ensures.value h))
    (λ k h. c.with_cells-3.ensures.added k h ∙ ap (xor (get_or (bits_of 32 (get_or before 2 0)) (8 * k + i) false))
    (word_bit word 8 c.field-3.result k (omega (arith, c.field.ensures.length)) c.field-3.ensures.value h))
    (λ k h. c.with_cells-4.ensures.added k h ∙ ap (xor (get_or (bits_of 32 (get_or before 3 0)) (8 * k + i) false))
    (word_bit word 12 c.field-4.result k (omega (arith, c.field.ensures.length)) c.field-4.ensures.value h)))

pub returns-clause-kept : goal.returns-clause-kept
returns-clause-kept c =
    let before : List ℕ = c.args.fields.now in
    let after : List ℕ = c.with_cells.result ∷ c.with_cells-2.result ∷ c.with_cells-3.result ∷ c.with_cells-4.result ∷ [] in
    let i : ℕ = c.args.row_number in
    rows_kept before after i c.told-fields refl
    (each_of_four (λ g. (k r : ℕ) → k < 4 → r < 8 → r ≢ i
    → get_or (bits_of 32 (get_or after g 0)) (8 * k + r) false ≡ get_or (bits_of 32 (get_or before g 0)) (8 * k + r) false)
    c.with_cells.ensures.kept c.with_cells-2.ensures.kept c.with_cells-3.ensures.kept c.with_cells-4.ensures.kept)
