use Rattle.std.proofs.Common.{◌≡◌, ℕ, ◌^◌, ◌<◌, get_or, subst, sym, ap, ◌∙◌}
use Rattle.dmr_bits.specs.Bits.{bits_of}
use Rattle.dmr_bits.proofs.Lists.{bits_of_field}
use Rattle.dmr_codes.specs.Code.{IsWord}
use Rattle.dmr_codes.proofs.Loops.{whole_field}
use Rattle.dmr_codes.proofs.WordTables.{word_at, front_at}
use Rattle.dmr_codes.proofs.word_tables.word_of.Goals as goal

pub returns-clause-word : goal.returns-clause-word
returns-clause-word g c = λ columns shaped are.
    let i : ℕ = c.field.result in
    let small : i < 2 ^ g.row.K = c.field.ensures.bound in
    let whole : c.with_field.result ≡ bits_of g.row.N (get_or c.args.words.now i 0) =
    c.with_field.ensures.value ∙ rw c.zero.ensures.value (whole_field g.row.N c.from.result)
    ∙ ap (bits_of g.row.N) c.from.ensures in
    subst (IsWord columns _) (sym whole) (word_at g.row.N g.row.K columns c.args.words.now i shaped are small)

pub returns-clause-information : goal.returns-clause-information
returns-clause-information g c = λ columns shaped are.
    let i : ℕ = c.field.result in
    let small : i < 2 ^ g.row.K = c.field.ensures.bound in
    let whole : c.with_field.result ≡ bits_of g.row.N (get_or c.args.words.now i 0) =
    c.with_field.ensures.value ∙ rw c.zero.ensures.value (whole_field g.row.N c.from.result)
    ∙ ap (bits_of g.row.N) c.from.ensures in
    rw whole
    (front_at g.row.N g.row.K columns c.args.words.now i shaped are small
    ∙ bits_of_field g.row.K c.args.information.now i c.field.ensures.length c.field.ensures.value)
