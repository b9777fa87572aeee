use Rattle.std.proofs.Common.{◌≡◌, ℕ, ◌+◌, ◌*◌, List, Bool, length, arith, sym, ◌∙◌, ap, subst}
use Rattle.dmr_bits.specs.Bits.{xor_bits}
use Rattle.dmr_bits.proofs.Lists.{length-xor_bits}
use Rattle.dmr_bptc.specs.ProductWord.{IsProductWord, information}
use Rattle.dmr_bptc.proofs.ReservedCells.{reserved_word, reserved_added}
use Rattle.dmr_bptc.proofs.WrittenSums.{product-xor}
use Rattle.dmr_bptc.proofs.reserved.with_reserved_cells.Goals as goal

pub returns-clause-word : goal.returns-clause-word
returns-clause-word c =
    let n : ℕ = 4 * c.field-first.result + 2 * c.field-second.result + c.field-third.result in
    λ is. subst IsProductWord (sym c.xor.ensures.value)
    (product-xor c.args.word.now c.bits_of.result c.xor.ensures.length c.xor.ensures.other_length is
    (subst IsProductWord (sym c.bits_of.ensures.value) (reserved_word n (omega arith))))

pub returns-clause-information : goal.returns-clause-information
returns-clause-information c =
    let n : ℕ = 4 * c.field-first.result + 2 * c.field-second.result + c.field-third.result in
    let word : List Bool = c.args.word.now in
    ap information c.xor.ensures.value
    ∙ ap (λ x. information (xor_bits word x)) c.bits_of.ensures.value
    ∙ reserved_added word n c.xor.ensures.length (subst (λ (x : List Bool). length x ≡ 196) c.bits_of.ensures.value
    c.xor.ensures.other_length) (omega arith)

pub returns-clause-long : goal.returns-clause-long
returns-clause-long c =
    ap length c.xor.ensures.value
    ∙ length-xor_bits c.args.word.now c.bits_of.result (c.xor.ensures.length ∙ sym c.xor.ensures.other_length)
    ∙ c.xor.ensures.length
