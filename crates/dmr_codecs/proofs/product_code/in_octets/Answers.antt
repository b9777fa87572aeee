use Rattle.std.proofs.Common.{◌∙◌}
use Rattle.dmr_bits.specs.Bits.{bits_of_octets}
use Rattle.dmr_codecs.proofs.Spelling.{front_of_zeros, zeros_behind}
use Rattle.dmr_codecs.proofs.product_code.in_octets.Goals as goal

-- src/product_code.rt:13:1
pub returns-clause-value : goal.returns-clause-value
returns-clause-value c =
    front_of_zeros c.args.bits.now c.zero-all.result (bits_of_octets c.octets.result) c.put.ensures.count c.zero-all.ensures.value
    (c.octets.ensures.spelled ∙ c.put.ensures.value)

-- src/product_code.rt:13:1
pub returns-clause-behind : goal.returns-clause-behind
returns-clause-behind c =
    zeros_behind c.args.bits.now c.zero-all.result (bits_of_octets c.octets.result) c.put.ensures.count c.zero-all.ensures.value
    (c.octets.ensures.spelled ∙ c.put.ensures.value)
