use Rattle.std.proofs.Common.{◌∙◌, ap}
use Rattle.dmr_bits.specs.Bits.{bits_of, xor_bits}
use Rattle.dmr_bits.proofs.Numbers.{bits_of_xor}
use Rattle.dmr_rs.proofs.octet.OctetAdd.add.Goals as goal

pub returns-clause-bits : goal.returns-clause-bits
returns-clause-bits c =
    bits_of_xor 8 c.self.inside.value c.other.inside.value
    ∙ ap (λ n. xor_bits (bits_of 8 n) (bits_of 8 c.other.inside.value)) c.self.view_is
    ∙ ap (λ n. xor_bits (bits_of 8 c.args.self) (bits_of 8 n)) c.other.view_is
