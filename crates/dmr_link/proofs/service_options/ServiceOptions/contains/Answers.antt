use Rattle.std.proofs.Common.{◌∙◌, sym, eqb-true, eq-eqb, bit_and}
use Rattle.dmr_link.proofs.Options.{common_bits, bits_in_common}
use Rattle.dmr_link.proofs.service_options.ServiceOptions.contains.Goals as goal

pub returns : goal.returns
returns c =
    let here = c.args.self.0 in
    let there = c.args.option.0 in
    let same = c.contains.ensures tt in
    record {
      contained = (
        λ holds. bits_in_common here there (eqb-true (bit_and here there) there (sym same ∙ holds)),
        λ each. same ∙ eq-eqb (bit_and here there) there (common_bits here there each),
      );
    }
