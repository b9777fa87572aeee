use Rattle.std.proofs.Common.{rules, ◌++◌, ap, ◌∙◌, arith}
use Rattle.hex.specs.Hex.{IsBytes}
use Rattle.dmr_text.proofs.Digits.{raised}
use Rattle.dmr_text.proofs.line.Line.add_digits.Goals as goal

pub returns : goal.returns
returns c =
    let encoded = c.encode_to_slice in
    let bytes : IsBytes c.args.octets.now = λ i. omega (arith, (c.type_inv.octets i).fits) in
    let upper = raised encoded.result _ encoded.new.output c.args.octets.now bytes encoded.ensures.fits encoded.ensures.written
    (search rules) in
    record { value = c.add.ensures.value ∙ ap (λ l. c.args.self.now ++ l) (c.make_ascii_uppercase.ensures.after ∙ upper) }
