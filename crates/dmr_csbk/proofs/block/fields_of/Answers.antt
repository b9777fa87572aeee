use Rattle.std.proofs.Common.{rules, ◌∷◌, ◌++◌, sym, ap, ◌∙◌, take, arith}
use Rattle.dmr_bits.specs.Bits.{bits_of, bits_of_octets}
use Rattle.dmr_bits.proofs.Lists.{length-bits_of}
use Rattle.dmr_bits.proofs.OctetFronts.{length-bits_of_octets}
use Rattle.dmr_csbk.proofs.Blocks.{fields_first}
use Rattle.dmr_csbk.proofs.block.fields_of.Goals as goal

pub returns-clause-fields : goal.returns-clause-fields
returns-clause-fields c =
    let last = c.read_fields-next_bit-last in
    let protect = c.read_fields-next_bit-protect in
    let code = c.read_fields-next-code in
    let fid = c.read_fields-next-fid in
    let body = c.read_fields-next_octets-body in
    let whole = sym c.new-reader.ensures.rest ∙ last.ensures.read
    ∙ ap (λ l. last.result ∷ l) (protect.ensures.read
    ∙ ap (λ l. protect.result ∷ l) (code.ensures.read
    ∙ ap (λ l. bits_of 6 code.result ++ l) (fid.ensures.read
    ∙ ap (λ l. bits_of 8 fid.result ++ l) body.ensures.read))) in
    ap (take 80) whole
    ∙ fields_first last.result protect.result (bits_of 6 code.result) (bits_of 8 fid.result) (bits_of_octets body.result)
    body.new.self
    (length-bits_of 6 code.result) (length-bits_of 8 fid.result) (length-bits_of_octets body.result ∙ omega arith)

pub returns-clause-fits : goal.returns-clause-fits
returns-clause-fits c = record {
  code = c.read_fields-next-code.ensures.fits;
  fid = c.read_fields-next-fid.ensures.fits;
  octets = c.read_fields-next_octets-body.ensures.octets;
  count = search rules;
}
