use Rattle.std.proofs.Common.{◌∙◌, arith}
use Rattle.dmr_bits.specs.Bits.{bits_of}
use Rattle.dmr_checks.specs.Generators.{crc8_generator}
use Rattle.dmr_checks.proofs.Completes.{crc8_is, seals, only_seal}
use Rattle.dmr_checks.proofs.Leaving.{next_bits, whole_message}
use Rattle.dmr_checks.proofs.crc.crc8.Goals as goal

pub loop-part-preserved : goal.loop-part-preserved
loop-part-preserved c = record {
  fits = c.shift_in-register.ensures.fits;
  rest = next_bits (bits_of 8 7) c.loop-part.part c.field-number.result (bits_of 8 c.loop-part.register)
      (bits_of 8 c.shift_in-register.result) (omega (arith, c.loop-part-test.true)) c.shift_in-register.ensures.run
      ∙ c.loop-part.invariant.rest;
}

pub returns-clause-seals : goal.returns-clause-seals
returns-clause-seals c =
    let f = c.field-number in
    seals 8 0x07 crc8_generator c.args.bits.now c.loop-part.register
    (record {
      generates = crc8_is;
      some = omega arith;
      fits = c.loop-part.invariant.fits;
      run_is = whole_message (bits_of 8 7) (bits_of 8 0) (bits_of 8 c.loop-part.register) c.args.bits.now f.result c.loop-part.part
          f.ensures.length f.ensures.value
          (omega (arith, c.loop-part-test.false)) c.loop-part.invariant.rest;
    })

pub returns-clause-only : goal.returns-clause-only
returns-clause-only c check fits multiple =
    let f = c.field-number in
    only_seal 8 0x07 crc8_generator c.args.bits.now c.loop-part.register check
    (record {
      generates = crc8_is;
      some = omega arith;
      fits = c.loop-part.invariant.fits;
      run_is = whole_message (bits_of 8 7) (bits_of 8 0) (bits_of 8 c.loop-part.register) c.args.bits.now f.result c.loop-part.part
          f.ensures.length f.ensures.value
          (omega (arith, c.loop-part-test.false)) c.loop-part.invariant.rest;
    })
    fits multiple
