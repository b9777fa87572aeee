use Rattle.std.proofs.Common.{ap, ◌∙◌}
use Rattle.dmr_bits.specs.Bits.{bits_of_octets, octets_of, put_at}
use Rattle.dmr_dmrd.proofs.sync.with_mobile_sync.Goals as goal

pub returns : goal.returns
returns c =
    let bits = bits_of_octets c.args.burst.now in
    record {
      value = c.octets.ensures.value ∙ ap (octets_of 33) (c.put.ensures.value
          ∙ ap (λ b. put_at b 108 c.mobile_sync-word.result) c.from_octets-bits.ensures.value
          ∙ ap (λ w. put_at bits 108 w) c.mobile_sync-word.ensures.word);
    }
