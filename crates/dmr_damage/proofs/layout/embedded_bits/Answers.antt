use Rattle.std.proofs.Common.{ℕ, ◌++◌, ◌∙◌, Bool, List, ap, take, drop, arith}
use Rattle.std.proofs.lemmas.List.{append-nil}
use Rattle.dmr_bits.specs.Bits.{bits_of, number_of}
use Rattle.dmr_bits.proofs.Lists.{number_of-bits_of}
use Rattle.dmr_damage.proofs.layout.embedded_bits.Goals as goal

pub returns : goal.returns
returns c =
    let n : ℕ = c.from.result in
    record {
      says = ap number_of (c.with_field.ensures.value
          ∙ ap (λ (z : List Bool). take 0 z ++ bits_of 32 n ++ drop 32 z) c.zero.ensures.value ∙ append-nil (bits_of 32 n))
          ∙ number_of-bits_of 32 n (omega (arith, c.ranges.embedded.fits, c.from.ensures)) ∙ c.from.ensures;
    }
