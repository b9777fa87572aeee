use Rattle.std.proofs.Common.{◌≡◌, ℕ, List, Bool, sym, ap, ◌∙◌}
use Rattle.std.specs.Int.RustNames.{bit_xor}
use Rattle.std.proofs.lemmas.Nat.{xor_lt}
use Rattle.dmr_bits.specs.Bits.{bits_of, xor_bits, weight}
use Rattle.dmr_bits.proofs.Lists.{bits_of_field}
use Rattle.dmr_bits.proofs.Sums.{bits_of_xor, weight-bits_of}
use Rattle.dmr_burst.specs.Sync.{sync_word}
use Rattle.dmr_burst.proofs.sync.distance_from.Goals as goal

pub returns : goal.returns
unfolding sync_word
returns c =
    let n : ℕ = c.number_of_sync.result in
    let m : ℕ = c.field.result in
    let centre : List Bool = c.args.centre.now in
    let is : bits_of 48 m ≡ centre = bits_of_field 48 centre m c.field.ensures.length c.field.ensures.value in
    record {
      value = sym (weight-bits_of 48 (bit_xor n m) (xor_lt 48 n m c.number_of_sync.ensures.bound c.field.ensures.bound))
          ∙ ap weight (bits_of_xor 48 n m)
          ∙ ap (λ l. weight (xor_bits (bits_of 48 n) l)) is
          ∙ ap (λ k. weight (xor_bits (bits_of 48 k) centre)) c.number_of_sync.ensures.value;
    }
