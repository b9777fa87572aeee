use Rattle.std.proofs.Common.{◌≡◌, ℕ, ◌+◌, ◌-◌, ◌*◌, ◌/◌, ◌%◌, ◌^◌, false, get_or, ap, ◌∙◌, arith}
use Rattle.dmr_bits.specs.Bits.{bits_of}
use Rattle.dmr_bptc.proofs.OneEach.{turned_bits}
use Rattle.dmr_bptc.proofs.nearness.turned.Goals as goal

pub returns : goal.returns
returns c = record {
  bits = λ i h. (let n : ℕ = c.args.places in
      let by : ℕ = c.args.by in
      let twice : n * 32769 ≡ n * 32768 + n = omega arith in
      let back : (15 - by + i) % 15 ≡ (i + 15 - by) % 15 = omega arith in
      ap (λ m. get_or (bits_of 15 (m / 2 ^ by)) i false) twice
      ∙ turned_bits 15 n by i c.requires.places c.requires.by h
      ∙ ap (λ j. get_or (bits_of 15 n) j false) back);
}
