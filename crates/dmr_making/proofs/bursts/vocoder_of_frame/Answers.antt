use Rattle.std.proofs.Common.{◌≡◌, ℕ, ◌+◌, List, [], ◌++◌, Bool, ap, ◌∙◌, append_assoc}
use Rattle.dmr_bits.specs.Bits.{bits_of}
use Rattle.dmr_making.specs.Made.{thrice, vocoder_of_frame}
use Rattle.dmr_making.proofs.bursts.vocoder_of_frame.Goals as goal

joined : (t a b c d : List Bool) → a ≡ [] → b ≡ a ++ t → c ≡ b ++ t → d ≡ c ++ t → d ≡ thrice t
joined t a b c d p q r s =
    s ∙ ap (λ (x : List Bool). x ++ t) (r ∙ ap (λ (x : List Bool). x ++ t) (q ∙ ap (λ (x : List Bool). x ++ t) p))
    ∙ append_assoc t t t

written : (n m : ℕ) (a b c d e : List Bool) → a ≡ [] → b ≡ a ++ thrice (bits_of 24 n) → c ≡ b ++ thrice (bits_of 24 n)
    → d ≡ c ++ thrice (bits_of 24 n) → e ≡ d → n ≡ 0x800000 + m → e ≡ vocoder_of_frame m
unfolding vocoder_of_frame
written n m a b c d e p q r s t u =
    t ∙ joined (thrice (bits_of 24 n)) a b c d p q r s ∙ ap (λ (x : ℕ). thrice (thrice (bits_of 24 x))) u

pub returns : goal.returns
returns c = record {
  value = written (0x800000 + c.from-number.result) c.args.frame c.new-writer.result c.push_thrice.new.writer
      c.push_thrice-2.new.writer c.push_thrice-3.new.writer c.finish.result c.new-writer.ensures.value
      c.push_thrice.ensures.written c.push_thrice-2.ensures.written c.push_thrice-3.ensures.written c.finish.ensures.value
      (ap (λ (x : ℕ). 0x800000 + x) c.from-number.ensures);
}
