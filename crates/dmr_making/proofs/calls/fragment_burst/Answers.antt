use Rattle.std.proofs.Common.{ℕ, List, get_or, subst}
use Rattle.dmr_burst.specs.declared.burst.Burst.TheVariants as burst
use Rattle.dmr_making.proofs.CallSlots.{one_fields}
use Rattle.dmr_making.specs.Made.{IsMobileBurst, vocoder_of_frame}
use Rattle.dmr_making.proofs.calls.fragment_burst.Goals as goal

pub returns : goal.returns
returns c = record {
  burst = λ fields p.
      let colour : ℕ = c.args.voice.colour in
      let pi = c.args.voice.pi in
      let vocoder = vocoder_of_frame c.args.voice.frame in
      subst (λ (k : ℕ). IsMobileBurst (burst.Voice (record { colour = colour; pi = pi; lcss = k }) (get_or fields c.args.place 0)
      vocoder)
      c.voice_burst.result) c.lcss_with.ensures.value
      (subst (λ (fs : List ℕ). IsMobileBurst (burst.Voice (record { colour = colour; pi = pi; lcss = c.lcss_with.result })
      (get_or fs c.args.place 0) vocoder) c.voice_burst.result)
      (one_fields c.args.carried c.fields_of.result fields c.fields_of.ensures.fields p)
      c.voice_burst.ensures.burst);
}
