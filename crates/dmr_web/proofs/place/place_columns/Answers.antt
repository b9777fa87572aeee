use Rattle.std.proofs.Common.{◌≡◌, ◌++◌, ◌∙◌, ap, codes}
use Rattle.std.specs.Prelude.{decimal}
use Rattle.std.specs.Fmt.{styled_decimal, styled_text}
use Rattle.std.proofs.lemmas.Fmt.{contents_after_writes}
use Rattle.dmr_web.specs.Heads as spec
use Rattle.dmr_web.proofs.Heads.{two_laid_out}
use Rattle.dmr_web.proofs.place.place_columns.Goals as goal

pub returns-in-Ok : goal.returns-in-Ok
returns-in-Ok c = record {
  text = two_laid_out (λ first second text. styled_text first text ++ (codes " " ++ (styled_decimal second c.args.place.frame
      ++ (codes " " ++ (decimal c.args.place.slot ++ codes "  "))))) c.laid_out.result _ c.laid_out-2.result _ _ _ _ _
      c.laid_out.ensures c.laid_out-2.ensures
      (c.as_str.ensures.value ∙ c.in_ok-seconds.ensures.text ∙ ap spec.seconds_text c.milliseconds.ensures.value)
      c.new-columns.ensures
      (contents_after_writes (λ s octets t. t.bytes ≡ s.bytes ++ octets) (λ s. s.bytes) (λ s octets t put. put) _ _ _
      c.in-Ok.ensures.writes);
}
