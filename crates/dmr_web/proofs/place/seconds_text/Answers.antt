use Rattle.std.proofs.Common.{◌≡◌, ◌/◌, ◌%◌, ◌++◌, codes}
use Rattle.std.specs.Prelude.{decimal}
use Rattle.std.specs.Fmt.{styled_decimal}
use Rattle.std.proofs.lemmas.Fmt.{contents_after_writes}
use Rattle.dmr_web.proofs.Heads.{one_laid_out}
use Rattle.dmr_web.proofs.place.seconds_text.Goals as goal

pub returns-in-Ok : goal.returns-in-Ok
returns-in-Ok c = record {
  text = one_laid_out (λ s. decimal (c.args.milliseconds / 1000) ++ (codes "."
      ++ styled_decimal s (c.args.milliseconds % 1000 / 10))) c.laid_out.result _ _ _ c.laid_out.ensures c.new-seconds.ensures
      (contents_after_writes (λ s octets t. t.bytes ≡ s.bytes ++ octets) (λ s. s.bytes) (λ s octets t put. put) _ _ _
      c.in-Ok.ensures.writes);
}
