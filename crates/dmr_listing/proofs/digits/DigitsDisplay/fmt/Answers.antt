use Rattle.std.proofs.Common.{rules}
use Rattle.std.proofs.Output.{has_written_append, has_written_of_eq}
use Rattle.dmr_listing.proofs.OctetDigits.{digits_more}
use Rattle.dmr_listing.proofs.digits.DigitsDisplay.fmt.Goals as goal

pub loop-octet-preserved : goal.loop-octet-preserved
loop-octet-preserved g c = λ plain.
    has_written_of_eq _ _ _ _ _ (digits_more _ _ (search rules) (search rules))
    (has_written_append _ _ _ _ _ _ (c.loop-octet.invariant plain) (search rules))
