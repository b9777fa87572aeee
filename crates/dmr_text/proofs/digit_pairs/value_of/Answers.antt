use Rattle.dmr_text.proofs.DigitPairs.{in_table}
use Rattle.dmr_text.proofs.digit_pairs.value_of.Goals as goal

pub returns : goal.returns
returns c = record { value = in_table c.args.octet c.ranges.octet.fits }
