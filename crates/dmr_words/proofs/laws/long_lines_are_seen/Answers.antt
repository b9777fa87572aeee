use Rattle.dmr_words.proofs.Feeds.{long_shown, short_fed, short_unfed}
use Rattle.dmr_words.proofs.laws.long_lines_are_seen.Goals as goal

pub returns : goal.returns
returns c = record { long = long_shown; short = short_fed; last = short_unfed }
