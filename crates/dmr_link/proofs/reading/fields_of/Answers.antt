use Rattle.std.proofs.Common.{◌<◌}
use Rattle.std.proofs.lemmas.List.Elements.{All-from_get_or}
use Rattle.dmr_link.proofs.reading.fields_of.Goals as goal

pub returns-clause-octets : goal.returns-clause-octets
returns-clause-octets c = All-from_get_or (λ octet. octet < 256) c.args.word.now 0 (λ i h. c.fits-word i)
