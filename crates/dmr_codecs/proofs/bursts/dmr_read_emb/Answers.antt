use Rattle.std.proofs.Common.{◌≡◌, None, Some, refl}
use Rattle.dmr_codecs.proofs.bursts.dmr_read_emb.Goals as goal

-- src/bursts.rt:71:1
pub returns-in-Some-clause-only : goal.returns-in-Some-clause-only
returns-in-Some-clause-only c = λ one has. let same : Some c.in-Some.found ≡ Some one = c.in-Some.ensures.only one has in (refl, cc)

-- src/bursts.rt:71:1
pub returns-in-None-clause-only : goal.returns-in-None-clause-only
returns-in-None-clause-only c = λ one has. let wrong : None ≡ Some one = c.in-None.ensures.only one has in cc
