use Rattle.dmr_csbk.proofs.Existing.{csbk_somehow}
use Rattle.dmr_csbk.proofs.laws.block_is_sealed.Goals as goal

pub returns : goal.returns
returns c = record { law = csbk_somehow }
