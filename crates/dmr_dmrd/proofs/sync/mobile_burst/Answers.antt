use Rattle.std.proofs.Common.{ap, ◌∙◌}
use Rattle.dmr_dmrd.specs.Syncs.{with_sync_of}
use Rattle.dmr_dmrd.proofs.sync.mobile_burst.Goals as goal

pub returns-in-Some : goal.returns-in-Some
returns-in-Some c = record {
  value = c.with_mobile_sync.ensures.value ∙ ap (λ s. with_sync_of s c.args.burst.now) c.in-Some.ensures.value;
}
