use Rattle.dmr_making_laws.proofs.EvenFields.{voice_bursts_are_far_from_syncs}
use Rattle.dmr_making_laws.proofs.laws.voice_bursts_are_far_from_syncs.Goals as goal

pub returns : goal.returns
returns c = record { law = voice_bursts_are_far_from_syncs }
