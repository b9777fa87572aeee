use Rattle.dmr_text.proofs.Silences.{named_torn}
use Rattle.dmr_text.proofs.import_recording.write_named.Goals as goal

pub returns-clause-torn : goal.returns-clause-torn
returns-clause-torn g c =
    named_torn c.write_burst.result c.args.recording c.args.silent c.args.burst _ _ _ c.in_ok-write_silence.ensures.slots
    c.write_burst.ensures.torn
