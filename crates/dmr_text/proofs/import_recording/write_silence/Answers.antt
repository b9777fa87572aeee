use Rattle.std.proofs.Common.{sym, ◌∙◌, refl}
use Rattle.dmr_text.proofs.Puts.{line_torn}
use Rattle.dmr_text.proofs.Silences.{silence_torn}
use Rattle.dmr_text.proofs.import_recording.write_silence.Goals as goal

pub returns-then-is_err-clause-torn : goal.returns-then-is_err-clause-torn
returns-then-is_err-clause-torn g c =
    silence_torn c.args.recording c.loop-past._past c.args.count _ _ _ c.loop-past-test.true c.loop-past.invariant.written
    (line_torn c.write_uplink_slot.result _ _ _ _
    (sym c.is_err.ensures.value ∙ c.if-is_err.true) c.write_uplink_slot.ensures.torn refl)
