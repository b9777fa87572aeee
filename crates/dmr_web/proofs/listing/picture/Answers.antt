use Rattle.dmr_web.proofs.Pictures.{pictured, pictured_to_fault}
use Rattle.dmr_web.proofs.Windows.{of_file}
use Rattle.dmr_web.specs.Windows.{front_held}
use Rattle.dmr_web.proofs.listing.picture.Goals as goal

pub returns-in-Ok-print-clause-whole : goal.returns-in-Ok-print-clause-whole
returns-in-Ok-print-clause-whole g c =
    let (slots, end, stripped, frames, bursts) = c.in-Ok.ensures.all in
    pictured c.args.window.now c.strip_recording.new.lines _ (λ w. front_held w.text.now w.length) c.args.recording c.args.frames
    slots end _ _ _ stripped (λ a x b t. t) c.in-Ok-print.ensures.line

pub returns-in-Ok-print-2-clause-fault : goal.returns-in-Ok-print-2-clause-fault
returns-in-Ok-print-2-clause-fault g c =
    pictured_to_fault c.args.window.now c.strip_recording.new.lines _ (λ w. front_held w.text.now w.length) c.args.recording
    c.args.frames c.in-Err-File.fault _ _ _ (of_file _ _ _ c.in-Err-File.field-0-is c.in-Err-File.ensures.fault) (λ a x b t. t)
    c.in-Ok-print-2.ensures.line
