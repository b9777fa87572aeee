use Rattle.std.proofs.Common.{sym, ◌∙◌}
use Rattle.dmr_text.proofs.Puts.{line_put, line_torn}
use Rattle.dmr_text.proofs.Texts.{first_torn, last_torn, lines_torn}
use Rattle.dmr_text.proofs.export.export_behind.Goals as goal

pub returns-then-is_err-clause-output : goal.returns-then-is_err-clause-output
returns-then-is_err-clause-output g c =
    let torn = line_torn c.put.result _ _ _ _ (sym c.is_err.ensures.value ∙ c.if-is_err.true) c.put.ensures.torn
    (c.as_slice.ensures.value ∙ c.make_title.ensures.line) in
    first_torn c.args.format _ _ _ torn

pub returns-in-Err-clause-output : goal.returns-in-Err-clause-output
returns-in-Err-clause-output g c =
    let first = line_put c.put.result _ _ _ _ (sym c.is_err.ensures.value ∙ c.if-is_err.false) c.put.ensures.octets
    (c.as_slice.ensures.value ∙ c.make_title.ensures.line) in
    lines_torn c.args.format c.in-Err.stop _ _ _ _ _ first c.in-Err.ensures.output

pub returns-then-is_err-2-clause-output : goal.returns-then-is_err-2-clause-output
returns-then-is_err-2-clause-output g c =
    let first = line_put c.put.result _ _ _ _ (sym c.is_err.ensures.value ∙ c.if-is_err.false) c.put.ensures.octets
    (c.as_slice.ensures.value ∙ c.make_title.ensures.line) in
    let (file, same, whole, written, counted) = c.in-Ok.ensures.all in
    last_torn c.args.format c.in-Ok.carried file _ _ _ _ _ _ same first written counted
    (line_torn c.put-2.result _ _ _ _ (sym c.is_err-2.ensures.value ∙ c.if-is_err-2.true) c.put-2.ensures.torn
    (c.as_slice-2.ensures.value ∙ c.make_last.ensures.line))
