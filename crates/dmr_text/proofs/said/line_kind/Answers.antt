use Rattle.dmr_text.proofs.DigitLines.{digit_in_front}
use Rattle.dmr_text.proofs.said.line_kind.Goals as goal

pub returns-in-Some : goal.returns-in-Some
returns-in-Some c =
    let digit = c.if-is_ascii_digit.ensures.cases in
    record { kind = digit_in_front c.args.line.now c.in-Some.first.now c.in-Some.ensures.value digit.0 digit.1 }
