use Rattle.dmr_web.proofs.Texts.{headed}
use Rattle.dmr_web.proofs.window.print_headed.Goals as goal

pub returns-clause-line : goal.returns-clause-line
returns-clause-line g c = headed c.print_behind.result _ _ _ _ _ _ c.as_bytes.ensures.value c.line_of.ensures.line
    c.line_of.ensures.one c.in_ok-begun.ensures.octets c.print_behind.ensures.line
