use Rattle.std.proofs.Common.{Some, None, Ok, Err}
use Rattle.dmr_hearing.proofs.OneLinkControl.{received_is_read}
use Rattle.dmr_hearing.proofs.fields.read_fields.Goals as goal

pub returns-in-Ok-clause-damaged : goal.returns-in-Ok-clause-damaged
returns-in-Ok-clause-damaged c = λ sent is. received_is_read sent c.args.fields.now (Some c.from_octets.result) is
    (Ok c.in-Ok.octets, c.in-Ok.ensures.extracted, (c.from_octets.ensures.fields, c.from_octets.ensures.fit))

pub returns-in-Err-clause-damaged : goal.returns-in-Err-clause-damaged
returns-in-Err-clause-damaged c = λ sent is. received_is_read sent c.args.fields.now None is
    (Err c.in-Err.field-0, c.in-Err.ensures.extracted, tt)
