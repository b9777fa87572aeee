use Rattle.std.proofs.Common.{refl}
use Rattle.dmr_record.proofs.received.fields_of.Goals as goal

pub returns : goal.returns
returns c = record { fields = rw (c.write_u16.ensures, c.write_u24.ensures, c.octet.ensures.value, c.write_u32.ensures) refl }
