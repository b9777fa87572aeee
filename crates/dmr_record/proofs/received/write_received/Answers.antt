use Rattle.dmr_record.proofs.received.write_received.Goals as goal

pub returns-clause-torn : goal.returns-clause-torn
returns-clause-torn g c = rw c.fields_of-fields.ensures.fields at c.put_both.ensures.torn

pub returns-clause-receipt : goal.returns-clause-receipt
returns-clause-receipt g c = rw c.fields_of-fields.ensures.fields at c.put_both.ensures.octets
