use Rattle.dmr_record.proofs.outgoing.write_outgoing.Goals as goal

pub returns-clause-sending : goal.returns-clause-sending
returns-clause-sending g c = rw c.octets_before-fields.ensures.fields at c.put_both.ensures.octets

pub returns-clause-torn : goal.returns-clause-torn
returns-clause-torn g c = rw c.octets_before-fields.ensures.fields at c.put_both.ensures.torn
