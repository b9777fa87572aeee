use Rattle.dmr_record.proofs.head.write_head.Goals as goal

pub returns-clause-head : goal.returns-clause-head
returns-clause-head g c = c.put_both.ensures.octets

pub returns-clause-torn : goal.returns-clause-torn
returns-clause-torn g c = c.put_both.ensures.torn
