use Rattle.dmr_ip.proofs.compression.compress.Goals as goal

pub returns-clause-none : goal.returns-clause-none
returns-clause-none c = rw c.octets.ensures.value at c.form_of.ensures.none
