use Rattle.dmr_reading.proofs.reading.read_data.Goals as goal

pub returns-in-None : goal.returns-in-None
returns-in-None c = record {
  read = (c.requires.sync, λ slot_type has. cc (c.in-None.ensures.only slot_type has));
}
