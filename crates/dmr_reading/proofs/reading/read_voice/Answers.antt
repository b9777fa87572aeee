use Rattle.dmr_reading.proofs.reading.read_voice.Goals as goal

pub returns-in-None : goal.returns-in-None
returns-in-None c = record {
  read = (c.requires.sync, λ emb has. cc (c.in-None.ensures.only emb has));
}
