use Rattle.std.proofs.Common.{◌∙◌}
use Rattle.dmr_damage.proofs.Marked.{same_emb}
use Rattle.dmr_damage.proofs.burst.damaged_b_to_f.Goals as goal

pub returns-in-Some : goal.returns-in-Some
returns-in-Some c = record {
  damaged = rw c.in-Some.is (record {
    emb = λ emb has. same_emb emb c.write_emb.new.bits c.write_embedded.new.bits c.write_embedded.ensures.emb
        (c.write_emb.ensures.emb emb has);
    embedded = c.write_embedded.ensures.written;
    vocoder = c.write_embedded.ensures.vocoder ∙ c.write_emb.ensures.vocoder;
  });
}
