use Rattle.std.proofs.Common.{◌∙◌, ap, subst}
use Rattle.dmr_bits.specs.Bits.{bits_of_octets}
use Rattle.dmr_burst.specs.declared.emb.Emb.{Emb}
use Rattle.dmr_damage.specs.Bursts.{IsDamagedForeignVoice}
use Rattle.dmr_damage.proofs.Marked.{by_emb, by_none, one_emb}
use Rattle.dmr_damage.proofs.burst.damaged_unrepeated.Goals as goal

pub returns-in-Some : goal.returns-in-Some
returns-in-Some c = record {
  damaged =
      by_emb c.args.colour (bits_of_octets c.args.burst.now) c.damaged_foreign_voice.result c.mobile_sync.result c.read_emb.result
      c.in-Some.emb c.in-None.is
      (record { within = c.mobile_sync.ensures.within; only = c.mobile_sync.ensures.only })
      c.in-Some.is c.read_emb.ensures.within c.if-emb-colour.true
      (subst (λ b. IsDamagedForeignVoice b c.damaged_foreign_voice.result) c.from_octets-bits.ensures.value
      c.damaged_foreign_voice.ensures.damaged);
}

pub returns-in_default : goal.returns-in_default
returns-in_default c = record {
  damaged =
      by_none c.args.colour (bits_of_octets c.args.burst.now) c.from_octets-bits.result c.mobile_sync.result c.in-None.is
      (record { within = c.mobile_sync.ensures.within; only = c.mobile_sync.ensures.only })
      (λ emb has apart. apart (ap (λ (e : Emb). e.colour)
      (one_emb c.read_emb.result emb c.in-Some.emb (c.read_emb.ensures.only emb has) c.in-Some.is) ∙ c.if-emb-colour.false))
      c.from_octets-bits.ensures.value;
}
