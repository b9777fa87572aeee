use Rattle.std.proofs.Common.{subst}
use Rattle.dmr_bits.specs.Bits.{bits_of_octets}
use Rattle.dmr_hearing.specs.Damage.{HasNoMobileSync}
use Rattle.dmr_damage.proofs.Marked.{none_sought}
use Rattle.dmr_damage.proofs.burst.damaged_foreign_voice.Goals as goal

pub returns-in-None : goal.returns-in-None
returns-in-None c = record {
  damaged = record {
    emb = c.write_emb.ensures.emb;
    centre = subst HasNoMobileSync c.octets-octets.ensures.spelled
        (none_sought (bits_of_octets c.octets-octets.result) c.mobile_sync.result c.in-None.is
        (record { within = c.mobile_sync.ensures.within; only = c.mobile_sync.ensures.only }));
    embedded = c.write_emb.ensures.embedded;
    vocoder = c.write_emb.ensures.vocoder;
  };
}
