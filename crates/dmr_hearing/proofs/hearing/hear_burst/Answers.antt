use Rattle.std.proofs.Common.{◌≡◌, List, Bool, true, IsTrue, length, ◌∙◌, subst, rules}
use Rattle.dmr_bits.specs.Bits.{bits_of_octets}
use Rattle.dmr_hearing.proofs.Syncs.{voice_within, voice_only}
use Rattle.dmr_hearing.proofs.hearing.hear_burst.Goals as goal

pub returns : goal.returns
returns c =
    let bits : List Bool = bits_of_octets c.args.burst.now in
    let found = c.read_mobile_sync-sync in
    let whole : length c.args.burst.now ≡ 33 = search rules in
    record {
      heard = (
        whole,
        record {
          data_burst_within = c.hear_data_burst.ensures.within;
          data_burst_only = c.hear_data_burst.ensures.only;
          voice = record {
            0 = λ is. voice_within bits found.result found.ensures.within (subst IsTrue c.unwrap_or-heard.ensures is);
            1 = λ has. c.unwrap_or-heard.ensures ∙ voice_only bits found.result true found.ensures.only has;
          };
          emb_within = c.read_emb-heard.ensures.within;
          emb_only = c.read_emb-heard.ensures.only;
          embedded = c.read_embedded-heard.ensures.value;
          vocoder = c.read_vocoder-heard.ensures.value;
        },
      );
    }
