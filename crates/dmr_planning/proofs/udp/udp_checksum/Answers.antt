use Rattle.std.proofs.Common.{refl}
use Rattle.dmr_planning.proofs.udp.udp_checksum.Goals as goal

pub returns : goal.returns
returns c = record {
  value = rw (
    c.sent_checksum.ensures.value,
    c.add_words.ensures.value,
    c.add_words-header.ensures.value,
    c.add_words-pseudo_header.ensures.value,
    c.pseudo_header.ensures.value,
    c.udp_header-blank.ensures.value,
  ) refl;
}
