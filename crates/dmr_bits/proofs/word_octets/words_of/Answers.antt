use Rattle.dmr_bits.proofs.OctetWords.{words_of_octets}
use Rattle.dmr_bits.proofs.word_octets.words_of.Goals as goal

pub returns-clause-value : goal.returns-clause-value
returns-clause-value c =
    words_of_octets c.args.octets.now c.word_of.result c.word_of-2.result c.word_of-3.result c.word_of-4.result c.word_of-5.result
    c.told-octets c.word_of.ensures.value c.word_of-2.ensures.value c.word_of-3.ensures.value c.word_of-4.ensures.value
    c.word_of-5.ensures.value
