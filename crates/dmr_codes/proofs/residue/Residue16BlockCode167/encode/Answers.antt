use Rattle.dmr_codes.specs.Seven.{residue16_columns, residue16_shaped}
use Rattle.dmr_codes.proofs.AllWords.{residue16_words}
use Rattle.dmr_codes.proofs.residue.Residue16BlockCode167.encode.Goals as goal

pub returns-clause-word : goal.returns-clause-word
returns-clause-word c = c.word_of.ensures.word residue16_columns residue16_shaped residue16_words

pub returns-clause-information : goal.returns-clause-information
returns-clause-information c = c.word_of.ensures.information residue16_columns residue16_shaped residue16_words
