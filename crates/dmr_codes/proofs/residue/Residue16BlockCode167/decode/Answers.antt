use Rattle.dmr_codes.specs.Seven.{residue16_columns, residue16_shaped}
use Rattle.dmr_codes.proofs.AllWords.{residue16_words, residue16_tells}
use Rattle.dmr_codes.proofs.residue.Residue16BlockCode167.decode.Goals as goal

pub returns-clause-within : goal.returns-clause-within
returns-clause-within c = c.nearest.ensures.within residue16_columns residue16_shaped residue16_words

pub returns-clause-only : goal.returns-clause-only
returns-clause-only c = c.nearest.ensures.only residue16_columns residue16_shaped residue16_words residue16_tells
