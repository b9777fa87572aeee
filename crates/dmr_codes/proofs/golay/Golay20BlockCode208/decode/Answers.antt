use Rattle.dmr_codes.specs.Seven.{golay20_columns, golay20_shaped}
use Rattle.dmr_codes.proofs.AllWords.{golay20_words, golay20_tells}
use Rattle.dmr_codes.proofs.golay.Golay20BlockCode208.decode.Goals as goal

pub returns-clause-within : goal.returns-clause-within
returns-clause-within c = c.nearest.ensures.within golay20_columns golay20_shaped golay20_words

pub returns-clause-only : goal.returns-clause-only
returns-clause-only c = c.nearest.ensures.only golay20_columns golay20_shaped golay20_words golay20_tells
