use Rattle.std.proofs.Common.{sym, ◌∙◌}
use Rattle.dmr_words.proofs.Decimals.{answered, not_plain, not_text}
use Rattle.dmr_words.proofs.number.decimal.Goals as goal

pub returns-then-not-has_plain_front-clause-none : goal.returns-then-not-has_plain_front-clause-none
returns-then-not-has_plain_front-clause-none c =
    not_plain c.args.word.now (sym c.has_plain_front.ensures.value ∙ c.if-not-has_plain_front.true)

pub returns-in-Ok-clause-value : goal.returns-in-Ok-clause-value
returns-in-Ok-clause-value c =
    (answered c.args.word.now c.in-Ok.text.now c.parse.result c.ok.result
    (sym c.has_plain_front.ensures.value ∙ c.if-not-has_plain_front.false) c.in-Ok.ensures.cases.0 c.parse.ensures.value.0
    c.ok.ensures.value).0

pub returns-in-Ok-clause-none : goal.returns-in-Ok-clause-none
returns-in-Ok-clause-none c =
    (answered c.args.word.now c.in-Ok.text.now c.parse.result c.ok.result
    (sym c.has_plain_front.ensures.value ∙ c.if-not-has_plain_front.false) c.in-Ok.ensures.cases.0 c.parse.ensures.value.0
    c.ok.ensures.value).1

pub returns-in-Err-clause-none : goal.returns-in-Err-clause-none
returns-in-Err-clause-none c = not_text c.args.word.now c.in-Err.ensures.cases.0
