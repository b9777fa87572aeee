use Rattle.std.proofs.Common.{◌≡◌, ◌∷◌, length, ap, sym, ◌∙◌, arith}
use Rattle.std.proofs.lemmas.Bool.{eqb-true, eqb-false}
use Rattle.dmr_words.specs.Words.{line_words}
use Rattle.dmr_words.proofs.Parts.{took_none, took_word}
use Rattle.dmr_words.proofs.words.WordsIterator.next.Goals as goal

pub returns-then-is_empty-clause-steps : goal.returns-then-is_empty-clause-steps
returns-then-is_empty-clause-steps c =
    let none = took_none c.self.inside.rest.now c.split_at-2.result.0.now c.split_at.result.1.now c.split_at-2.result.1.now
    c.blanks_in_front.result c.word_length.result c.blanks_in_front.ensures.value c.split_at.ensures.back
    c.word_length.ensures.value c.split_at-2.ensures.front c.split_at-2.ensures.back
    (eqb-true _ 0 (sym c.is_empty.ensures ∙ c.if-is_empty.true)) in
    (sym c.self.view_is ∙ none.0, none.1)

pub returns-clause-steps : goal.returns-clause-steps
returns-clause-steps c =
    let word = took_word c.self.inside.rest.now c.split_at-2.result.0.now c.split_at.result.1.now c.split_at-2.result.1.now
    c.blanks_in_front.result c.word_length.result c.blanks_in_front.ensures.value c.split_at.ensures.back
    c.word_length.ensures.value c.split_at-2.ensures.front c.split_at-2.ensures.back
    (eqb-false _ 0 (sym c.is_empty.ensures ∙ c.if-is_empty.false)) in
    sym c.self.view_is ∙ word

pub returns-clause-goes : goal.returns-clause-goes
returns-clause-goes c =
    let word = took_word c.self.inside.rest.now c.split_at-2.result.0.now c.split_at.result.1.now c.split_at-2.result.1.now
    c.blanks_in_front.result c.word_length.result c.blanks_in_front.ensures.value c.split_at.ensures.back
    c.word_length.ensures.value c.split_at-2.ensures.front c.split_at-2.ensures.back
    (eqb-false _ 0 (sym c.is_empty.ensures ∙ c.if-is_empty.false)) in
    let longer : length c.args.self.now ≡ length (c.split_at-2.result.0.now ∷ line_words c.split_at-2.result.1.now) =
    ap length (sym c.self.view_is ∙ word) in
    record { on = λ f. (tt, tt, omega (arith, longer)); keeps = tt; rests = λ f. tt }
