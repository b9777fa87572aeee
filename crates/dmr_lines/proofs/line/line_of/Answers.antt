use Rattle.std.proofs.Common.{◌≡◌, ◌≢◌, ℕ, ◌<◌, List, length, get_or, None, Some, sym, ◌∙◌, arith}
use Rattle.std.specs.Prelude.{◌==◌}
use Rattle.std.specs.List.{before_first, position_or_len}
use Rattle.std.proofs.lemmas.List.{get_or_default, take_all}
use Rattle.std.proofs.lemmas.Str.Pattern.{split_parts, split_once_first}
use Rattle.dmr_lines.specs.Line.{IsOneLine}
use Rattle.dmr_lines.proofs.line.line_of.Goals as goal

one_line : (text : List ℕ) → ((i : ℕ) → i < length text → get_or text i 0 ≢ 10) → IsOneLine text
one_line text lacks = λ k d within is. lacks k within (get_or_default text k 0 d within ∙ is)

-- Where no element passes, all stand before the first that does.
all_before : (text : List ℕ) → position_or_len (λ b. b == 10) text ≡ length text → text ≡ before_first (λ b. b == 10) text
all_before text none = sym (take_all (position_or_len (λ b. b == 10) text) text (omega (arith, none)))

pub returns-in-Some-clause-one : goal.returns-in-Some-clause-one
returns-in-Some-clause-one c =
    let parts = split_parts 10 c.args.text.now (Some (c.in-Some.line, c.in-Some.field-0-1)) c.in-Some.ensures.cases (omega arith) in
    one_line _ parts.1

pub returns-in-None-clause-one : goal.returns-in-None-clause-one
returns-in-None-clause-one c = one_line _ (split_parts 10 c.args.text.now None c.in-None.ensures.cases (omega arith))

pub returns-in-Some-clause-line : goal.returns-in-Some-clause-line
returns-in-Some-clause-line c =
    let parts = split_once_first 10 c.args.text.now (Some (c.in-Some.line, c.in-Some.field-0-1))
    c.in-Some.ensures.cases (omega arith) in
    parts.1

pub returns-in-None-clause-line : goal.returns-in-None-clause-line
returns-in-None-clause-line c =
    all_before c.args.text.now (split_once_first 10 c.args.text.now None c.in-None.ensures.cases (omega arith))
