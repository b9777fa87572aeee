use Rattle.std.proofs.Common.{◌≡◌, ℕ, List, length, Option, None, Some, sym, ◌∙◌, arith}
use Rattle.std.proofs.lemmas.Bool.{false_from_ne_true}
use Rattle.std.proofs.lemmas.List.Sums.{position_or_len_is}
use Rattle.std.specs.Option.{unwrap_or}
use Rattle.memchr.specs.Find.{IsFirstByte, is_byte}
use Rattle.dmr_words.specs.Lines.{is_line_feed, line_length}
use Rattle.dmr_words.proofs.lines.line_length.Goals as goal

-- the place that was found, or the length
found : (octets : List ℕ) (r : Option ℕ) → IsFirstByte (is_byte 10) octets r → unwrap_or r (length octets) ≡ line_length octets
found octets None h = sym (
    position_or_len_is is_line_feed octets (length octets) 0 (omega arith) (λ k l. false_from_ne_true _ (h k (omega arith) l))
    (λ l. absurd (omega (arith, l)))
    )
found octets (Some k) h = sym (
    position_or_len_is is_line_feed octets k 0 (omega (arith, h.0.high))
    (λ j l. false_from_ne_true _ (h.0.before j (omega arith) l)) (λ l. h.1)
    )

pub returns : goal.returns
returns c = record { value = c.unwrap_or.ensures ∙ found c.args.octets.now c.memchr.result c.memchr.ensures }
