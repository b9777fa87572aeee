use Rattle.std.proofs.Common.{◌≡◌, ℕ, List, length, Option, None, Some, not, sym, ◌∙◌, arith}
use Rattle.std.proofs.lemmas.Bool.{false_from_ne_true}
use Rattle.std.proofs.lemmas.List.Sums.{position_or_len_is, prefix_len-le-length}
use Rattle.std.specs.List.{position_or_len}
use Rattle.std.specs.Option.{unwrap_or}
use Rattle.memchr.specs.Find.{IsFirstByte, is_byte2}
use Rattle.dmr_words.specs.Words.{is_blank}
use Rattle.dmr_words.proofs.words.word_length.Goals as goal

-- the place that was found, or the length
found : (octets : List ℕ) (r : Option ℕ) → IsFirstByte (is_byte2 32 9) octets r
    → unwrap_or r (length octets) ≡ position_or_len is_blank octets
found octets None h = sym (
    position_or_len_is is_blank octets (length octets) 0 (omega arith) (λ k l. false_from_ne_true _ (h k (omega arith) l))
    (λ l. absurd (omega (arith, l)))
    )
found octets (Some k) h = sym (
    position_or_len_is is_blank octets k 0 (omega (arith, h.0.high))
    (λ j l. false_from_ne_true _ (h.0.before j (omega arith) l)) (λ l. h.1)
    )

pub returns : goal.returns
returns c =
    let value = c.unwrap_or.ensures ∙ found c.args.octets.now c.memchr2.result c.memchr2.ensures in
    record {
      value = value;
      within = omega (arith, value, prefix_len-le-length (λ octet. not (is_blank octet)) c.args.octets.now);
    }
