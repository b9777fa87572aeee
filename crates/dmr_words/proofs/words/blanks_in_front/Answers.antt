use Rattle.std.proofs.Common.{sym, ◌∙◌, arith}
use Rattle.std.proofs.lemmas.List.Sums.{prefix_len_is}
use Rattle.dmr_words.specs.Words.{is_blank}
use Rattle.dmr_words.proofs.words.blanks_in_front.Goals as goal

pub returns-else-is_blank : goal.returns-else-is_blank
returns-else-is_blank c =
    let i = c.loop-count.invariant in
    let stops = sym c.is_blank.ensures.value ∙ c.if-is_blank.false in
    record {
      value = sym (prefix_len_is is_blank c.args.octets.now c.loop-count.count 0 i.within i.blanks (λ l. stops));
      within = i.within;
    }

pub returns-after-loop-count : goal.returns-after-loop-count
returns-after-loop-count c =
    let i = c.loop-count.invariant in
    let end = c.loop-count-test.false in
    record {
      value = sym (prefix_len_is is_blank c.args.octets.now c.loop-count.count 0 i.within i.blanks (λ l. absurd (omega (
        arith,
        l,
        end,
      ))));
      within = i.within;
    }
