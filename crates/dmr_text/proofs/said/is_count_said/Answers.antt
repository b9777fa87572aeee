use Rattle.std.proofs.Common.{arith}
use Rattle.dmr_words.specs.Words.{line_words}
use Rattle.dmr_text.proofs.Numbers.{same_count}
use Rattle.dmr_text.proofs.said.is_count_said.Goals as goal

pub returns-in-Some : goal.returns-in-Some
returns-in-Some c =
    let (first, words) = c.in-Some.ensures.count in
    let (rest, begins) = c.requires.records in
    record {
      count = same_count (line_words c.args.line.now) rest first c.in-Some.said c.args.count (omega arith)
          (omega arith) words begins;
    }
