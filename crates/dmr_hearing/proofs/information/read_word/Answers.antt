use Rattle.std.proofs.Common.{sym, subst}
use Rattle.dmr_bptc.specs.ProductWord.{IsWritten}
use Rattle.dmr_hearing.proofs.Payloads.{word_read, word_unread}
use Rattle.dmr_hearing.proofs.information.read_word.Goals as goal

pub returns-in_default : goal.returns-in_default
returns-in_default c = record { reading = word_unread c.args.kind c.args.received.now c.in_default.ensures.decoded }

pub returns : goal.returns
returns c = record {
  reading = word_read c.args.kind c.args.received.now c.in-Some.restored.information c.word_data_burst.result
      c.in-Some.ensures.decoded
      (record {
        kind_is = c.word_data_burst.ensures.kind;
        encoded = subst (IsWritten c.in-Some.restored.information) (sym c.word_data_burst.ensures.information)
            c.in-Some.ensures.written;
        plain = c.word_data_burst.ensures.link_control;
      });
}
