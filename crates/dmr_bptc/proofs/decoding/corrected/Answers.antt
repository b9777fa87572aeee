use Rattle.std.proofs.Common.{sym, subst, ◌∙◌}
use Rattle.std.proofs.lemmas.Bool.{both_ways, and_parts}
use Rattle.dmr_codes.specs.Seven.{IsHamming13}
use Rattle.dmr_bptc.specs.ProductWord.{IsProductWord}
use Rattle.dmr_bptc.proofs.Cells.{column_same}
use Rattle.dmr_bptc.proofs.decoding.corrected.Goals.{then-columns-rows, else-columns-rows}
use Rattle.dmr_bptc.proofs.Correcting.{from_received}
use Rattle.dmr_bptc.proofs.decoding.corrected.Goals as goal

-- a table is found to be a product word: all columns and rows were words, or the columns are tested
found : (c : goal.After-information_of) → IsProductWord c.correct_rows-rows.new.bits
found c = elim c.if-columns-rows.branch [
  | then-columns-rows w ↦
      (let both = and_parts c.correct_columns-columns.result c.correct_rows-rows.result w.if-columns-rows.true in
      record {
        rows = c.correct_rows-rows.ensures.words;
        columns = λ d l. subst IsHamming13
            (sym (column_same c.correct_rows-rows.new.bits c.correct_columns-columns.new.table d
            (λ r h. c.correct_rows-rows.ensures.same both.1 r d h l))) (c.correct_columns-columns.ensures.words both.0 d l);
      })
  | else-columns-rows w ↦ record {
    rows = c.correct_rows-rows.ensures.words;
    columns = w.are_columns_words.ensures.tells.0 (sym w.value-is ∙ c.if-are_columns_words.true);
  }
]

none : (c : goal.Else-are_columns_words) → IsProductWord c.correct_rows-rows.new.bits → ⊥
none c is = elim c.if-columns-rows.branch [
  | then-columns-rows w ↦ both_ways c.if-columns-rows.value c.if-are_columns_words.false (w.value-is ∙ w.if-columns-rows.true)
  | else-columns-rows w ↦ both_ways w.are_columns_words.result (sym w.value-is
      ∙ c.if-are_columns_words.false) (w.are_columns_words.ensures.tells.1 is.columns)
]

pub returns-then-are_columns_words : goal.returns-then-are_columns_words
returns-then-are_columns_words c = record {
  decoded = record {
    middle = c.correct_columns-columns.new.table;
    last = c.correct_rows-rows.new.bits;
    columns = from_received c.args.bits.now c.table_of-table.result c.correct_columns-columns.new.table
        c.table_of-table.ensures.cells c.correct_columns-columns.ensures.corrected;
    rows = c.correct_rows-rows.ensures.corrected;
    outcome = (found c, c.information_of.ensures.value);
  };
}

pub returns-else-are_columns_words : goal.returns-else-are_columns_words
returns-else-are_columns_words c = record {
  decoded = record {
    middle = c.correct_columns-columns.new.table;
    last = c.correct_rows-rows.new.bits;
    columns = from_received c.args.bits.now c.table_of-table.result c.correct_columns-columns.new.table
        c.table_of-table.ensures.cells c.correct_columns-columns.ensures.corrected;
    rows = c.correct_rows-rows.ensures.corrected;
    outcome = none c;
  };
}
