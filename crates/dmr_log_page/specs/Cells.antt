-- The cells of a row, as they are written.
use Rattle.dmr_log_page.specs.Rows.{PageCells}
use Rattle.dmr_log_page.specs.declared.row.TableCells.{TableCells}

-- the texts of the cells of a row
abbrev pub page_cells_of : TableCells → PageCells
page_cells_of cells = record {
  start = cells.start.bytes;
  slot = cells.slot.bytes;
  what = cells.what.bytes;
  from = cells.from.bytes;
  to = cells.to.bytes;
  seconds = cells.seconds.bytes;
  there = cells.there.bytes;
  wrong = cells.wrong.bytes;
  end = cells.end.bytes;
}
