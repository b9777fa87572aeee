use Rattle.dmr_embedded.proofs.Spreading.{cells_added, cells_kept}
use Rattle.dmr_embedded.proofs.spread.with_cells.Goals as goal

pub returns-clause-added : goal.returns-clause-added
returns-clause-added c k h = cells_added c.args.field c.args.cells c.args.row_number k c.requires.four c.requires.inside h

pub returns-clause-kept : goal.returns-clause-kept
returns-clause-kept c k r h l apart =
    cells_kept c.args.field c.args.cells c.args.row_number k r c.requires.four c.requires.inside h l apart
