use Rattle.std.proofs.Common.{◌∙◌, ap, replicate, None}
use Rattle.dmr_arq.proofs.Bitmap.{cells_of-none}
use Rattle.dmr_arq.proofs.cells.Cells.restart.Goals as goal

pub returns : goal.returns
returns c = record {
  value = cells_of-none c.set_places.new.cells.items ∙ ap (λ n. replicate n None) c.set_places.ensures.count;
}
