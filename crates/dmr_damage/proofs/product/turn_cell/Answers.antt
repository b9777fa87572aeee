use Rattle.std.proofs.Common.{not, get_or, false}
use Rattle.dmr_bptc.specs.ProductWord.{place}
use Rattle.dmr_damage.proofs.Near.{column_kept, column_near}
use Rattle.dmr_damage.proofs.product.turn_cell.Goals as goal

pub returns : goal.returns
returns c =
    rw (c.turn.ensures.value, c.place_of.ensures.value) (record {
      kept = λ d hd apart. column_kept c.args.bits.now c.args.row_number c.args.column_number d
          (not (get_or c.args.bits.now (place c.args.row_number c.args.column_number) false))
          c.requires.inside_rows c.requires.inside_columns hd apart;
      near = column_near c.args.bits.now c.args.row_number c.args.column_number
          (not (get_or c.args.bits.now (place c.args.row_number c.args.column_number) false)) c.turn.ensures.length
          c.requires.inside_rows c.requires.inside_columns;
    })
