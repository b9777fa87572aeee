use Rattle.std.proofs.Common.{not, get_or, false, ◌+◌, ◌*◌}
use Rattle.dmr_damage.proofs.Near.{row_kept, row_near}
use Rattle.dmr_damage.proofs.superframe.turn_cell.Goals as goal

pub returns : goal.returns
returns c =
    rw (c.turn.ensures.value) (record {
      kept = λ r hr apart. row_kept c.args.bits.now c.args.row_number c.args.column_number r
          (not (get_or c.args.bits.now (8 * c.args.column_number + c.args.row_number) false))
          c.requires.inside_rows c.requires.inside_columns hr apart;
      near = row_near c.args.bits.now c.args.row_number c.args.column_number
          (not (get_or c.args.bits.now (8 * c.args.column_number + c.args.row_number) false)) c.turn.ensures.length
          c.requires.inside_rows c.requires.inside_columns;
    })
