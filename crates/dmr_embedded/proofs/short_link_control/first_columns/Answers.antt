use Rattle.std.proofs.Common.{ℕ, Bool, [], false, get_or, arith}
use Rattle.dmr_embedded.proofs.Columns.{has_room, more_cells, more_fits}
use Rattle.dmr_embedded.proofs.short_link_control.first_columns.Goals as goal

pub overflow_mul-number : goal.overflow_mul-number
overflow_mul-number c =
    omega (arith, has_room c.loop-column.column c.loop-column.number c.loop-column.invariant.fits c.loop-column-test.true)

pub overflow_add-number : goal.overflow_add-number
overflow_add-number c =
    omega (
      arith,
      has_room c.loop-column.column c.loop-column.number c.loop-column.invariant.fits c.loop-column-test.true,
      c.column_number.ensures.fits,
    )

pub loop-column-preserved : goal.loop-column-preserved
loop-column-preserved c =
    let f : ℕ → ℕ → Bool = λ r k. get_or (get_or c.args.rows.now r []) k false in
    record {
      fits = more_fits c.loop-column.column c.loop-column.number c.column_number.result c.loop-column.invariant.fits
          c.column_number.ensures.fits;
      cells = more_cells f c.loop-column.column c.loop-column.number c.column_number.result c.column_number.ensures.fits
          c.loop-column.invariant.cells c.column_number.ensures.cells;
    }
