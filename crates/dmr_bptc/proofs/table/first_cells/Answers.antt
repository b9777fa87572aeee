use Rattle.std.proofs.Common.{ℕ, false, get_or, refl, sym, ◌∙◌, ap, arith}
use Rattle.std.proofs.lemmas.List.{get_or-take}
use Rattle.std.proofs.lemmas.Nat.{shr_below}
use Rattle.dmr_bits.specs.Bits.{bits_of}
use Rattle.dmr_bits.proofs.Widths.{bits_of-take}
use Rattle.dmr_bptc.specs.ProductWord.{cell}
use Rattle.dmr_bptc.proofs.RowNumbers.{cell_laid}
use Rattle.dmr_bptc.proofs.table.first_cells.Goals as goal

pub returns : goal.returns
returns c =
    let n : ℕ = get_or c.bits.inside.rows c.args.row_number 0 in
    record {
      fits = shr_below n 11 4 (c.bits.invariant.small c.args.row_number 0 (omega
          (arith, c.requires.inside, c.bits.invariant.long)));
      cells = λ k h. ap (λ l. get_or l k false) (sym (bits_of-take 11 4 15 n refl))
          ∙ get_or-take 11 (bits_of 15 n) k false h
          ∙ sym (cell_laid c.bits.inside.rows c.args.row_number k c.requires.inside (omega arith))
          ∙ ap (λ l. cell l c.args.row_number k) c.bits.view_is;
    }
