use Rattle.std.proofs.Common.{◌≡◌, ◌≤◌, ◌∙◌, List, Bool, arith, subst, sym}
use Rattle.std.specs.Cmp.Lexicographic.{same_text}
use Rattle.dmr_bits.specs.Bits.{distance}
use Rattle.dmr_bptc.specs.ProductWord.{column}
use Rattle.dmr_bptc.proofs.Alike.{packed_alike}
use Rattle.dmr_bptc.proofs.Near.{no_distance}
use Rattle.dmr_bptc.proofs.Restoring.{decoded_as_near}
use Rattle.dmr_bptc.proofs.decoding.is_received.Goals as goal

pub returns : goal.returns
returns c =
    let word : List Bool = c.with_reserved_cells.result in
    let bits : List Bool = c.args.bits.now in
    record {
      decoded = λ is message written.
          let same : word ≡ bits = packed_alike 196 word bits (omega arith) c.with_reserved_cells.ensures.long
          c.with_reserved_cells.ensures.length (same_text _ _ (sym is ∙ c.eq.ensures)) in
          decoded_as_near message word bits (c.with_reserved_cells.ensures.word written.word)
          (c.with_reserved_cells.ensures.information ∙ written.holds)
          (λ k few. subst (λ (x : List Bool). distance (column word k) (column x k) ≤ 1) same
          (omega (arith, no_distance (column word k))));
    }
