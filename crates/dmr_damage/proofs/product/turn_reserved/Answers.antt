use Rattle.std.proofs.Common.{◌∙◌, ap, not, get_or, false}
use Rattle.dmr_bptc.specs.ProductWord.{column}
use Rattle.dmr_damage.proofs.Near.{column_reserved}
use Rattle.dmr_damage.proofs.product.turn_reserved.Goals as goal

pub returns : goal.returns
returns c =
    record {
      kept = λ d hd. ap (λ b. column b d) c.turn.ensures.value
          ∙ column_reserved c.args.bits.now d (not (get_or c.args.bits.now 0 false)) hd;
    }
