use Rattle.std.proofs.Common.{eqb-true}
use Rattle.std.proofs.lemmas.Bool.{eq-eqb}
use Rattle.dmr_bptc.proofs.RightColumns.{none_of, none_from}
use Rattle.dmr_bptc.proofs.table.checks.none_fails.Goals as goal

pub returns : goal.returns
returns c = record {
  tells = (
    λ e k h. none_of c.args.failing.now k (eqb-true _ 0 e),
    λ none. eq-eqb _ 0 (none_from c.args.failing.now c.told-failing c.requires.fits none),
  );
}
