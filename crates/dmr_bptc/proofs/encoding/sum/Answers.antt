use Rattle.std.proofs.Common.{ℕ, List, get_or}
use Rattle.std.proofs.lemmas.Nat.{xor_lt}
use Rattle.dmr_bptc.proofs.AddingOctets.{spelled_xor}
use Rattle.dmr_bptc.proofs.encoding.sum.Goals as goal

pub returns-clause-value : goal.returns-clause-value
returns-clause-value c =
    let w : List ℕ = c.args.words.now in
    let o : List ℕ = c.args.others.now in
    spelled_xor (get_or w 0 0) (get_or w 1 0) (get_or w 2 0) (get_or w 3 0) (get_or o 0 0) (get_or o 1 0) (get_or o 2 0)
    (get_or o 3 0)

pub returns-clause-fits : goal.returns-clause-fits
returns-clause-fits c = xor_lt 4 (get_or c.args.words.now 3 0) (get_or c.args.others.now 3 0) c.requires.fits c.requires.others
