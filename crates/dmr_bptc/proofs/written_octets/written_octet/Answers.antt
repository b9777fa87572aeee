use Rattle.std.proofs.Common.{ℕ, subst, sym, arith}
use Rattle.dmr_bptc.specs.Octets.{octet_alone, spelled}
use Rattle.dmr_bptc.specs.ProductWord.{IsWritten}
use Rattle.dmr_bptc.proofs.WrittenOctets.{entry, octet_written, last_fits}
use Rattle.dmr_bptc.proofs.written_octets.written_octet.Goals as goal

pub returns-clause-written : goal.returns-clause-written
returns-clause-written c =
    let place : ℕ = c.args.place in
    let octet : ℕ = c.args.octet in
    subst (λ (n : ℕ). IsWritten (octet_alone place octet) (spelled (entry place n))) (sym c.from.ensures)
    (octet_written place octet c.requires.inside (omega arith))

pub returns-clause-fits : goal.returns-clause-fits
returns-clause-fits c = last_fits c.args.place c.from.result c.requires.inside (omega (arith, c.from.ensures))
