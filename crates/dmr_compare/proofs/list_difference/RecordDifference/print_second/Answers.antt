use Rattle.std.proofs.Common.{◌++◌, List, ℕ, codes, sym, ap, ◌∙◌, subst}
use Rattle.std.proofs.lemmas.List.{append_assoc}
use Rattle.std.specs.Io.KnownBytes.{Appends}
use Rattle.dmr_compare.proofs.Printed.{on_ok}
use Rattle.dmr_compare.specs.ListRecords.{ending_of_records}
use Rattle.dmr_compare.proofs.list_difference.RecordDifference.print_second.Goals as goal

pub returns-clause-line : goal.returns-clause-line
returns-clause-line g c =
    let shown = c.line_of.result.now in
    let ending = ending_of_records c.args.self.now in
    let same = ap (λ (l : List ℕ). shown ++ l) c.ending.ensures.value ∙ sym (append_assoc shown ending (codes "\n")) in
    on_ok c.put_both.result
    (λ put. record {
      shown = shown;
      one = c.line_of.ensures.one;
      octets = subst (Appends (g.K.Sink.held c.args.sink.now) (g.K.Sink.held c.put_both.new.sink)) same put;
    })
    c.put_both.ensures.octets
