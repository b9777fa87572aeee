use Rattle.std.proofs.Common.{sym, ◌∙◌}
use Rattle.std.proofs.lemmas.Slice.Eq.{bytes_eq-Decides}
use Rattle.dmr_text.proofs.Numbers.{first_slot, second_slot}
use Rattle.dmr_text.proofs.said.slot_said.Goals as goal

pub returns-then-eq-clause-slot : goal.returns-then-eq-clause-slot
returns-then-eq-clause-slot c =
    let same = (bytes_eq-Decides c.args.word.now c.as_slice.result.now).0 (sym c.if-eq.ensures) in
    first_slot c.args.word.now (same ∙ c.as_slice.ensures)

pub returns-then-eq-2-clause-slot : goal.returns-then-eq-2-clause-slot
returns-then-eq-2-clause-slot c =
    let same = (bytes_eq-Decides c.args.word.now c.as_slice-2.result.now).0 (sym c.if-eq-2.ensures) in
    second_slot c.args.word.now (same ∙ c.as_slice-2.ensures)
