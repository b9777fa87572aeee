use Rattle.std.proofs.Common.{rules, ◌≡◌, ◌≤◌, true, length, sym, ◌∙◌}
use Rattle.std.specs.Prelude.{◌&&◌, nat_le}
use Rattle.dmr_show.proofs.Printed.{both_true, puts_where_done}
use Rattle.dmr_show.specs.Filter.{is_in_slot}
use Rattle.dmr_show.proofs.lines.Lines.print_slot.Goals as goal

pub returns-in-Some-clause-lines : goal.returns-in-Some-clause-lines
returns-in-Some-clause-lines g c =
    let has : c.args.slot ≤ length c.args.strip.now.marks = search rules in
    let known : nat_le c.args.slot (length c.args.strip.now.marks) ≡ true = search rules in
    puts_where_done c.write.result
    (is_in_slot c.args.self.now.filter c.args.slot && nat_le c.args.slot (length c.args.strip.now.marks)) _ _
    (both_true _ _ (sym c.has_slot.ensures.value ∙ c.if-has_slot.true) known) c.write.ensures.line
