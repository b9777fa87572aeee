use Rattle.dmr_show.proofs.Printed.{strip_put}
use Rattle.dmr_show.proofs.lines.LinesTakerStrip.put.Goals as goal

pub returns-clause-line : goal.returns-clause-line
returns-clause-line g c =
    strip_put c.print_slot-2.result c.args.self.now.filter c.print_slot.new.self.filter c.print_slot-2.new.self.filter
    c.args.self.now.notation c.print_slot.new.self.notation c.print_slot-2.new.self.notation _ _ _ c.args.strip.now
    c.print_slot.ensures.same_filter c.print_slot-2.ensures.same_filter c.print_slot.ensures.same_notation
    c.print_slot-2.ensures.same_notation c.in_ok-print_slot.ensures.lines c.print_slot-2.ensures.lines
