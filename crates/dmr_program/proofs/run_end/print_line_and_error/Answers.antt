use Rattle.std.proofs.KnownBytes.{Appends-trans}
use Rattle.dmr_lines.specs.Line.{error_octets, line_octets}
use Rattle.dmr_program.proofs.Told.{printed_well}
use Rattle.dmr_program.proofs.run_end.print_line_and_error.Goals as goal

pub returns-in-0-clause-both : goal.returns-in-0-clause-both
returns-in-0-clause-both g c well =
    let first = c.print_line.ensures in
    record {
      first = c.args.line.now;
      one = c.requires.one;
      octets = Appends-trans
          (g.E.Sink.held c.args.err.now)
          (g.E.Sink.held c.print_line.new.sink)
          (g.E.Sink.held c.print_error.new.sink)
          (line_octets c.args.line.now)
          (error_octets c.args.more.now)
          (first.octets (printed_well _ _ first.failed c.in-0.is))
          (c.print_error.ensures.octets well);
    }
