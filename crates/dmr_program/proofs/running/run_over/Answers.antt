use Rattle.dmr_station.specs.StationRules.{settings_of}
use Rattle.dmr_repeater.specs.Files.{Files, files}
use Rattle.dmr_program.proofs.Listed.{ends_over}
use Rattle.dmr_program.proofs.running.run_over.Goals as goal

pub returns-clause-listed : goal.returns-clause-listed
returns-clause-listed g c =
    let a : Files = files (g.U.Source.left c.args.uplink.now) (g.O.Source.left c.args.outgoing.now)
    (g.D.Sink.held c.args.downlink.now) (g.R.Sink.held c.args.received.now) in
    let z : Files = files (g.U.Source.left c.run.new.uplink) (g.O.Source.left c.run.new.outgoing)
    (g.D.Sink.held c.run.new.downlink) (g.R.Sink.held c.run.new.received) in
    λ sendings has. ends_over (settings_of c.args.config) c.run.result a z sendings c.run.ensures.by_the_rules
    c.run.ensures.outgoing_fault has
