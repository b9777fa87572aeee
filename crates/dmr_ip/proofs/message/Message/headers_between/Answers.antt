use Rattle.std.proofs.Common.{arith}
use Rattle.dmr_ip.specs.Contents.{Contents, FitsDatagram}
use Rattle.dmr_ip.proofs.message.Message.headers_between.Goals as goal

pub returns-clause-fits : goal.returns-clause-fits
returns-clause-fits c =
    let inside = c.self.inside in
    let contents : Contents = record {
      identification = inside.identification;
      source_port = inside.source_port;
      destination_port =
          inside.destination_port;
      payload = inside.payload.now;
    } in
    let fits : FitsDatagram contents = record {
      identification = omega arith;
      source_port = omega arith;
      destination_port = omega arith;
      payload = c.self.invariant.0;
      room = c.self.invariant.1;
    } in
    rw c.self.view_is at fits
