use Rattle.std.proofs.Common.{arith, take, ◌++◌}
use Rattle.std.proofs.lemmas.List.{length-append, length-take-le}
use Rattle.std.proofs.lemmas.Result.{on_err_weaker}
use Rattle.std.proofs.KnownBytes.{Consumes-trans}
use Rattle.dmr_record.proofs.uplink.read_burst.Goals as goal

pub returns-in-Ok-clause-part : goal.returns-in-Ok-clause-part
returns-in-Ok-clause-part g c =
    let front = take c.in-Ok.came c.read.new.buffer in
    let came = length-take-le c.in-Ok.came c.read.new.buffer c.in-Ok.ensures.count in
    on_err_weaker c.fill_whole.result (λ (part, fewer, took). (
      front ++ part,
      omega (arith, fewer, came, length-append front part),
      Consumes-trans _ _ _ front part c.in-Ok.ensures.octets.0 took,
    )) c.fill_whole.ensures.part
