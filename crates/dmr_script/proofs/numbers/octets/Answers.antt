use Rattle.std.proofs.Common.{length}
use Rattle.std.proofs.Math.ListN.{replicate}
use Rattle.dmr_script.proofs.SmallOctets.{small_read}
use Rattle.dmr_script.proofs.numbers.octets.Goals as goal

pub returns-in-Ok-clause-small : goal.returns-in-Ok-clause-small
returns-in-Ok-clause-small g c =
    let room = length (replicate g.row.N 0) in
    let read = c.decode_to_slice.ensures.value in
    small_read c.in_ok-word.word.now room c.decode_to_slice.result c.decode_to_slice.new.out read c.in-Ok.is
