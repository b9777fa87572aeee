use Rattle.std.proofs.Common.{arith}
use Rattle.hex.proofs.HexLemmas.{decode_of-ok}
use Rattle.dmr_script.proofs.SmallOctets.{small_bytes}
use Rattle.dmr_script.proofs.numbers.octets_of.Goals as goal

pub returns-in-Ok : goal.returns-in-Ok
returns-in-Ok c =
    let octets = c.in-Ok.octets.items in
    let both = decode_of-ok c.args.word.now octets c.in-Ok.ensures.ok in
    let twice = both.2 in
    record { few = omega (arith, twice); small = small_bytes octets both.3 }
