use Rattle.std.proofs.Common.{◌≤◌, List, Bool, Some, arith}
use Rattle.dmr_bits.specs.Bits.{distance}
use Rattle.dmr_codes.proofs.Flips.{found_word, only_word}
use Rattle.dmr_codes.proofs.block_code.BlockCode.decode.Goals as goal

pub returns : goal.returns
returns g c =
    let met = g.met.Self.BlockCode in
    let found = rw (c.COLUMNS-2.ensures, c.REACH.ensures) at c.seek-2.ensures.within in
    let none = rw (c.COLUMNS-2.ensures, c.REACH.ensures) at c.seek-2.ensures.beyond in
    record {
      within = found_word g.row.N g.row.K g.Self.BlockCode.REACH g.Self.BlockCode.COLUMNS c.args.received.now c.seek-2.result
          met.shaped found;
      only = only_word g.row.N g.row.K g.Self.BlockCode.REACH g.Self.BlockCode.DISTANCE g.Self.BlockCode.COLUMNS c.args.received.now
          c.seek-2.result
          met.shaped c.syndrome-checks.ensures.length met.least_weight met.apart found none;
    }

pub returns-in-Some : goal.returns-in-Some
returns-in-Some g c =
    let met = g.met.Self.BlockCode in
    let word : List Bool = c.in-Some.word in
    let it = rw c.COLUMNS-in-loop-wrong.ensures at c.in-Some.ensures.within in
    let close : distance word c.args.received.now ≤ c.loop-wrong.wrong = it.2 in
    let near : distance word c.args.received.now ≤ g.Self.BlockCode.REACH =
    omega (arith, close, c.REACH-wrong-end.ensures, c.loop-wrong-test.true) in
    record {
      within = found_word g.row.N g.row.K g.Self.BlockCode.REACH g.Self.BlockCode.COLUMNS c.args.received.now (Some word) met.shaped
          (it.0, it.1, near);
      only = only_word g.row.N g.row.K g.Self.BlockCode.REACH g.Self.BlockCode.DISTANCE g.Self.BlockCode.COLUMNS c.args.received.now
          (Some word)
          met.shaped c.syndrome-checks.ensures.length met.least_weight met.apart (it.0, it.1, near) tt;
    }
