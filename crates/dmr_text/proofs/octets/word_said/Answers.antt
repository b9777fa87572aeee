use Rattle.std.proofs.Common.{arith}
use Rattle.dmr_text.proofs.Hexes.{too_many}
use Rattle.dmr_text.proofs.octets.word_said.Goals as goal

pub returns-then-length-room-clause-none : goal.returns-then-length-room-clause-none
returns-then-length-room-clause-none c octets few says =
    too_many c.args.word.now (omega (arith, c.requires.room, c.if-length-room.true)) octets few says
