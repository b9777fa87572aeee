use Rattle.std.proofs.Common.{rules, ◌≡◌, ◌<◌, ℕ, length, get_or}
use Rattle.dmr_record.proofs.Numbers.{fields_spelled}
use Rattle.dmr_record.proofs.outgoing.fields_of.Goals as goal

pub returns : goal.returns
returns c =
    let eight : length c.args.octets ≡ 8 = search rules in
    let each : (i : ℕ) → get_or c.args.octets i 0 < 256 = search rules in
    record {
      octets = fields_spelled c.args.octets c.read_u32.result c.read_u16.result eight each c.read_u32.ensures
          c.read_u16.ensures;
    }
