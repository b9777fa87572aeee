use Rattle.std.proofs.Common.{rules}
use Rattle.std.specs.Option.{option_copied}
use Rattle.dmr_station.proofs.Pairs.{both_sent, both_set}
use Rattle.dmr_station.proofs.sending.encode_frame.Goals as goal

pub returns : goal.returns
returns c = record {
  sent = rw (both_set c.args.records.now c.encode_slot.new.encoded c.encode_slot-2.new.encoded (search rules))
      (both_sent option_copied c.args.place c.args.message c.args.outs.now c.args.bursts.now c.encode_slot.new.encoded
      c.encode_slot-2.new.encoded c.index-outs-0.result c.index-outs-1.result c.index-bursts-0.result c.index-bursts-1.result
      c.type_inv.outs c.type_inv.bursts c.index-outs-0.is c.index-outs-1.is c.index-bursts-0.is c.index-bursts-1.is
      (search rules) (search rules));
}
