use Rattle.std.proofs.Common.{subst}
use Rattle.std.specs.Prelude.{OnErr}
use Rattle.dmr_record.proofs.Torn.{Tears_more}
use Rattle.dmr_record.specs.Devices.{Tears}
use Rattle.dmr_record.specs.Uplink.{slot_octets}
use Rattle.dmr_dmrd.proofs.Frames.{pair_octets, second_torn}
use Rattle.dmr_dmrd.proofs.recording.write_frame.Goals as goal

pub returns-in-Err-clause-torn : goal.returns-in-Err-clause-torn
returns-in-Err-clause-torn g c =
    subst (λ l. Tears (g.K.Sink.held c.args.sink.now) (g.K.Sink.held c.write_uplink_slot.new.sink) l)
    (pair_octets c.args.one c.args.two)
    (Tears_more _ _ (slot_octets c.args.one) (slot_octets c.args.two) c.in-Err.ensures.torn)

pub returns-clause-torn : goal.returns-clause-torn
returns-clause-torn g c =
    subst (λ l. OnErr c.write_uplink_slot-2.result (Tears (g.K.Sink.held c.args.sink.now)
    (g.K.Sink.held c.write_uplink_slot-2.new.sink) l))
    (pair_octets c.args.one c.args.two)
    (second_torn c.write_uplink_slot-2.result (g.K.Sink.held c.args.sink.now) (g.K.Sink.held c.write_uplink_slot.new.sink)
    (g.K.Sink.held c.write_uplink_slot-2.new.sink) (slot_octets c.args.one) (slot_octets c.args.two)
    c.in_default.ensures.slot c.write_uplink_slot-2.ensures.torn)
