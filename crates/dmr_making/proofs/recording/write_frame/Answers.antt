use Rattle.std.proofs.Common.{◌++◌, append-nil, ap, subst, sym, List, [], ℕ, Result, Ok, Err}
use Rattle.std.proofs.lemmas.Result.{on_err_weaker}
use Rattle.std.specs.Result.{OnErr}
use Rattle.dmr_record.proofs.Torn.{Tears_after, Tears_more}
use Rattle.dmr_record.specs.Devices.{Tears}
use Rattle.dmr_record.specs.Uplink.{slot_octets}
use Rattle.dmr_making.proofs.recording.write_frame.Goals as goal

pub returns-clause-torn : goal.returns-clause-torn
returns-clause-torn g c =
    let whole = ap (λ (l : List ℕ). slot_octets c.args.one ++ l) (sym (append-nil (slot_octets c.args.two))) in
    on_err_weaker c.write_uplink_slot-2.result (λ torn. subst (Tears _ _) whole
    (Tears_after _ _ _ _ _ c.in_ok-write_uplink_slot.ensures.slot torn)) c.write_uplink_slot-2.ensures.torn

-- where there is an error, this holds
at_error : {T E : Type 0} (r : Result T E) (P : Type 0) → P → OnErr r P
at_error (Ok x) P p = tt
at_error (Err e) P p = p

pub returns-in_err-write_uplink_slot-clause-torn : goal.returns-in_err-write_uplink_slot-clause-torn
returns-in_err-write_uplink_slot-clause-torn g c =
    at_error c.from_residual.result _
    (Tears_more (g.K.Sink.held c.args.sink.now) (g.K.Sink.held c.write_uplink_slot.new.sink) (slot_octets c.args.one)
    (slot_octets c.args.two ++ []) c.in_err-write_uplink_slot.ensures.torn)
