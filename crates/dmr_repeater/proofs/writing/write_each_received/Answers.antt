use Rattle.std.proofs.Common.{refl, sym}
use Rattle.dmr_repeater.proofs.Received.{one_written, rest_written, torn_received}
use Rattle.dmr_repeater.proofs.writing.write_each_received.Goals as goal

pub returns-in-Err-clause-torn : goal.returns-in-Err-clause-torn
returns-in-Err-clause-torn g c =
    let torn = rw c.as_slice.ensures.value at c.in-Err.ensures.torn in
    torn_received c.args.number c.args.station.now c.loop-received.station c.in-Some.one.now _ _ _ c.loop-received.invariant.written
    (sym c.in-Some.ensures.received) torn

pub returns-then-has_nothing_received-clause-receipts : goal.returns-then-has_nothing_received-clause-receipts
returns-then-has_nothing_received-clause-receipts g c =
    let receipt = rw c.as_slice.ensures.value at c.in_default-write_received.ensures.receipt in
    let written = one_written _ _ _ _ c.in-Some.one.now _ _ _ c.loop-received.invariant.written c.in-Some.ensures.received
    c.pass_received.ensures.taken receipt in
    (rest_written _ _ _ _ _ written (c.if-has_nothing_received.ensures.value.0 refl)).0

pub returns-then-has_nothing_received-clause-taken : goal.returns-then-has_nothing_received-clause-taken
returns-then-has_nothing_received-clause-taken g c =
    let receipt = rw c.as_slice.ensures.value at c.in_default-write_received.ensures.receipt in
    let written = one_written _ _ _ _ c.in-Some.one.now _ _ _ c.loop-received.invariant.written c.in-Some.ensures.received
    c.pass_received.ensures.taken receipt in
    (rest_written _ _ _ _ _ written (c.if-has_nothing_received.ensures.value.0 refl)).1

pub loop-received-preserved : goal.loop-received-preserved
loop-received-preserved g c =
    let receipt = rw c.as_slice.ensures.value at c.in_default-write_received.ensures.receipt in
    record {
      well = c.in_default-write_received.ensures.well;
      written = one_written _ _ _ _ c.in-Some.one.now _ _ _ c.loop-received.invariant.written c.in-Some.ensures.received
          c.pass_received.ensures.taken receipt;
    }
