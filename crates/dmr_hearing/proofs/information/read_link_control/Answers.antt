use Rattle.dmr_hearing.proofs.Payloads.{link_control_read, link_control_unread}
use Rattle.dmr_hearing.proofs.information.read_link_control.Goals as goal

pub returns-in-Ok : goal.returns-in-Ok
returns-in-Ok c = record {
  reading = link_control_read c.args.lc_use c.args.kind c.args.received.now c.lc_info.result c.bptc_encode.result c.in-Ok.lc
      c.in-Ok.ensures.lc c.in-Ok.ensures.only c.lc_info.ensures.lc c.bptc_encode.ensures.written;
}

pub returns-in-Err : goal.returns-in-Err
returns-in-Err c = record {
  reading = link_control_unread c.args.lc_use c.args.kind c.args.received.now c.in-Err.field-0 c.in-Err.ensures.only;
}
