use Rattle.std.proofs.Common.{Some, ap, sym}
use Rattle.dmr_arq.proofs.receiver_state.ReceiverState.open_try.Goals as goal

pub returns-in-InProgress : goal.returns-in-InProgress
returns-in-InProgress c = record {
  value = rw (c.in-Some.is, c.in-InProgress.is) (ap Some (sym (c.blocks-in-InProgress.ensures.value c.in-InProgress.field-0)));
}
