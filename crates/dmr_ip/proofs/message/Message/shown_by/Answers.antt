use Rattle.std.proofs.Common.{refl}
use Rattle.std.proofs.lemmas.List.{take_rest}
use Rattle.dmr_ip.proofs.message.Message.shown_by.Goals as goal

pub returns : goal.returns
returns c = record {
  value = rw (
    c.new.ensures.value,
    c.number_at.ensures.value,
    c.number_at-2.ensures.value,
    c.number_at-3.ensures.value,
    take_rest,
  ) refl;
}
