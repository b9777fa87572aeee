use Rattle.std.proofs.Common.{Some, sym, subst}
use Rattle.dmr_bptc.specs.Decoding.{IsDecoded}
use Rattle.dmr_listing.proofs.contents.link_control_of.Goals as goal

pub returns-in-Ok : goal.returns-in-Ok
returns-in-Ok c = record { holds = c.in-Ok.ensures.lc }

pub returns-in-Err-Parity : goal.returns-in-Err-Parity
returns-in-Err-Parity c = record {
  holds = (
    subst (λ message. IsDecoded c.args.received.now (Some message)) (sym c.octets.ensures.spelled) c.requires.decoded,
    rw c.in-Err-Parity.field-0-is at c.in-Err-Parity.ensures.fault,
  );
}

pub returns-in-Err-Bptc : goal.returns-in-Err-Bptc
returns-in-Err-Bptc c = record { holds = rw c.in-Err-Bptc.field-0-is at c.in-Err-Bptc.ensures.fault }
