use Rattle.std.proofs.Common.{Some, sym, subst}
use Rattle.dmr_bptc.specs.Decoding.{IsDecoded}
use Rattle.dmr_listing.proofs.contents.data_header_of.Goals as goal

pub returns-in-Ok : goal.returns-in-Ok
returns-in-Ok c = record { holds = c.in-Ok.ensures.header }

pub returns-in-Err-Format : goal.returns-in-Err-Format
returns-in-Err-Format c = record {
  holds = (
    subst (λ message. IsDecoded c.args.received.now (Some message)) (sym c.octets.ensures.spelled) c.requires.decoded,
    rw c.in-Err-Format.field-0-is at c.in-Err-Format.ensures.fault,
  );
}

pub returns-in-Err-Crc : goal.returns-in-Err-Crc
returns-in-Err-Crc c = record {
  holds = (
    subst (λ message. IsDecoded c.args.received.now (Some message)) (sym c.octets-in-Err-Crc.ensures.spelled) c.requires.decoded,
    rw c.in-Err-Crc.field-0-is at c.in-Err-Crc.ensures.fault,
  );
}

pub returns-in-Err-Bptc : goal.returns-in-Err-Bptc
returns-in-Err-Bptc c = record { holds = rw c.in-Err-Bptc.field-0-is at c.in-Err-Bptc.ensures.fault }
