use Rattle.std.proofs.Common.{refl}
use Rattle.std.proofs.KnownBytes.{Consumes-nil}
use Rattle.dmr_record.specs.Head.{downlink_magic, received_magic, head_octets}
use Rattle.dmr_repeater.proofs.Fronts.{torn_front}
use Rattle.dmr_repeater.proofs.running.pass_heads.Goals as goal

pub returns-in-Err-clause-leaves : goal.returns-in-Err-clause-leaves
returns-in-Err-clause-leaves g c =
    let (taken, took, shows) = c.in-Err.ensures.fault in
    record {
      taken = taken;
      read = took;
      shown = shows;
      end = c.in-Err.ensures.cut;
      outgoing = Consumes-nil _;
      unwritten = (refl, refl);
    }

pub returns-in-Err-read_head-clause-leaves : goal.returns-in-Err-read_head-clause-leaves
returns-in-Err-read_head-clause-leaves g c =
    let (taken, took, shows) = c.in-Err-read_head.ensures.fault in
    record {
      uplink = c.in_default.ensures.head;
      taken = taken;
      read = took;
      shown = shows;
      end = c.in-Err-read_head.ensures.cut;
      unwritten = (refl, refl);
    }

pub returns-in-Err-write_head-clause-leaves : goal.returns-in-Err-write_head-clause-leaves
returns-in-Err-write_head-clause-leaves g c = (
  c.in-Err-write_head.ensures.fault,
  record {
    uplink = c.in_default.ensures.head;
    outgoing = c.in_default-read_head.ensures.head;
    torn = (torn_front (head_octets downlink_magic) _ _ c.in-Err-write_head.ensures.torn, refl);
  },
)

pub returns-in-Err-write_head-2-clause-leaves : goal.returns-in-Err-write_head-2-clause-leaves
returns-in-Err-write_head-2-clause-leaves g c = (
  c.in-Err-write_head-2.ensures.fault,
  record {
    uplink = c.in_default.ensures.head;
    outgoing = c.in_default-read_head.ensures.head;
    torn = (
      c.in_default-write_head.ensures.head,
      torn_front (head_octets received_magic) _ _ c.in-Err-write_head-2.ensures.torn,
    );
  },
)
