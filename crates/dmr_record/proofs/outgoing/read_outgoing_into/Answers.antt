use Rattle.std.proofs.Common.{rules, ◌++◌, ◌∷◌}
use Rattle.std.proofs.lemmas.Result.{err_from_is_err_and}
use Rattle.std.proofs.KnownBytes.{Consumes-trans}
use Rattle.dmr_record.specs.Outgoing.{FitsOutgoing, outgoing_field_octets, record_fields}
use Rattle.dmr_record.proofs.OutgoingLemmas.{mode_of-low, ShowsOutgoingFault-datagram}
use Rattle.dmr_record.proofs.outgoing.read_outgoing_into.Goals as goal

pub returns-in_err-read_octets-clause-fault : goal.returns-in_err-read_octets-clause-fault
returns-in_err-read_octets-clause-fault g c =
    let p = err_from_is_err_and c.from_residual-in_err-read_octets.result c.from_residual-in_err-read_octets.ensures.1 in
    let (below, order, slot, took) = rw c.in-Some.is at c.in_ok-read.ensures.fields in
    let (part, fewer, more) = c.in_err-read_octets.ensures.part in
    let read = c.in-Some.read in
    let f = record_fields read in
    let fit : FitsOutgoing f = record { frame = search rules; count = search rules } in
    rw (p.1, p.2) (
      2 ∷ (outgoing_field_octets f ++ part),
      Consumes-trans _ _ _ (2 ∷ outgoing_field_octets f) part took more,
      ShowsOutgoingFault-datagram _ _ _ _ f part below order fit (slot, mode_of-low read.confirmed read.full) fewer
          c.in_err-read_octets.ensures.cause,
    )

pub returns-clause-sending : goal.returns-clause-sending
returns-clause-sending g c = search rules
