use Rattle.std.proofs.Common.{sym, ap, ◌∙◌}
use Rattle.std.proofs.lemmas.Bool.{false≢true}
use Rattle.std.proofs.lemmas.Slice.Eq.{bytes_eq-Decides}
use Rattle.dmr_ip.specs.Contents.{datagram_of}
use Rattle.dmr_ip.proofs.Built.{datagram_of-shown}
use Rattle.dmr_ip.proofs.compression.form_of.Goals as goal

-- Octets that are spelled would have been the datagram with the contents that they show.
pub returns-else-is_in-clause-none : goal.returns-else-is_in-clause-none
returns-else-is_in-clause-none c = λ form h.
    let equal =
    datagram_of-shown form c.args.source c.args.destination c.args.group c.args.octets.now h
    ∙ ap (datagram_of c.args.source c.args.destination c.args.group) (sym c.shown_by-message.ensures.value) in
    false≢true (c.if-is_in.ensures.value ∙ (bytes_eq-Decides c.args.octets.now _).1 equal)
