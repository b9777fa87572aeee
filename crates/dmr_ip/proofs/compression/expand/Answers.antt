use Rattle.std.proofs.Common.{◌≡◌, Ok, Err, sym, ap, ◌∙◌, arith}
use Rattle.dmr_ip.specs.Contents.{AreOctets, datagram_of}
use Rattle.dmr_ip.specs.Datagram.{unless}
use Rattle.dmr_ip.specs.Spelling.{expand, read_contents}
use Rattle.dmr_ip.proofs.Reading.{IsForm, IsForm-from_none, Spells-from_expand, expand-Spells}
use Rattle.dmr_ip.proofs.compression.expand.Goals as goal

-- no fault was found
form : (c : goal.In-None) → IsForm c.args.octets.now c.args.group
form c = IsForm-from_none c.args.octets.now c.args.group (sym c.in-None.ensures.value)

pub said_by-requires-clause-identifiers : goal.said_by-requires-clause-identifiers
said_by-requires-clause-identifiers c = (form c).at_least

pub said_by-requires-clause-ports : goal.said_by-requires-clause-ports
said_by-requires-clause-ports c = (form c).ports

pub said_by-requires-clause-room : goal.said_by-requires-clause-room
said_by-requires-clause-room c = (form c).at_most

pub returns-in-Some-clause-spelled : goal.returns-in-Some-clause-spelled
returns-in-Some-clause-spelled c =
    let octets : AreOctets c.args.octets.now = λ k. omega (arith, c.type_inv.octets k) in
    let value : expand c.args.octets.now c.args.source c.args.destination c.args.group ≡ Err c.in-Some.fault =
    ap (λ found. unless found (datagram_of c.args.source c.args.destination c.args.group (read_contents c.args.octets.now))) (sym
    c.in-Some.ensures.value) in
    λ datagram. (λ e. Spells-from_expand _ _ _ _ datagram octets (value ∙ e), λ h. sym value ∙ expand-Spells _ _ _ _ datagram h)

pub returns-in-None-clause-spelled : goal.returns-in-None-clause-spelled
returns-in-None-clause-spelled c =
    let octets : AreOctets c.args.octets.now = λ k. omega (arith, c.type_inv.octets k) in
    let built = c.datagram.ensures.value ∙ ap (datagram_of c.args.source c.args.destination c.args.group) c.said_by.ensures.value in
    let value : expand c.args.octets.now c.args.source c.args.destination c.args.group ≡ Ok c.datagram.result =
    ap (λ found. unless found (datagram_of c.args.source c.args.destination c.args.group (read_contents c.args.octets.now))) (sym
    c.in-None.ensures.value)
    ∙ ap Ok (sym built) in
    λ datagram. (λ e. Spells-from_expand _ _ _ _ datagram octets (value ∙ e), λ h. sym value ∙ expand-Spells _ _ _ _ datagram h)
