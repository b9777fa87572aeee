use Rattle.std.proofs.Common.{◌&&◌, ap, sym, ◌∙◌, take, drop}
use Rattle.std.specs.Str.{bytes_eq}
use Rattle.dmr_ip.specs.Contents.{Contents}
use Rattle.dmr_ip.proofs.Comparing.{bytes_eq-headers}
use Rattle.dmr_ip.proofs.message.Message.is_in.Goals as goal

pub returns-then-eq : goal.returns-then-eq
returns-then-eq c =
    let headers = c.headers_between.ensures in
    let payload = ap (λ (m : Contents). m.payload) c.requires.shown in
    let same = bytes_eq-headers _ _ _ _ _ c.requires.headers headers.ip headers.udp payload headers.value in
    let behind = bytes_eq (take 8 (drop 20 c.args.octets.now)) c.headers_between.result.1 in
    let found = c.eq-then-eq.ensures ∙ ap (λ front. front && behind) c.if-eq.ensures ∙ same in
    rw (sym c.radio_address-source.ensures.value, sym c.address-destination.ensures.value) (record { value = found })

pub returns-else-eq : goal.returns-else-eq
returns-else-eq c =
    let headers = c.headers_between.ensures in
    let payload = ap (λ (m : Contents). m.payload) c.requires.shown in
    let same = bytes_eq-headers _ _ _ _ _ c.requires.headers headers.ip headers.udp payload headers.value in
    let behind = bytes_eq (take 8 (drop 20 c.args.octets.now)) c.headers_between.result.1 in
    let found = c.if-eq.false ∙ ap (λ front. front && behind) c.if-eq.ensures ∙ same in
    rw (sym c.radio_address-source.ensures.value, sym c.address-destination.ensures.value) (record { value = found })
