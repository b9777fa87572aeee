use Rattle.std.proofs.Common.{◌≡◌, ℕ, ◌==◌, List, Some, refl, ap, sym, ◌∙◌}
use Rattle.std.proofs.lemmas.Bool.{eq-eqb}
use Rattle.dmr_ip.proofs.Writing.{compress-Writes}
use Rattle.dmr_ip.specs.Contents.{FitsDatagram}
use Rattle.dmr_ip.specs.Spelling.{compress, written_form}
use Rattle.dmr_making.proofs.Flags.{some_of, chosen, map_of}
use Rattle.dmr_making.specs.Packets.{contents_of, datagram_in, body_with}
use Rattle.dmr_script.specs.declared.packet.Body.{Body}
use Rattle.dmr_script.specs.declared.packet.PacketTry.{PacketTry}
use Rattle.dmr_script.specs.declared.packet.UdpMessage.{UdpMessage}
use Rattle.dmr_making.proofs.packets.packet_octets.Goals as goal

-- the compressed form of a datagram that was built
compressed : (p : PacketTry) (m : UdpMessage) (datagram : List ℕ) → datagram ≡ datagram_in p m → FitsDatagram (contents_of m)
    → compress datagram p.source p.destination p.group ≡ Some (written_form p.group (contents_of m))
compressed p m datagram is fits =
    compress-Writes (written_form p.group (contents_of m)) p.source p.destination p.group datagram
    (record { contents = contents_of m; fits = fits; spelled = refl; stands_for = is })

pub unwrap-form-requires : goal.unwrap-form-requires
unwrap-form-requires c =
    some_of c.compress.result (written_form c.args.p.now.group (contents_of c.in-Udp.message)) (λ form. form.items)
    (c.compress.ensures.value ∙ compressed c.args.p.now c.in-Udp.message c.datagram_of-datagram.result
    c.datagram_of-datagram.ensures.value c.datagram_of-datagram.ensures.fits)

pub returns-then-p-eq-COMPRESSED : goal.returns-then-p-eq-COMPRESSED
returns-then-p-eq-COMPRESSED c = record {
  value =
      let p = c.args.p.now in
      let m = c.in-Udp.message in
      let items : c.unwrap-form.result.items ≡ written_form p.group (contents_of m) =
      map_of c.compress.result c.unwrap-form.result (written_form p.group (contents_of m)) (λ form. form.items)
      c.unwrap-form.ensures
      (c.compress.ensures.value
      ∙ compressed p m c.datagram_of-datagram.result c.datagram_of-datagram.ensures.value c.datagram_of-datagram.ensures.fits) in
      c.from_slice-then-p-eq-COMPRESSED.ensures.value ∙ c.as_slice.ensures.value ∙ items
      ∙ sym (chosen (p.sap == 3) (written_form p.group (contents_of m)) (datagram_in p m) (eq-eqb p.sap 3
      c.if-p-eq-COMPRESSED.true))
      ∙ ap (λ (b : Body). body_with p b) (sym c.in-Udp.is);
}
