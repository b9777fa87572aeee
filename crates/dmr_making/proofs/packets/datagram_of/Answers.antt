use Rattle.std.proofs.Common.{◌≡◌, ℕ, Ok, refl, ◌∙◌, inl}
use Rattle.dmr_ip.specs.Spelling.{SpellsDatagram, Identifies}
use Rattle.dmr_making.proofs.Flags.{ok_of}
use Rattle.dmr_making.specs.Packets.{contents_of, datagram_in}
use Rattle.dmr_making.proofs.packets.datagram_of.Goals as goal

-- a port that is spelled out
plain : (port : ℕ) → Identifies 0 port
plain port = inl refl

pub unwrap-requires : goal.unwrap-requires
unwrap-requires c =
    let p = c.args.p.now in
    let m = c.args.message.now in
    let spells : SpellsDatagram c.as_slice.result.now p.source p.destination p.group (datagram_in p m) = record {
      contents = contents_of m;
      fits = c.plain_form-form.ensures.fits;
      source_identifier = 0;
      destination_identifier = 0;
      source_port = plain m.source_port;
      destination_port = plain m.destination_port;
      spelled = c.as_slice.ensures.value ∙ c.plain_form-form.ensures.value;
      stands_for = refl;
    } in
    ok_of c.expand.result (datagram_in p m) ((c.expand.ensures.spelled (datagram_in p m)).1 spells)

pub returns : goal.returns
returns c = record {
  fits = c.plain_form-form.ensures.fits;
  value =
      let p = c.args.p.now in
      let m = c.args.message.now in
      let spells : SpellsDatagram c.as_slice.result.now p.source p.destination p.group (datagram_in p m) = record {
        contents = contents_of m;
        fits = c.plain_form-form.ensures.fits;
        source_identifier = 0;
        destination_identifier = 0;
        source_port = plain m.source_port;
        destination_port = plain m.destination_port;
        spelled = c.as_slice.ensures.value ∙ c.plain_form-form.ensures.value;
        stands_for = refl;
      } in
      let ok : c.expand.result ≡ Ok (datagram_in p m) = (c.expand.ensures.spelled (datagram_in p m)).1 spells in
      cc (ok, c.unwrap.ensures);
}
