-- The form that is written spells its datagram.
use Rattle.std.proofs.Common.{◌≡◌, ℕ, ◌==◌, Bool, true, false, cond, List, Some, refl, sym, ap, ◌∙◌, inl, inr, arith, length-drop}
use Rattle.std.specs.Prelude.{None}
use Rattle.std.specs.Str.{bytes_eq}
use Rattle.std.proofs.lemmas.Bool.{eqb-true}
use Rattle.std.proofs.lemmas.Slice.Eq.{bytes_eq-Decides}
use Rattle.dmr_ip.specs.Contents.{AreOctets, FitsDatagram, address, datagram_of, radio_address, shown_contents}
use Rattle.dmr_ip.specs.Datagram.{IsDatagram}
use Rattle.dmr_ip.specs.Spelling.{Identifies, SpellsDatagram, Writes, compress, identifier_of, written_form}
use Rattle.dmr_ip.proofs.Built.{shown_contents-built}
use Rattle.dmr_ip.proofs.Reading.{AreOctets-drop}

-- by the two tests on the port
Identifies-by_tests : (port : ℕ) (first second : Bool) → (port == 5016) ≡ first → (port == 5017) ≡ second → Identifies (cond first
    1 (cond second 2 0)) port
Identifies-by_tests port true second e h = inr (inl (refl, eqb-true port 5016 e))
Identifies-by_tests port false true e h = inr (inr (refl, eqb-true port 5017 h))
Identifies-by_tests port false false e h = inl refl

Identifies-identifier_of : (port : ℕ) → Identifies (identifier_of port) port
Identifies-identifier_of port = Identifies-by_tests port (port == 5016) (port == 5017) refl refl

-- the form that is written for a datagram spells it
pub Spells-from_Writes : (octets : List ℕ) (source destination : ℕ) (group : Bool) (datagram : List ℕ) → Writes octets source
    destination group datagram → SpellsDatagram octets source destination group datagram
Spells-from_Writes octets source destination group datagram h = record {
  contents = h.contents;
  fits = h.fits;
  source_identifier = identifier_of h.contents.source_port;
  destination_identifier = identifier_of h.contents.destination_port;
  source_port = Identifies-identifier_of h.contents.source_port;
  destination_port = Identifies-identifier_of h.contents.destination_port;
  spelled = h.spelled;
  stands_for = h.stands_for;
}

-- a datagram shows the contents for which it is written
shown_contents-Writes : (octets : List ℕ) (source destination : ℕ) (group : Bool) (datagram : List ℕ) (h : Writes octets source
    destination group datagram) → shown_contents datagram ≡ h.contents
shown_contents-Writes octets source destination group datagram h =
    ap shown_contents h.stands_for ∙ shown_contents-built (radio_address source) (address group destination) h.contents h.fits

-- a datagram has one written form
pub one_written : (one other : List ℕ) (source destination : ℕ) (group : Bool) (datagram : List ℕ) → Writes one source destination
    group datagram → Writes other source destination group datagram → one ≡ other
one_written one other source destination group datagram h k =
    let same = sym (shown_contents-Writes one source destination group datagram h) ∙ shown_contents-Writes other source destination
    group datagram k in
    h.spelled ∙ ap (written_form group) same ∙ sym k.spelled

-- What octets in the places of the contents are fits a datagram.
FitsDatagram-shown : (datagram : List ℕ) → AreOctets datagram → IsDatagram datagram → FitsDatagram (shown_contents datagram)
FitsDatagram-shown datagram h d = record {
  identification = omega (arith, h 4, h 5);
  source_port = omega (arith, h 20, h 21);
  destination_port = omega (arith, h 22, h 23);
  payload = AreOctets-drop 28 datagram h;
  room = simp length-drop (omega (arith, d.at_most, d.udp_at_least));
}

compress-by_test : (octets : List ℕ) (source destination : ℕ) (group : Bool) (datagram : List ℕ) (same : Bool) → AreOctets datagram
    → IsDatagram datagram → bytes_eq datagram (datagram_of source destination group (shown_contents datagram)) ≡ same → cond same
    (Some (written_form group (shown_contents datagram))) None ≡ Some octets → Writes octets source destination group datagram
compress-by_test octets source destination group datagram true h d e p = record {
  contents = shown_contents datagram;
  fits = FitsDatagram-shown datagram h d;
  spelled = cc;
  stands_for = (bytes_eq-Decides datagram (datagram_of source destination group (shown_contents datagram))).0 e;
}
compress-by_test octets source destination group datagram false h d e p = cc

-- the octets that a datagram is compressed to are its written form
pub Writes-from_compress : (octets : List ℕ) (source destination : ℕ) (group : Bool) (datagram : List ℕ) → AreOctets datagram →
    IsDatagram datagram → compress datagram source destination group ≡ Some octets → Writes octets source destination group datagram
Writes-from_compress octets source destination group datagram h d p =
    compress-by_test octets source destination group datagram _ h d refl p

-- a datagram that has a written form is compressed to it
pub compress-Writes : (octets : List ℕ) (source destination : ℕ) (group : Bool) (datagram : List ℕ) → Writes octets source
    destination group datagram → compress datagram source destination group ≡ Some octets
compress-Writes octets source destination group datagram h =
    let shown = shown_contents-Writes octets source destination group datagram h in
    let built : datagram ≡ datagram_of source destination group (shown_contents datagram) = h.stands_for ∙ ap (datagram_of source
    destination group) (sym shown) in
    let same = (bytes_eq-Decides datagram (datagram_of source destination group (shown_contents datagram))).1 built in
    rw same (ap Some (ap (written_form group) shown ∙ sym h.spelled))
