-- What octets are read as is what they spell.
use Rattle.std.proofs.Common.{◌≡◌, ℕ, zero, suc, ◌+◌, ◌*◌, ◌/◌, ◌%◌, ◌<◌, ◌≤◌, ◌==◌, Bool, true, false, not, ◌&&◌, ◌||◌}
use Rattle.std.proofs.Common.{cond, ltb, List, [], ◌∷◌, ◌++◌, length, drop, get_or, slice_index}
use Rattle.std.proofs.Common.{Ok, refl, sym, ap, ◌∙◌, inl, inr, arith, length-drop}
use Rattle.std.specs.Prelude.{Option, Some, None}
use Rattle.std.specs.Int.{to_be_bytes, w16}
use Rattle.std.proofs.lemmas.Bool.{and_parts, and_from, or_parts, or_from, eqb-true, eq-eqb, ne_eqb, le-ltb, ltb-false}
use Rattle.dmr_ip.specs.Contents.{AreOctets, Contents, FitsDatagram, datagram_of}
use Rattle.dmr_ip.specs.Datagram.{unless}
use Rattle.dmr_ip.specs.Spelling.{Identifies, SpellsDatagram, address_identifiers, behind_identifiers}
use Rattle.dmr_ip.specs.Spelling.{behind_ports, destination_identifier, expand, form}
use Rattle.dmr_ip.specs.Spelling.{form_fault, port_from, port_length}
use Rattle.dmr_ip.specs.Spelling.{port_octets, ports_length, read_contents, source_identifier}
use Rattle.dmr_ip.specs.declared.fault.ExpandFault.{ExpandFault}

-- The octets have no fault as a form: their identifiers are known, both ports are there, and the datagram isn't too long.
pub record IsForm (octets : List ℕ) (group : Bool) : Type 0 where
  pub at_least : 5 ≤ length octets
  pub source_opcode : slice_index octets 3 / 128 ≡ 0
  pub destination_opcode : slice_index octets 4 / 128 ≡ 0
  pub addresses : get_or octets 2 0 ≡ address_identifiers group
  pub source : source_identifier octets ≤ 2
  pub destination : destination_identifier octets ≤ 2
  pub ports : ports_length octets ≤ length (behind_identifiers octets)
  pub at_most : 28 + length (behind_ports octets) ≤ 1400

-- a test that finds nothing is false, and so are those behind it
silent : (test : Bool) (found : ExpandFault) (others : Option ExpandFault) → cond test (Some found) others ≡ None → (test ≡ false)
    × (others ≡ None)
silent false found others e = (refl, e)
silent true found others e = cc

passes : (test : Bool) (found : ExpandFault) (others : Option ExpandFault) → test ≡ false → others ≡ None → cond test (Some found)
    others ≡ None
passes false found others e h = h
passes true found others e h = cc

not_false : (test : Bool) → not test ≡ false → test ≡ true
not_false true e = refl
not_false false e = cc

not_from : (test : Bool) → test ≡ true → not test ≡ false
not_from true e = refl
not_from false e = cc

-- octets with no fault as a form have known identifiers and both ports, and aren't too long for a datagram
pub IsForm-from_none : (octets : List ℕ) (group : Bool) → form_fault octets group ≡ None → IsForm octets group
unfolding form_fault
IsForm-from_none octets group e =
    let short = silent (ltb (length octets) 5) _ _ e in
    let opcodes = silent (not ((slice_index octets 3 / 128 == 0) && (slice_index octets 4 / 128 == 0))) _ _ short.1 in
    let addresses = silent (not (get_or octets 2 0 == address_identifiers group)) _ _ opcodes.1 in
    let identifiers = silent (ltb 2 (source_identifier octets) || ltb 2 (destination_identifier octets)) _ _ addresses.1 in
    let ports = silent (ltb (length (behind_identifiers octets)) (ports_length octets)) _ _ identifiers.1 in
    let long = silent (ltb 1400 (28 + length (behind_ports octets))) _ _ ports.1 in
    let both = and_parts _ _ (not_false _ opcodes.0) in
    let known = or_parts _ _ identifiers.0 in
    record {
      at_least = ltb-false _ _ short.0;
      source_opcode = eqb-true _ _ both.0;
      destination_opcode = eqb-true _ _ both.1;
      addresses = eqb-true _ _ (not_false _ addresses.0);
      source = ltb-false _ _ known.0;
      destination = ltb-false _ _ known.1;
      ports = ltb-false _ _ ports.0;
      at_most = ltb-false _ _ long.0;
    }

none-from_IsForm : (octets : List ℕ) (group : Bool) → IsForm octets group → form_fault octets group ≡ None
unfolding form_fault
none-from_IsForm octets group f =
    passes _ _ _ (le-ltb _ _ f.at_least)
    (passes _ _ _ (not_from _ (and_from _ _ (eq-eqb _ _ f.source_opcode) (eq-eqb _ _ f.destination_opcode)))
    (passes _ _ _ (not_from _ (eq-eqb _ _ f.addresses))
    (passes _ _ _ (or_from _ _ (le-ltb _ _ f.source) (le-ltb _ _ f.destination))
    (passes _ _ _ (le-ltb _ _ f.ports)
    (passes _ _ _ (le-ltb _ _ f.at_most) refl)))))

-- 1. What is read is spelled.

-- octets behind others are octets
pub AreOctets-drop : (n : ℕ) (octets : List ℕ) → AreOctets octets → AreOctets (drop n octets)
AreOctets-drop zero octets h = h
AreOctets-drop (suc n) [] h = λ k. omega arith
AreOctets-drop (suc n) (x ∷ octets) h = AreOctets-drop n octets (λ k. h (suc k))

two_octets : (high low : ℕ) → high < 256 → low < 256 → to_be_bytes w16 (256 * high + low) ≡ high ∷ low ∷ []
two_octets high low h k =
    let a : (256 * high + low) / 256 % 256 ≡ high = omega arith in
    let b : (256 * high + low) % 256 ≡ low = omega arith in
    rw (a, b) refl

not_zero : (n : ℕ) → (suc n == 0) ≡ false
not_zero n = ne_eqb (suc n) 0 (λ e. omega arith)

port_split : (identifier : ℕ) (octets : List ℕ) → port_length identifier ≤ length octets → AreOctets octets → octets ≡ port_octets
    identifier (port_from identifier octets) ++ drop (port_length identifier) octets
port_split zero [] room h = absurd (omega arith)
port_split zero (high ∷ []) room h = absurd (omega arith)
port_split zero (high ∷ low ∷ rest) room h =
    ap (λ front. front ++ rest) (sym (two_octets high low (h 0) (h 1)))
port_split (suc identifier) octets room h = rw (not_zero identifier) refl

port_named : (identifier : ℕ) (octets : List ℕ) → identifier ≤ 2 → Identifies identifier (port_from identifier octets)
port_named zero octets h = inl refl
port_named (suc zero) octets h = inr (inl (refl, refl))
port_named (suc (suc zero)) octets h = inr (inr (refl, refl))
port_named (suc (suc (suc n))) octets h = absurd (omega arith)

port_fits : (identifier : ℕ) (octets : List ℕ) → AreOctets octets → port_from identifier octets < 65536
port_fits zero octets h = omega (arith, h 0, h 1)
port_fits (suc zero) octets h = omega arith
port_fits (suc (suc n)) octets h = let e = not_zero (suc n) in let f : (suc (suc n) == 1) ≡ false = ne_eqb (suc (suc n)) 1 (λ e.
    omega arith) in rw (e, f) (omega arith)

same_form : (a b c d e : ℕ) (rest front : List ℕ) (c' d' e' : ℕ) (rest' : List ℕ) → a ∷ b ∷ [] ≡ front → c ≡ c' → d ≡ d' → e ≡ e' →
    rest ≡ rest' → a ∷ b ∷ c ∷ d ∷ e ∷ rest ≡ front ++ (c' ∷ d' ∷ e' ∷ rest')
same_form a b c d e rest front c' d' e' rest' p q r s t = rw (← p, q, r, s, t) refl

-- a form, as it is read
pub Spells-read : (octets : List ℕ) (source destination : ℕ) (group : Bool) → AreOctets octets → IsForm octets group
    → SpellsDatagram
    octets source destination group (datagram_of source destination group (read_contents octets))
Spells-read [] source destination group h f = absurd (omega (arith, f.at_least))
Spells-read (a ∷ []) source destination group h f = absurd (omega (arith, f.at_least))
Spells-read (a ∷ b ∷ []) source destination group h f = absurd (omega (arith, f.at_least))
Spells-read (a ∷ b ∷ c ∷ []) source destination group h f = absurd (omega (arith, f.at_least))
Spells-read (a ∷ b ∷ c ∷ d ∷ []) source destination group h f = absurd (omega (arith, f.at_least))
Spells-read (a ∷ b ∷ c ∷ d ∷ e ∷ rest) source destination group h f =
    let rest_octets : AreOctets rest = λ k. h (suc (suc (suc (suc (suc k))))) in
    let behind : List ℕ = drop (port_length (d % 128)) rest in
    let behind_octets : AreOctets behind = AreOctets-drop (port_length (d % 128)) rest rest_octets in
    let room : port_length (d % 128) + port_length (e % 128) ≤ length rest = f.ports in
    let source_opcode : d / 128 ≡ 0 = f.source_opcode in
    let destination_opcode : e / 128 ≡ 0 = f.destination_opcode in
    let identification : a ∷ b ∷ [] ≡ to_be_bytes w16 (256 * a + b) = sym (two_octets a b (h 0) (h 1)) in
    let source_identifier : d ≡ d % 128 = omega arith in
    let destination_identifier : e ≡ e % 128 = omega arith in
    let first : rest ≡ port_octets (d % 128) (port_from (d % 128) rest) ++ behind = port_split (d % 128) rest (omega arith)
    rest_octets in
    let second : behind ≡ port_octets (e % 128) (port_from (e % 128) behind) ++ drop (port_length (e % 128)) behind =
    port_split (e % 128) behind (simp length-drop (omega arith)) behind_octets in
    record {
      contents = read_contents (a ∷ b ∷ c ∷ d ∷ e ∷ rest);
      fits = record {
        identification = omega (arith, h 0, h 1);
        source_port = port_fits (d % 128) rest rest_octets;
        destination_port = port_fits (e % 128) behind behind_octets;
        payload = AreOctets-drop (port_length (e % 128)) behind behind_octets;
        room = f.at_most;
      };
      source_identifier = d % 128;
      destination_identifier = e % 128;
      source_port = port_named (d % 128) rest f.source;
      destination_port = port_named (e % 128) behind f.destination;
      spelled = same_form a b c d e rest (to_be_bytes w16 (256 * a + b)) _ _ _ _ identification f.addresses source_identifier
          destination_identifier
          (first ∙ ap (λ tail. port_octets (d % 128) (port_from (d % 128) rest) ++ tail) second);
      stands_for = refl;
    }

-- 2. What is spelled is read.

-- A port before others is read again, and what is behind it is left.
record IsReadBack (identifier port : ℕ) (rest : List ℕ) : Type 0 where
  known : identifier ≤ 2
  number : port_from identifier (port_octets identifier port ++ rest) ≡ port
  behind : drop (port_length identifier) (port_octets identifier port ++ rest) ≡ rest
  count : length (port_octets identifier port ++ rest) ≡ port_length identifier + length rest

IsReadBack-spelled : (port : ℕ) (rest : List ℕ) → port < 65536 → IsReadBack 0 port rest
IsReadBack-spelled port rest h = record { known = omega arith; number = omega arith; behind = refl; count = omega arith }

IsReadBack-port : (identifier port : ℕ) (rest : List ℕ) → Identifies identifier port → port < 65536 → IsReadBack identifier port
    rest
IsReadBack-port identifier port rest p h = elim p [
  | inl out ↦ rw out (IsReadBack-spelled port rest h)
  | inr q ↦ elim q [
    | inl first ↦ rw (first.0, first.1) (record { known = omega arith; number = refl; behind = refl; count = omega arith })
    | inr second ↦ rw (second.0, second.1) (record { known = omega arith; number = refl; behind = refl; count = omega arith })
  ]
]

-- What is spelled is a form, and it is read as the contents.
record IsReadAs (octets : List ℕ) (group : Bool) (c : Contents) : Type 0 where
  is_form : IsForm octets group
  contents : read_contents octets ≡ c

IsReadAs-form : (s t : ℕ) (group : Bool) (c : Contents) → FitsDatagram c → Identifies s c.source_port → Identifies t
    c.destination_port → IsReadAs (form s t group c) group c
IsReadAs-form s t group c fits p q =
    let second = IsReadBack-port t c.destination_port c.payload q fits.destination_port in
    let first = IsReadBack-port s c.source_port (port_octets t c.destination_port ++ c.payload) p fits.source_port in
    let s_known : s ≤ 2 = first.known in
    let t_known : t ≤ 2 = second.known in
    let s_plain : s % 128 ≡ s = omega arith in
    let t_plain : t % 128 ≡ t = omega arith in
    let identification : 256 * (c.identification / 256 % 256) + c.identification % 256 ≡ c.identification = omega (
      arith,
      fits.identification,
    ) in
    record {
      is_form = record {
        at_least = omega arith;
        source_opcode = omega arith;
        destination_opcode = omega arith;
        addresses = refl;
        source = omega arith;
        destination = omega arith;
        ports = rw (s_plain, t_plain) (omega (arith, first.count, second.count));
        at_most = rw (s_plain, t_plain, first.behind, second.behind) fits.room;
      };
      contents = rw (s_plain, t_plain, first.number, first.behind, second.number, second.behind, identification) refl;
    }

-- The octets give the datagram exactly where they spell it.
pub expand-Spells : (octets : List ℕ) (source destination : ℕ) (group : Bool) (datagram : List ℕ) → SpellsDatagram octets source
    destination group datagram → expand octets source destination group ≡ Ok datagram
expand-Spells octets source destination group datagram h =
    let r = IsReadAs-form h.source_identifier h.destination_identifier group h.contents h.fits h.source_port h.destination_port in
    let read = rw (sym h.spelled) at r in
    let e = none-from_IsForm octets group read.is_form in
    rw (e, read.contents, h.stands_for) refl

Spells-unless : (octets : List ℕ) (source destination : ℕ) (group : Bool) (datagram : List ℕ) (found : Option ExpandFault) →
    AreOctets octets → form_fault octets group ≡ found → unless found (datagram_of source destination group (read_contents octets))
    ≡ Ok datagram → SpellsDatagram octets source destination group datagram
Spells-unless octets source destination group datagram None h e p =
    let d : datagram_of source destination group (read_contents octets) ≡ datagram = cc in
    rw d at (Spells-read octets source destination group h (IsForm-from_none octets group e))
Spells-unless octets source destination group datagram (Some found) h e p = cc

-- octets spell the datagram that they are read as
pub Spells-from_expand : (octets : List ℕ) (source destination : ℕ) (group : Bool) (datagram : List ℕ) → AreOctets octets → expand
    octets source destination group ≡ Ok datagram → SpellsDatagram octets source destination group datagram
Spells-from_expand octets source destination group datagram h e = Spells-unless octets source destination group datagram
    (form_fault octets group) h refl e
