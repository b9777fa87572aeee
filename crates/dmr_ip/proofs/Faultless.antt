-- The tests of a datagram find no fault exactly where the octets are one.
use Rattle.std.proofs.Common.{◌≡◌, ◌≢◌, ℕ, Bool, true, false, not, ◌||◌, cond, List, refl, sym, arith}
use Rattle.std.specs.Prelude.{Option, Some, None, ◌==◌}
use Rattle.std.proofs.lemmas.Bool.{and_parts, and_from, eqb-true, eqb-false, eq-eqb, leb-true, le-leb}
use Rattle.dmr_ip.specs.Datagram.{IsDatagram, datagram_fault, has_length, ip_version, header_words}
use Rattle.dmr_ip.specs.Datagram.{has_header_sum, is_whole, protocol, has_udp_length, has_udp_sum}
use Rattle.dmr_ip.specs.declared.fault.IpFault.{IpFault}

-- a test that finds nothing has passed, and so have those behind it
passed : (test : Bool) (found : IpFault) (others : Option IpFault) → cond (not test) (Some found) others ≡ None → (test ≡ true) ×
    (others ≡ None)
passed true found others e = (refl, e)
passed false found others e = cc

pass : (test : Bool) (found : IpFault) (others : Option IpFault) → test ≡ true → others ≡ None → cond (not test) (Some found)
    others ≡ None
pass true found others e h = h
pass false found others e h = cc

-- a test that holds where a number is 0 or another test holds
or_parts : (n : ℕ) (test : Bool) → ((n == 0) || test) ≡ true → n ≢ 0 → test ≡ true
or_parts n true e h = refl
or_parts n false e h = grind arith

or_from : (n m k : ℕ) (test : Bool) → test ≡ (n == 0) → (n ≢ 0 → m ≡ k) → (test || (m == k)) ≡ true
or_from n m k true e h = refl
or_from n m k false e h = eq-eqb m k (h (eqb-false n 0 (sym e)))

-- octets in which no fault is found are a datagram
pub IsDatagram-from_none : (octets : List ℕ) → datagram_fault octets ≡ None → IsDatagram octets
unfolding datagram_fault
IsDatagram-from_none octets e =
    let p = passed (has_length octets) _ _ e in
    let q = passed (ip_version octets == 4) _ _ p.1 in
    let r = passed (header_words octets == 5) _ _ q.1 in
    let s = passed (has_header_sum octets) _ _ r.1 in
    let t = passed (is_whole octets) _ _ s.1 in
    let u = passed (protocol octets == 17) _ _ t.1 in
    let v = passed (has_udp_length octets) _ _ u.1 in
    let w = passed (has_udp_sum octets) _ _ v.1 in
    let lengths = and_parts _ _ p.0 in
    let ends = and_parts _ _ lengths.0 in
    let whole = and_parts _ _ t.0 in
    let udp = and_parts _ _ v.0 in
    record {
      at_least = leb-true _ _ ends.0;
      at_most = leb-true _ _ ends.1;
      counted = eqb-true _ _ lengths.1;
      version_four = eqb-true _ _ q.0;
      no_options = eqb-true _ _ r.0;
      header_sum = eqb-true _ _ s.0;
      last_fragment = eqb-true _ _ whole.0;
      first_fragment = eqb-true _ _ whole.1;
      carries_udp = eqb-true _ _ u.0;
      udp_at_least = leb-true _ _ udp.0;
      udp_counted = eqb-true _ _ udp.1;
      udp_sum = λ h. eqb-true _ _ (or_parts _ _ w.0 h);
    }

-- no fault is found in a datagram
pub none-from_IsDatagram : (octets : List ℕ) → IsDatagram octets → datagram_fault octets ≡ None
unfolding datagram_fault
none-from_IsDatagram octets d =
    pass _ _ _ (and_from _ _ (and_from _ _ (le-leb _ _ d.at_least) (le-leb _ _ d.at_most)) (eq-eqb _ _ d.counted))
    (pass _ _ _ (eq-eqb _ _ d.version_four)
    (pass _ _ _ (eq-eqb _ _ d.no_options)
    (pass _ _ _ (eq-eqb _ _ d.header_sum)
    (pass _ _ _ (and_from _ _ (eq-eqb _ _ d.last_fragment) (eq-eqb _ _ d.first_fragment))
    (pass _ _ _ (eq-eqb _ _ d.carries_udp)
    (pass _ _ _ (and_from _ _ (le-leb _ _ d.udp_at_least) (eq-eqb _ _ d.udp_counted))
    (pass _ _ _ (or_from _ _ _ _ refl d.udp_sum) refl)))))))
