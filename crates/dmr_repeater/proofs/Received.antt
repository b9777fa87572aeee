-- What was received in a frame is written, record by record.
use Rattle.std.proofs.Common.{◌≡◌, ℕ, ◌+◌, List, [], ◌∷◌, ◌++◌, length, map, take, drop, Option, Some, None, option_to_list}
use Rattle.std.proofs.Common.{rules, refl, sym, ap, ◌∙◌, subst, arith, append-nil, append_assoc, take-append-drop}
use Rattle.std.specs.List.{flat_map}
use Rattle.std.specs.Io.KnownBytes.{Appends}
use Rattle.std.proofs.KnownBytes.{Appends-trans, Appends-nil}
use Rattle.std.proofs.lemmas.List.{length-append}
use Rattle.dmr_gateway.specs.GatewayRules.{Gate, HasNothingReceived, next_received, after_received}
use Rattle.dmr_gateway.specs.declared.received.Received.{Received}
use Rattle.dmr_record.specs.Devices.{Tears}
use Rattle.dmr_record.specs.Received.{receipt_octets}
use Rattle.dmr_station.specs.StationRules.{received_of, received_taken}
use Rattle.dmr_station.specs.GatewayMeaning.{receipt_in}
use Rattle.dmr_station.specs.Station.{State, taken_once, all_received_taken}
use Rattle.dmr_station.proofs.TakenInOrder.{received_step, taken_step, nothing_waits}
use Rattle.dmr_repeater.specs.Files.{FrontOf, KnownOctets}

-- the octets of what was received in a frame
abbrev pub octets_of : ℕ → List Received → List ℕ
octets_of number received = flat_map receipt_octets (map (receipt_in number) received)

octets_of-append : (number : ℕ) (a b : List Received) → octets_of number (a ++ b) ≡ octets_of number a ++ octets_of number b
octets_of-append number [] b = refl
octets_of-append number (r ∷ a) b =
    ap (λ l. receipt_octets (receipt_in number r) ++ l) (octets_of-append number a b)
    ∙ sym (append_assoc (receipt_octets (receipt_in number r)) (octets_of number a) (octets_of number b))

-- These of the frame are written, and the others wait.
pub record Written (number : ℕ) (before now : State) (a b : KnownOctets) : Type 0 where
  pub done : List Received
  pub split : received_of before.memory.gate ≡ done ++ received_of now.memory.gate
  pub whole : all_received_taken now ≡ all_received_taken before
  pub written : Appends a b (octets_of number done)

pub none_written : (number : ℕ) (s : State) (a : KnownOctets) → Written number s s a a
none_written number s a = record { done = []; split = refl; whole = refl; written = Appends-nil a }

-- a record is taken
taken_whole : (s : State) → all_received_taken (taken_once s) ≡ all_received_taken s
taken_whole s =
    let g : Gate = s.memory.gate in
    let step = ap length (received_step g) in
    let long = length-append (option_to_list (next_received g)) (received_of (after_received g)) in
    let count : s.counts.received + length (option_to_list (next_received g)) + length (received_of (after_received g))
    ≡ s.counts.received + length (received_of g) = omega (arith, step, long) in
    ap (λ (x : Gate). record s {
      memory = record s.memory { gate = x };
      counts = record s.counts {
        received = s.counts.received + length (option_to_list (next_received g)) + length (received_of (after_received g));
      };
    }) (taken_step g)
    ∙ ap (λ (n : ℕ). record s { memory = record s.memory { gate = received_taken g }; counts = record s.counts { received = n } })
    count

-- where one record more of a frame is taken and written, those written are all but those that wait
pub one_written : (number : ℕ) (before now next : State) (r : Received) (a b c : KnownOctets) → Written number before now a b
    → Some r ≡ next_received now.memory.gate → next ≡ taken_once now → Appends b c (receipt_octets (receipt_in number r))
    → Written number before next a c
one_written number before now next r a b c u is taken one =
    subst (λ (s : State). Written number before s a c) (sym taken) (one_taken number before now r a b c u (sym is) one)
  where
    one_taken : (number : ℕ) (before now : State) (r : Received) (a b c : KnownOctets) → Written number before now a b
        → next_received now.memory.gate ≡ Some r → Appends b c (receipt_octets (receipt_in number r))
        → Written number before (taken_once now) a c
    one_taken number before now r a b c u is one =
        let rest = received_of (after_received now.memory.gate) in
        let step : received_of now.memory.gate ≡ r ∷ rest =
        received_step now.memory.gate ∙ ap (λ (o : Option Received). option_to_list o ++ rest) is in
        let single : octets_of number (u.done ++ r ∷ []) ≡ octets_of number u.done ++ receipt_octets (receipt_in number r) =
        octets_of-append number u.done (r ∷ [])
        ∙ ap (λ l. octets_of number u.done ++ l) (append-nil (receipt_octets (receipt_in number r))) in
        record {
          done = u.done ++ r ∷ [];
          split = u.split ∙ ap (λ l. u.done ++ l) step ∙ sym (append_assoc u.done (r ∷ []) rest);
          whole = taken_whole now ∙ u.whole;
          written = subst (Appends a c) (sym single)
              (Appends-trans a b c (octets_of number u.done) (receipt_octets (receipt_in number r)) u.written one);
        }

-- all are taken
pub all_written : (number : ℕ) (before now : State) (a b : KnownOctets) → Written number before now a b
    → next_received now.memory.gate ≡ None
    → Appends a b (octets_of number (received_of before.memory.gate)) × (taken_once now ≡ all_received_taken before)
all_written number before now a b u none =
    let nothing = nothing_waits now.memory.gate none in
    let whole : received_of before.memory.gate ≡ u.done =
    u.split ∙ ap (λ l. u.done ++ l) nothing.0 ∙ append-nil u.done in
    (subst (λ l. Appends a b (octets_of number l)) (sym whole) u.written, last_taken now none ∙ u.whole)
  where
    last_taken : (s : State) → next_received s.memory.gate ≡ None → taken_once s ≡ all_received_taken s
    last_taken s is =
        let g : Gate = s.memory.gate in
        let nothing = nothing_waits g is in
        let after = nothing_waits (after_received g) in
        let step = received_step g in
        let same : received_taken (after_received g) ≡ received_taken g = taken_step g in
        let counts : length (option_to_list (next_received g)) ≡ length (received_of g) =
        ap (λ (o : Option Received). length (option_to_list o)) is ∙ sym (ap length nothing.0) in
        let left : after_received g ≡ received_taken g =
        none_left g g.first.status g.first.packet g.second.status g.second.packet is in
        ap (λ (x : Gate). record s {
          memory = record s.memory { gate = x };
          counts = record s.counts { received = s.counts.received + length (option_to_list (next_received g)) };
        }) left
        ∙ ap (λ (n : ℕ). record s {
          memory = record s.memory { gate = received_taken g };
          counts = record s.counts { received = s.counts.received + n };
        }) counts
      where
        none_left : (g : Gate) (a b c d : Option Received)
            → next_received (record g {
              first = record g.first { status = a; packet = b };
              second =
                  record g.second { status = c; packet = d };
            }) ≡ None
            → after_received (record g {
              first = record g.first { status = a; packet = b };
              second =
                  record g.second { status = c; packet = d };
            })
            ≡ received_taken (record g {
              first = record g.first { status = a; packet = b };
              second =
                  record g.second { status = c; packet = d };
            })
        none_left g None None None None e = refl
        none_left g None None None (Some w) e = cc
        none_left g None None (Some z) d e = cc
        none_left g None (Some y) c d e = cc
        none_left g (Some x) b c d e = cc

-- where nothing waits, all are taken
pub rest_written : (number : ℕ) (before now : State) (a b : KnownOctets) → Written number before now a b
    → HasNothingReceived now.memory.gate
    → Appends a b (octets_of number (received_of before.memory.gate)) × (now ≡ all_received_taken before)
rest_written number before now a b u nothing =
    let whole : received_of before.memory.gate ≡ u.done =
    u.split ∙ ap (λ l. u.done ++ l) (none_wait now nothing) ∙ append-nil u.done in
    (subst (λ l. Appends a b (octets_of number l)) (sym whole) u.written, sym (still now nothing) ∙ u.whole)
  where
    none_wait : (s : State) → HasNothingReceived s.memory.gate → received_of s.memory.gate ≡ []
    none_wait s h = search rules

    still : (s : State) → HasNothingReceived s.memory.gate → all_received_taken s ≡ s
    still s h = search rules

-- a record of them tore
pub torn_received : (number : ℕ) (before now : State) (r : Received) (a b c : KnownOctets) → Written number before now a b
    → next_received now.memory.gate ≡ Some r → Tears b c (receipt_octets (receipt_in number r))
    → FrontOf a c (octets_of number (received_of before.memory.gate))
torn_received number before now r a b c u is torn =
    let one : List ℕ = receipt_octets (receipt_in number r) in
    let rest = received_of (after_received now.memory.gate) in
    let step : received_of now.memory.gate ≡ r ∷ rest =
    received_step now.memory.gate ∙ ap (λ (o : Option Received). option_to_list o ++ rest) is in
    let whole : octets_of number (received_of before.memory.gate) ≡ octets_of number u.done ++ (one ++ octets_of number rest) =
    ap (octets_of number) (u.split ∙ ap (λ l. u.done ++ l) step) ∙ octets_of-append number u.done (r ∷ rest) in
    let cut : one ≡ take torn.count one ++ drop torn.count one = sym (take-append-drop torn.count one) in (
      octets_of number u.done ++ take torn.count one,
      (
        drop torn.count one ++ octets_of number rest,
        whole ∙ ap (λ l. octets_of number u.done ++ (l ++ octets_of number rest)) cut
            ∙ ap (λ l. octets_of number u.done ++ l) (append_assoc (take torn.count one) (drop torn.count one)
            (octets_of number rest))
            ∙ sym (append_assoc (octets_of number u.done) (take torn.count one) (drop torn.count one ++ octets_of number rest)),
      ),
      Appends-trans a b c (octets_of number u.done) (take torn.count one) u.written torn.front,
    )

-- fewer wait
pub fewer_wait : (g : Gate) (r : Received) → next_received g ≡ Some r
    → length (received_of g) ≡ length (received_of (after_received g)) + 1
fewer_wait g r is =
    let step = ap length (received_step g ∙ ap (λ (o : Option Received). option_to_list o ++ received_of (after_received g)) is) in
    omega (arith, step)
