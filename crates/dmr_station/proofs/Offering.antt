-- The packets that are offered are those of the datagrams that were read.
use Rattle.std.proofs.Common.{◌≡◌, ℕ, ◌+◌, eqb, Bool, true, false, cond, List, [], ◌∷◌, length, take, Option, Some, None}
use Rattle.std.proofs.Common.{is_some, refl, sym, ◌∙◌, ap, subst}
use Rattle.std.specs.Prelude.{◌==◌, filter, is_none, count_by}
use Rattle.std.proofs.lemmas.List.Sums.{sum_by-cons}
use Rattle.dmr_record.specs.Outgoing.{Sending}
use Rattle.dmr_record.specs.declared.outgoing.Outgoing.{Outgoing}
use Rattle.dmr_gateway.specs.GatewayRules as gateway
use Rattle.dmr_gateway.specs.Packets.{IsPacketFor, IsOutgoingPacket, offer_fault}
use Rattle.dmr_gateway.specs.Packets as asked
use Rattle.dmr_gateway.specs.declared.fault.GatewayFault.{GatewayFault}
use Rattle.dmr_gateway.specs.declared.queue.Queued.{Queued}
use Rattle.dmr_gateway.proofs.KeptOctets.{kept}
use Rattle.dmr_station.specs.GatewayMeaning.{record_fault}
use Rattle.dmr_record.specs.Outgoing.{IsReadOutgoing}
use Rattle.std.specs.List.{AllZip}

-- a record and its datagram
fault_read : (o : Outgoing) (s : Sending) → IsReadOutgoing o s → asked.fault_of o ≡ record_fault s
fault_read o s r =
    ap (λ n. offer_fault o.confirmed o.full n o.octets) r.keeps.count
    ∙ (ap (λ octets. offer_fault o.confirmed o.full (length s.datagram) octets) r.keeps.front
    ∙ ((kept o.confirmed o.full s.datagram).fault
    ∙ ap record_fault r.fields))

packet_read : (llid : ℕ) (o : Outgoing) (s : Sending) (q : Queued) → IsReadOutgoing o s → record_fault s ≡ None
    → IsOutgoingPacket llid o q → IsPacketFor llid s.confirmed s.full s.datagram q
packet_read llid o s q r none p =
    let whole : take 1400 s.datagram ≡ s.datagram = (kept o.confirmed o.full s.datagram).whole (ap record_fault r.fields ∙ none) in
    let same : o.octets ≡ s.datagram = r.keeps.front ∙ whole in
    let a : IsPacketFor llid o.confirmed o.full s.datagram q =
    subst (λ octets. IsPacketFor llid o.confirmed o.full octets q) same p in
    subst (λ (x : Sending). IsPacketFor llid x.confirmed x.full s.datagram q) r.fields a

-- The datagrams for a slot, in their order.
abbrev pub of_slot : ℕ → List Sending → List Sending
of_slot slot ss = filter (λ (s : Sending). s.slot == slot) ss

-- The packets that are offered for these datagrams: one of each that has no fault of its own.
abbrev IsOffer : ℕ → Sending → Queued → Type 0
IsOffer llid s q = IsPacketFor llid s.confirmed s.full s.datagram q

abbrev faultless : List Sending → List Sending
faultless ss = filter (λ (s : Sending). is_none (record_fault s)) ss

abbrev OffersOfRecords : ℕ → List Sending → List Queued → Type 0
OffersOfRecords llid ss packets = AllZip (IsOffer llid) (faultless ss) packets

-- How many of these datagrams have a fault of their own.
abbrev pub record_faults : List Sending → ℕ
record_faults ss = count_by (λ (s : Sending). is_some (record_fault s)) ss

slot_read : (o : Outgoing) (s : Sending) → IsReadOutgoing o s → o.slot ≡ s.slot
slot_read o s r = ap (λ (x : Sending). x.slot) r.fields

one_read : (mine : Bool) (own meant : Option GatewayFault) (llid slot : ℕ) (o : Outgoing) (s : Sending) (more : List Sending)
    (packets : List Queued) (Rest : List Queued → Type 0) →
    own ≡ meant → meant ≡ record_fault s → IsReadOutgoing o s →
    ((later : List Queued) → Rest later → OffersOfRecords llid (of_slot slot more) later) →
    gateway.OffersOf mine own llid o packets Rest →
    OffersOfRecords llid (cond mine (s ∷ of_slot slot more) (of_slot slot more)) packets
one_read false own meant llid slot o s more packets Rest e m r rest p = rest packets p
one_read true None None llid slot o s more packets Rest e m r rest p =
    let faultless_rest = faultless (of_slot slot more) in
    let found : AllZip (IsOffer llid) (s ∷ faultless_rest) packets =
    subst (AllZip (IsOffer llid) (s ∷ faultless_rest)) (sym p.3) (packet_read llid o s p.0 r (sym m) p.2, rest p.1 p.4) in
    subst (λ (f : Option GatewayFault). AllZip (IsOffer llid) (cond (is_none f) (s ∷ faultless_rest) faultless_rest) packets) m
    found
one_read true (Some fault) (Some other) llid slot o s more packets Rest e m r rest p =
    let faultless_rest = faultless (of_slot slot more) in
    subst (λ (f : Option GatewayFault). AllZip (IsOffer llid) (cond (is_none f) (s ∷ faultless_rest) faultless_rest) packets) m
    (rest packets p)
one_read true None (Some other) llid slot o s more packets Rest e m r rest p = cc
one_read true (Some fault) None llid slot o s more packets Rest e m r rest p = cc

-- The packets that are offered in a slot are those of its datagrams.
pub offers_read : (llid slot : ℕ) (os : List Outgoing) (ss : List Sending) (packets : List Queued) → AllZip IsReadOutgoing os ss →
    gateway.Offers llid slot os packets → OffersOfRecords llid (of_slot slot ss) packets
offers_read llid slot [] [] packets pairs p = subst (AllZip (IsOffer llid) []) (sym p) tt
offers_read llid slot [] (s ∷ ss) packets pairs p = elim pairs [ ]
offers_read llid slot (o ∷ os) [] packets pairs p = elim pairs [ ]
offers_read llid slot (o ∷ os) (s ∷ ss) packets pairs p =
    one_read (eqb s.slot slot) (asked.fault_of o) (record_fault s) llid slot o s ss packets (gateway.Offers llid slot os)
    (fault_read o s pairs.0) refl pairs.0
    (λ later q. offers_read llid slot os ss later pairs.1 q)
    (subst (λ n. gateway.OffersOf (eqb n slot) (asked.fault_of o) llid o packets (gateway.Offers llid slot os))
    (slot_read o s pairs.0) p)

count_of : (f : Option GatewayFault) → gateway.fault_count f ≡ cond (is_some f) 1 0
count_of None = refl
count_of (Some fault) = refl

-- and as many have a fault of their own
pub faults_read : (os : List Outgoing) (ss : List Sending) → AllZip IsReadOutgoing os ss → gateway.faults_in os ≡ record_faults ss
faults_read [] [] pairs = refl
faults_read [] (s ∷ ss) pairs = elim pairs [ ]
faults_read (o ∷ os) [] pairs = elim pairs [ ]
faults_read (o ∷ os) (s ∷ ss) pairs =
    ap (λ f. gateway.fault_count f + gateway.faults_in os) (fault_read o s pairs.0)
    ∙ (ap (λ n. n + gateway.faults_in os) (count_of (record_fault s))
    ∙ (ap (λ n. cond (is_some (record_fault s)) 1 0 + n) (faults_read os ss pairs.1)
    ∙ sym (sum_by-cons (λ (x : Sending). cond (is_some (record_fault x)) 1 0) s ss)))
