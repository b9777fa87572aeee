-- What the gateway makes of frames is one thing. What goes out for what is meant is one thing, and so is what goes out by the
-- rules.
use Rattle.std.proofs.Common.{◌≡◌, ℕ, ◌==◌, List, [], ◌∷◌, Option, refl, sym, ◌∙◌, ap, subst, filter, is_none}
use Rattle.std.specs.List.{AllZip}
use Rattle.dmr_burst.specs.declared.burst.Burst.{Burst}
use Rattle.dmr_record.specs.Outgoing.{Sending}
use Rattle.dmr_record.specs.Received.{Receipt}
use Rattle.dmr_record.specs.Uplink.{UplinkSlots}
use Rattle.dmr_slot.proofs.Unique.{one_push, one_slot_out}
use Rattle.dmr_slot.specs.Bursts.{IsSlotOut}
use Rattle.dmr_slot.specs.LineRules.{LineMemory, silent_line, ArePushed}
use Rattle.dmr_slot.specs.declared.line.SlotOut.{SlotOut}
use Rattle.dmr_gateway.proofs.OneOfEach.{heard_alike, queued_alike, sent_alike}
use Rattle.dmr_gateway.specs.Packets.{IsPacketFor}
use Rattle.dmr_gateway.specs.Runs.{Happening}
use Rattle.dmr_gateway.specs.declared.queue.Queued.{Queued}
use Rattle.dmr_voice.specs.CallMeaning.{Cell}
use Rattle.dmr_station.proofs.FramesBySlot.{one_downlink}
use Rattle.dmr_station.specs.DownlinkMeaning.{IsDownlinkOfWhatIsMeant, line_of_meaning}
use Rattle.dmr_station.specs.DownlinkRules.{IsDownlinkOf, Makes, slots_in}
use Rattle.dmr_station.specs.GatewayMeaning.{Given, Happens, IsGiven, AreGiven, IsGatewayOf, record_fault}
use Rattle.dmr_station.specs.Sent.{DownlinkBurst, DownlinkSlots}
use Rattle.dmr_station.specs.StationRules.{Settings, Counts}

-- two lists that stand one by one for a third are one, where each of its items is stood for by one thing
pub zip_alike : {A B : Type 0} (R : A → B → Type 0) → ((item : A) (x y : B) → R item x → R item y → x ≡ y) → (items : List A)
    (xs ys : List B) → AllZip R items xs → AllZip R items ys → xs ≡ ys
zip_alike R one [] [] [] u v = refl
zip_alike R one [] [] (y ∷ ys) u v = absurd v
zip_alike R one [] (x ∷ xs) ys u v = absurd u
zip_alike R one (item ∷ items) [] ys u v = absurd u
zip_alike R one (item ∷ items) (x ∷ xs) [] u v = absurd v
zip_alike R one (item ∷ items) (x ∷ xs) (y ∷ ys) u v =
    let head : x ≡ y = one item x y u.0 v.0 in
    let tail : xs ≡ ys = zip_alike R one items xs ys u.1 v.1 in
    cc

-- ---- a slot of the gateway
happening_alike : (s : Settings) (offered : List Sending) (out : SlotOut) (a b : Happening) → Happens s offered out a
    → Happens s offered out b → a ≡ b
happening_alike s offered out a b u v =
    let offers : a.offers ≡ b.offers = zip_alike
    (λ (d : Sending) (packet : Queued). IsPacketFor s.llid d.confirmed d.full d.datagram packet)
    (λ d x y. queued_alike s.llid d.confirmed d.full d.datagram x y) (filter (λ d. is_none (record_fault d)) offered)
    a.offers b.offers u.offers v.offers in
    ap (λ x. record a { offers = x }) offers
    ∙ ap (λ x. record a { offers = b.offers; heard = x }) (heard_alike out.repeated a.heard b.heard u.heard v.heard)
    ∙ ap (λ x. record b { free = x }) (u.free ∙ sym v.free)

given_alike : (s : Settings) (slot : ℕ) (frames : List Happening) (offered : List Sending) (a b : Given)
    → IsGiven s slot frames offered a → IsGiven s slot frames offered b → a ≡ b
given_alike s slot frames offered a b u v =
    ap (λ x. record a { burst = x }) (sent_alike s.colour s.llid _ a.burst b.burst u.burst v.burst)
    ∙ ap (λ x. record a { burst = b.burst; received = x }) (u.received ∙ sym v.received)
    ∙ ap (λ x. record a { burst = b.burst; received = b.received; outcome = x }) (u.outcome ∙ sym v.outcome)
    ∙ ap (λ x. record b { refused = x }) (u.refused ∙ sym v.refused)

-- a slot of the gateway gives one thing alone in each frame
pub givens_alike : (s : Settings) (slot : ℕ) (back : List Happening) (offers : List (List Sending)) (outs : List SlotOut)
    (xs ys : List Given) → AreGiven s slot back offers outs xs → AreGiven s slot back offers outs ys → xs ≡ ys
givens_alike s slot back [] [] [] [] u v = refl
givens_alike s slot back [] [] [] (y ∷ ys) u v = absurd v
givens_alike s slot back [] [] (x ∷ xs) ys u v = absurd u
givens_alike s slot back [] (out ∷ outs) xs ys u v = absurd u
givens_alike s slot back (offered ∷ offers) [] xs ys u v = absurd u
givens_alike s slot back (offered ∷ offers) (out ∷ outs) [] ys u v = absurd u
givens_alike s slot back (offered ∷ offers) (out ∷ outs) (x ∷ xs) [] u v = absurd v
givens_alike s slot back (offered ∷ offers) (out ∷ outs) (x ∷ xs) (y ∷ ys) u v =
    let own : List Sending = filter (λ d. d.slot == slot) offered in
    let same : u.0 ≡ v.0 = happening_alike s own out u.0 v.0 u.1 v.1 in
    let head : x ≡ y = given_alike s slot (u.0 ∷ back) own x y u.2
    (subst (λ h. IsGiven s slot (h ∷ back) own y) (sym same) v.2) in
    let tail : xs ≡ ys = givens_alike s slot (u.0 ∷ back) offers outs xs ys u.3
    (subst (λ h. AreGiven s slot (h ∷ back) offers outs ys) (sym same) v.3) in
    cc

-- ---- both slots
pub one_gateway : (s : Settings) (offers : List (List Sending)) (first second : List SlotOut)
    (gates gates' : List (List (Option Burst))) (receipts receipts' : List Receipt) (counts counts' : Counts)
    → IsGatewayOf s offers first second gates receipts counts → IsGatewayOf s offers first second gates' receipts' counts'
    → (gates ≡ gates') × (receipts ≡ receipts') × (counts ≡ counts')
one_gateway s offers first second gates gates' receipts receipts' counts counts' u v =
    let in_first : u.first_given ≡ v.first_given = givens_alike s 1 [] offers first u.first_given v.first_given
    u.first_slot v.first_slot in
    let in_second : u.second_given ≡ v.second_given = givens_alike s 2 [] offers second u.second_given v.second_given
    u.second_slot v.second_slot in
    let gates_are = u.gates_are in
    let gates'_are = v.gates_are in
    let receipts_are = u.receipts_are in
    let receipts'_are = v.receipts_are in
    let counts_are = u.counts_are in
    let counts'_are = v.counts_are in
    (cc, cc, cc)

-- for what is meant one thing alone goes out, and one thing alone is received and counted
pub one_downlink_of_what_is_meant : (s : Settings) (first second : List Cell) (frames : List UplinkSlots)
    (offers : List (List Sending)) (sending sending' : List (List (Option DownlinkBurst))) (receipts receipts' : List Receipt)
    (counts counts' : Counts) → IsDownlinkOfWhatIsMeant s first second frames offers sending receipts counts
    → IsDownlinkOfWhatIsMeant s first second frames offers sending' receipts' counts'
    → (sending ≡ sending') × (receipts ≡ receipts') × (counts ≡ counts')
one_downlink_of_what_is_meant s first second frames offers sending sending' receipts receipts' counts counts' u v =
    let in_first : u.first_outs ≡ v.first_outs = zip_alike (IsSlotOut s.colour) (λ line x y. one_slot_out s.colour line x y)
    (line_of_meaning s first (slots_in 0 frames)) u.first_outs v.first_outs u.first_line v.first_line in
    let in_second : u.second_outs ≡ v.second_outs = zip_alike (IsSlotOut s.colour) (λ line x y. one_slot_out s.colour line x y)
    (line_of_meaning s second (slots_in 1 frames)) u.second_outs v.second_outs u.second_line v.second_line in
    let heard = one_gateway s offers u.first_outs u.second_outs u.gates v.gates receipts receipts' counts counts' u.gateway
    (subst (λ x. IsGatewayOf s offers x u.second_outs v.gates receipts' counts') (sym in_first)
    (subst (λ x. IsGatewayOf s offers v.first_outs x v.gates receipts' counts') (sym in_second) v.gateway)) in
    let goes_out = one_downlink s u.first_outs u.second_outs u.gates sending sending' u.downlink
    (subst (λ x. IsDownlinkOf s x u.second_outs u.gates sending') (sym in_first)
    (subst (λ x. IsDownlinkOf s v.first_outs x u.gates sending') (sym in_second)
    (subst (λ x. IsDownlinkOf s v.first_outs v.second_outs x sending') (sym heard.0) v.downlink))) in
    (goes_out, heard.1, heard.2)

-- ---- by the rules
-- one push after another, slots come out in one way
pushed_alike : (m : LineMemory) (slots : List (Option (List ℕ))) (a b : List SlotOut) (after after' : LineMemory)
    → ArePushed m slots a after → ArePushed m slots b after' → a ≡ b
pushed_alike m [] [] [] after after' u v = refl
pushed_alike m [] [] (y ∷ b) after after' u v = absurd v
pushed_alike m [] (x ∷ a) b after after' u v = absurd u
pushed_alike m (slot ∷ slots) [] b after after' u v = absurd u
pushed_alike m (slot ∷ slots) (x ∷ a) [] after after' u v = absurd v
pushed_alike m (slot ∷ slots) (x ∷ a) (y ∷ b) after after' u v =
    let same = one_push m slot x y u.0 v.0 u.1 v.1 in
    let head : x ≡ y = same.0 in
    let tail : a ≡ b = pushed_alike u.0 slots a b after after' u.2
    (subst (λ n. ArePushed n slots b after') (sym same.1) v.2) in
    cc

-- what the rules make of frames and datagrams is one thing
pub one_downlink_by_the_rules : (s : Settings) (offers : List (List Sending)) (frames : List UplinkSlots)
    (sending sending' : List DownlinkSlots)
    (receipts receipts' : List Receipt) (counts counts' : Counts) → Makes s offers frames sending receipts counts
    → Makes s offers frames sending' receipts' counts'
    → (sending ≡ sending') × (receipts ≡ receipts') × (counts ≡ counts')
one_downlink_by_the_rules s offers frames sending sending' receipts receipts' counts counts' u v =
    let in_first : u.first ≡ v.first = pushed_alike (silent_line s.colour s.call_hang) (slots_in 0 frames) u.first v.first
    u.first_line.after v.first_line.after u.first_line.pushed v.first_line.pushed in
    let in_second : u.second ≡ v.second = pushed_alike (silent_line s.colour s.call_hang) (slots_in 1 frames) u.second v.second
    u.second_line.after v.second_line.after u.second_line.pushed v.second_line.pushed in
    let heard = one_gateway s offers u.first u.second u.gates v.gates receipts receipts' counts counts' u.gateway
    (subst (λ x. IsGatewayOf s offers x u.second v.gates receipts' counts') (sym in_first)
    (subst (λ x. IsGatewayOf s offers v.first x v.gates receipts' counts') (sym in_second) v.gateway)) in
    let goes_out = one_downlink s u.first u.second u.gates sending sending' u.downlink
    (subst (λ x. IsDownlinkOf s x u.second u.gates sending') (sym in_first)
    (subst (λ x. IsDownlinkOf s v.first x u.gates sending') (sym in_second)
    (subst (λ x. IsDownlinkOf s v.first v.second x sending') (sym heard.0) v.downlink))) in
    (goes_out, heard.1, heard.2)
