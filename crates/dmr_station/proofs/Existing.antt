-- Whatever frames a station takes, and whatever datagrams it is offered before each, there is what it gives for them.
use Rattle.std.proofs.Common.{◌≡◌, ℕ, zero, suc, ◌+◌, ◌*◌, ◌%◌, ◌^◌, ◌<◌, eqb, ltb, cond, ◌||◌, Bool, true, false, List, [], ◌∷◌}
use Rattle.std.proofs.Common.{◌++◌, length, map, filter, replicate, take, Option, Some, None, IfSome, slice_index_or, refl, ap}
use Rattle.std.proofs.Common.{◌∙◌, arith, lit<}
use Rattle.std.specs.List.{AllByRecursion, AllZip}
use Rattle.std.specs.Option.{option_map_or}
use Rattle.std.proofs.Math.Nat.{mod-lt}
use Rattle.std.proofs.lemmas.List.Elements.{All-get_or, All-take}
use Rattle.dmr_burst.specs.declared.burst.Burst.{Burst}
use Rattle.dmr_burst.specs.declared.sync.Side.TheVariants.{Bs}
use Rattle.dmr_burst.proofs.Existing.{encoding_somehow, cach_somehow}
use Rattle.dmr_embedded.proofs.EveryLinkControl.{short_lc_somehow}
use Rattle.dmr_gateway.specs.GatewayRules.{IsSlot, refusal}
use Rattle.dmr_gateway.specs.declared.received.Received.{Received}
use Rattle.dmr_gateway.proofs.Existing.{AreSmall, IsWholeBurst as IsWholeGateBurst}
use Rattle.dmr_gateway.proofs.Whole.{IsWholeGate, new_whole, offer_somehow, asked_somehow, told_whole, emptied_whole}
use Rattle.dmr_link.specs.declared.full_lc.FullLc.{FullLc}
use Rattle.dmr_record.specs.Outgoing.{Sending, AreReadFrom}
use Rattle.dmr_record.specs.Received.{Receipt}
use Rattle.dmr_record.specs.Uplink.{IsFrame, IsSilenceOrBurst, UplinkSlots}
use Rattle.dmr_record.specs.declared.outgoing.Outgoing.{Outgoing}
use Rattle.dmr_slot.specs.ChannelMeaning.{Claim, Traffic, CallHang, Free, claims_of, slot_of, has_traffic}
use Rattle.dmr_slot.specs.ChannelRules.{frame_out, after_frame}
use Rattle.dmr_slot.specs.declared.line.SlotOut.{SlotOut}
use Rattle.dmr_slot.proofs.Existing.{IsWholeMemory, IsWholeSent, silent_whole, push_somehow, sent_in_slots, message_somehow}
use Rattle.dmr_slot.proofs.Existing.{IsSilenceOr33Octets}
use Rattle.dmr_voice.proofs.Existing.{IsWholeBurst}
use Rattle.dmr_station.specs.Announced.{IsAnnounced}
use Rattle.dmr_station.specs.GatewayMeaning.{AreForSlots, by_frame}
use Rattle.dmr_station.specs.Sent.{DownlinkBurst, fragment_lcss, IsSentAs, AreSentAs}
use Rattle.dmr_station.specs.Station.{State, fresh, after_offer, IsOffered, AreOfferedOneByOne, with_outcomes, IsExchanged}
use Rattle.dmr_station.specs.Station.{all_received_taken, AreExchanged, records_of, receipts_from, IsSentFor, AreFitSettings}
use Rattle.dmr_station.specs.Station.{AreOfOctets, AlwaysSends}
use Rattle.dmr_station.specs.StationRules.{Settings, StationMemory, Counts, start, is_free, marked, marked_slots, IsAsked}
use Rattle.dmr_station.specs.StationRules.{received_of, outcomes_to_tell, outcomes_told}
use Rattle.dmr_station.specs.DownlinkRules.{repeated_count, silent_frame, handed_frames}
use Rattle.dmr_station.specs.declared.announcing.Message.{Message}
use Rattle.dmr_station.proofs.Exchanges.{sends_by_the_rules}

-- ---- one frame
-- What a station remembers is whole.
pub record IsWholeStation (m : StationMemory) : Type 0 where
  pub first : IsWholeMemory m.first
  pub second : IsWholeMemory m.second
  pub colour : m.channel.colour < 16
  pub gate : IsWholeGate m.gate

pub start_whole : (s : Settings) → s.colour < 16 → s.llid < 2 ^ 24 → IsWholeStation (start s)
start_whole s low own = record {
  first = silent_whole s.colour s.call_hang low;
  second = silent_whole s.colour s.call_hang low;
  colour = low;
  gate = new_whole s.colour s.llid s.queue low own;
}

-- What claims a slot can be sent.
claim_whole : (on_air : Bool) (repeated hang gate : Option Burst) → IfSome repeated IsWholeBurst → IfSome hang IsWholeBurst
    → IfSome gate IsWholeBurst
    → IsWholeSent (slot_of on_air
    (option_map_or Traffic repeated (option_map_or CallHang hang (option_map_or Traffic gate Free))))
claim_whole on_air (Some b) hang gate p q r = p
claim_whole on_air None (Some b) gate p q r = q
claim_whole on_air None None (Some b) p q r = r
claim_whole true None None None p q r = tt
claim_whole false None None None p q r = tt

-- A burst of the gateway can be sent.
of_gate : (burst : Option Burst) → IfSome burst IsWholeGateBurst → IfSome burst IsWholeBurst
of_gate None whole = tt
of_gate (Some b) whole = record { fit = whole.fit; long = whole.long }

-- A message is announced.
announced_somehow : (kept : Option Message) (outs : List SlotOut)
    → (m : Message) × (after : Option Message) × IsAnnounced kept outs m after
announced_somehow None outs =
    let known : ℕ → Option FullLc = λ slot. slice_index_or (map (λ (out : SlotOut). out.lc) outs) slot None in
    let (slco, body, is) = message_somehow (known 0) (known 1) in
    let m : Message = record { slco = slco; body = body } in (m, Some m, (is, refl))
announced_somehow (Some kept) outs = (kept, None, (refl, refl))

-- What goes out can be sent.
abbrev pub CanBeSent : Option DownlinkBurst → Type 0
CanBeSent slot = IfSome slot (λ d. IsWholeBurst d.burst)

marked_whole : (m : Message) (out : SlotOut) (burst : Option Burst) → IfSome burst IsWholeBurst → CanBeSent (marked m out burst)
marked_whole m out None whole = tt
marked_whole m out (Some b) whole = whole

all_marked : (m : Message) (outs : List SlotOut) (bursts : List (Option Burst))
    → AllByRecursion (λ out. IfSome out IsWholeBurst) bursts → AllByRecursion CanBeSent (marked_slots m outs bursts)
all_marked m [] bursts whole = tt
all_marked m (out ∷ outs) [] whole = tt
all_marked m (out ∷ outs) (b ∷ bursts) whole = (marked_whole m out b whole.0, all_marked m outs bursts whole.1)

-- A frame is passed on.
pub record IsWholePass (before : StationMemory) (frame : List (Option (List ℕ))) (sending : List (Option DownlinkBurst))
    (after : StationMemory) : Type 0 where
  pub is : IsAsked before frame sending after
  pub sent : AllByRecursion CanBeSent sending
  pub whole : IsWholeStation after

slot_in : (frame : List (Option (List ℕ))) (slot : ℕ) → AllByRecursion IsSilenceOrBurst frame
    → IsSilenceOr33Octets (slice_index_or frame slot None)
slot_in [] slot are = tt
slot_in (None ∷ frame) zero are = tt
slot_in (Some octets ∷ frame) zero are = are.0
slot_in (other ∷ frame) (suc slot) are = slot_in frame slot are.1

asked_for_frame : (m : StationMemory) (frame : List (Option (List ℕ))) → IsWholeStation m → AllByRecursion IsSilenceOrBurst frame
    → (sending : List (Option DownlinkBurst)) × (after : StationMemory) × IsWholePass m frame sending after
asked_for_frame m frame own are =
    let (first, first_after, one) = push_somehow m.first (slice_index_or frame 0 None) own.first (slot_in frame 0 are) in
    let (second, second_after, two) = push_somehow m.second (slice_index_or frame 1 None) own.second (slot_in frame 1 are) in
    let outs : List SlotOut = first ∷ second ∷ [] in
    let (first_gate, between, three) = asked_somehow 1 first.repeated (is_free first) m.gate own.gate in
    let (second_gate, gate, four) = asked_somehow 2 second.repeated (is_free second) between three.after_whole in
    let claims : List Claim = claims_of outs (first_gate ∷ second_gate ∷ []) in
    let on_air : Bool = has_traffic claims || ltb 0 m.channel.left in
    let (bursts, sent, fine) = sent_in_slots m.channel.colour (frame_out m.channel claims) own.colour (
      claim_whole on_air first.repeated first.hang first_gate one.out_whole.repeated one.out_whole.hang
          (of_gate first_gate three.burst_whole),
      (
        claim_whole on_air second.repeated second.hang second_gate two.out_whole.repeated two.out_whole.hang
            (of_gate second_gate four.burst_whole),
        tt,
      ),
    ) in
    let (message, kept, announces) = announced_somehow m.kept outs in (
      marked_slots message outs bursts,
      record {
        first = first_after;
        second = second_after;
        channel = after_frame m.channel claims;
        gate = gate;
        kept = kept;
      },
      record {
        is = record {
          first = first;
          second = second;
          first_line = one.is;
          second_line = two.is;
          between = between;
          first_gate = first_gate;
          second_gate = second_gate;
          first_asked = three.is;
          second_asked = four.is;
          bursts = bursts;
          sent = sent;
          channel = refl;
          message = message;
          announces = announces;
          marks = refl {a = marked_slots message outs bursts};
        };
        sent = all_marked message outs bursts fine;
        whole = record {
          first = one.after_whole;
          second = two.after_whole;
          colour = own.colour;
          gate = four.after_whole;
        };
      },
    )

-- ---- octets
-- A slot that sends something has its CACH and its burst in octets.
sent_as_somehow : (place : ℕ) (slot : Option DownlinkBurst) → CanBeSent slot
    → (sent : Option (List ℕ × List ℕ)) × IsSentAs place slot sent
sent_as_somehow place None can = (None, refl)
sent_as_somehow place (Some d) can =
    let (fragments, carried) = short_lc_somehow d.message.slco d.message.body in
    let four : length fragments ≡ 4 = carried.count in
    let below : place % 4 < 4 = mod-lt place (lit< tt) in
    let seventeen : length (slice_index_or fragments (place % 4) []) ≡ 17 =
    All-get_or (λ fragment. length fragment ≡ 17) fragments (place % 4) [] (omega (arith, four, below)) carried.lengths in
    let (cach, three, cach_small, announces) = cach_somehow d.is_repeated (eqb (place % 2) 1) (fragment_lcss place)
    (slice_index_or fragments (place % 4) []) seventeen in
    let (octets, many, small, encodes) = encoding_somehow d.burst Bs can.fit can.long in (
      Some (cach, octets),
      record {
        cach_octets = cach_small;
        announces = (fragments, carried, announces);
        burst_octets = small;
        encodes = encodes;
      },
    )

pub all_sent_as : (place : ℕ) (slots : List (Option DownlinkBurst)) → AllByRecursion CanBeSent slots
    → (sent : List (Option (List ℕ × List ℕ))) × AreSentAs place slots sent
all_sent_as place [] can = ([], tt)
all_sent_as place (slot ∷ slots) can =
    let (sent, is) = sent_as_somehow place slot can.0 in
    let (more, are) = all_sent_as (place + 1) slots can.1 in
    (sent ∷ more, (is, are))

-- ---- a station
offered_somehow : (state : State) (o : Outgoing) → IsWholeStation state.memory → AreSmall o.octets
    → (after : State) × IsOffered state o after × IsWholeStation after.memory
offered_somehow state o own small =
    let (result, gate, offer) = offer_somehow o state.memory.gate own.gate small in (
      after_offer gate (refusal result) state,
      record { result = result; gate = gate; offer = offer.is; state = refl },
      record { first = own.first; second = own.second; colour = own.colour; gate = offer.whole },
    )

abbrev pub HaveSmallOctets : List Outgoing → Type 0
HaveSmallOctets offered = AllByRecursion (λ o. AreSmall o.octets) offered

all_offered : (state : State) (offered : List Outgoing) → IsWholeStation state.memory → HaveSmallOctets offered
    → (after : State) × AreOfferedOneByOne state offered after × IsWholeStation after.memory
all_offered state [] own small = (state, refl, own)
all_offered state (o ∷ more) own small =
    let (next, is, whole) = offered_somehow state o own small.0 in
    let (after, are, all) = all_offered next more whole small.1 in
    (after, (next, is, are), all)

exchanged_somehow : (state : State) (frame : List (Option (List ℕ))) → IsWholeStation state.memory → IsFrame frame
    → (records : List (Option (List ℕ × List ℕ))) × (after : State) × IsExchanged state frame records after
    × IsWholeStation after.memory
exchanged_somehow state frame own is =
    let (sending, asked, pass) = asked_for_frame state.memory frame own is.1 in
    let (records, encoded) = all_sent_as (2 * state.frames) sending pass.sent in (
      records,
      record {
        memory = record asked { gate = outcomes_told asked.gate };
        frames = state.frames + 1;
        repeated = state.repeated + repeated_count sending;
        offered = state.offered;
        counts = with_outcomes (outcomes_to_tell asked.gate) state.counts;
      },
      record {
        sending = sending;
        asked = asked;
        is_asked = pass.is;
        memory = refl;
        encoded = encoded;
        frames = refl;
        repeated = refl;
        offered = refl;
        counts = refl;
      },
      record {
        first = pass.whole.first;
        second = pass.whole.second;
        colour = pass.whole.colour;
        gate = told_whole asked.gate pass.whole.gate;
      },
    )

-- Frame after frame, with as many lists of datagrams as frames.
pub record IsTranscript (before : State) (offers : List (List Outgoing)) (frames : List UplinkSlots)
    (records : List (List (Option (List ℕ × List ℕ)))) (received : List (List Received)) (after : State) : Type 0 where
  pub are : AreExchanged before offers frames records received after

pub all_exchanged : (state : State) (offers : List (List Outgoing)) (frames : List UplinkSlots)
    → length offers ≡ length frames → IsWholeStation state.memory → AllByRecursion HaveSmallOctets offers
    → AllByRecursion IsFrame frames
    → (records : List (List (Option (List ℕ × List ℕ)))) × (received : List (List Received)) × (after : State)
    × IsTranscript state offers frames records received after
all_exchanged state [] [] many own small are = ([], [], state, record { are = refl })
all_exchanged state [] (frame ∷ frames) many own small are = absurd (omega arith)
all_exchanged state (offered ∷ offers) [] many own small are = absurd (omega arith)
all_exchanged state (offered ∷ offers) (frame ∷ frames) many own small are =
    let (ready, offering, ready_whole) = all_offered state offered own small.0 in
    let (records, next, exchanged, next_whole) = exchanged_somehow ready frame ready_whole are.0 in
    let taken : IsWholeStation (all_received_taken next).memory = record {
      first = next_whole.first;
      second = next_whole.second;
      colour = next_whole.colour;
      gate = emptied_whole next.memory.gate next_whole.gate;
    } in
    let (more, others, after, rest) = all_exchanged (all_received_taken next) offers frames (omega arith) taken small.1 are.1 in (
      records ∷ more,
      received_of next.memory.gate ∷ others,
      after,
      record { are = (ready, next, offering, exchanged, refl, rest.are) },
    )

-- ---- records of the outgoing file
-- A datagram as it is read: its first 1,400 octets.
abbrev read_of : Sending → Outgoing
read_of s = record {
  frame = s.frame;
  slot = s.slot;
  confirmed = s.confirmed;
  full = s.full;
  length = length s.datagram;
  octets = take 1400 s.datagram;
}

-- What is read of datagrams.
record IsReading (records : List Outgoing) (sendings : List Sending) : Type 0 where
  are : AreReadFrom records sendings
  small : HaveSmallOctets records

read_somehow : (sendings : List Sending) → AreOfOctets sendings → (records : List Outgoing) × IsReading records sendings
read_somehow [] small = ([], record { are = tt; small = tt })
read_somehow (s ∷ sendings) small =
    let (records, is) = read_somehow sendings small.1 in (
      read_of s ∷ records,
      record {
        are = (record { fields = refl; keeps = record { count = refl; front = refl } }, is.are);
        small = (All-take (λ octet. octet < 256) 1400 s.datagram small.0, is.small);
      },
    )

record AreReadings (records : List (List Outgoing)) (offers : List (List Sending)) : Type 0 where
  are : AllZip AreReadFrom records offers
  small : AllByRecursion HaveSmallOctets records
  many : length records ≡ length offers

all_read : (offers : List (List Sending)) → AllByRecursion AreOfOctets offers
    → (records : List (List Outgoing)) × AreReadings records offers
all_read [] small = ([], record { are = tt; small = tt; many = refl })
all_read (offered ∷ offers) small =
    let (first, is) = read_somehow offered small.0 in
    let (records, all) = all_read offers small.1 in
    (first ∷ records, record { are = (is.are, all.are); small = (is.small, all.small); many = ap suc all.many })

-- ---- what is sent
pub always_sends : AlwaysSends
always_sends s offers frames fit many small slots are =
    let (records, reading) = all_read offers small in
    let (sent, received, after, transcript) = all_exchanged (fresh s) records frames (reading.many ∙ many)
    (start_whole s fit.colour fit.llid) reading.small are in (
      after.repeated,
      after.counts,
      receipts_from 0 received,
      records_of sent,
      sends_by_the_rules s records offers frames sent received after reading.are slots transcript.are,
    )

-- ---- a recording
by_test : {X : Type 0} (P : X → Type 0) (b : Bool) (x : X) (xs : List X) → P x → AllByRecursion P xs
    → AllByRecursion P (cond b (x ∷ xs) xs)
by_test P true x xs p all = (p, all)
by_test P false x xs p all = all

filtered : {X : Type 0} (P : X → Type 0) (test : X → Bool) (xs : List X) → AllByRecursion P xs
    → AllByRecursion P (filter test xs)
filtered P test [] all = tt
filtered P test (x ∷ xs) all = by_test P (test x) x (filter test xs) all.0 (filtered P test xs all.1)

-- What holds of each datagram of the outgoing file holds of those that are offered in each frame.
offered_by_frame : (P : Sending → Type 0) (frame count : ℕ) (sendings : List Sending) → AllByRecursion P sendings
    → AllByRecursion (λ offered. AllByRecursion P offered) (by_frame frame count sendings)
offered_by_frame P frame zero sendings all = tt
offered_by_frame P frame (suc count) sendings all =
    (filtered P (λ s. eqb s.frame frame) sendings all, offered_by_frame P (frame + 1) count sendings all)

frames_offered : (frame count : ℕ) (sendings : List Sending) → length (by_frame frame count sendings) ≡ count
frames_offered frame zero sendings = refl
frames_offered frame (suc count) sendings = ap suc (frames_offered (frame + 1) count sendings)

-- The frames that are handed over for a recording are frames too.
with_silence : (frames : List UplinkSlots) → AllByRecursion IsFrame frames
    → AllByRecursion IsFrame (frames ++ replicate 5 silent_frame)
with_silence [] are =
    let silent : IsFrame silent_frame = (refl, (tt, (tt, tt))) in (silent, (silent, (silent, (silent, (silent, tt)))))
with_silence (frame ∷ frames) are = (are.0, with_silence frames are.1)

-- There is what is sent for a recording, with the datagrams of the outgoing file.
pub recording_is_sent : (s : Settings) (sendings : List Sending) (frames : List UplinkSlots) → AreFitSettings s
    → AreOfOctets sendings → AreForSlots sendings → AllByRecursion IsFrame frames
    → (repeated : ℕ) × (counts : Counts) × (receipts : List Receipt) × (sent : List (Option (List ℕ × List ℕ)))
    × IsSentFor s (by_frame 0 (length (handed_frames frames)) sendings) (handed_frames frames) repeated counts receipts sent
recording_is_sent s sendings frames fit small slots are =
    let count : ℕ = length (handed_frames frames) in
    always_sends s (by_frame 0 count sendings) (handed_frames frames) fit (frames_offered 0 count sendings)
    (offered_by_frame (λ d. AreSmall d.datagram) 0 count sendings small)
    (offered_by_frame (λ d. IsSlot d.slot) 0 count sendings slots)
    ((refl, (tt, (tt, tt))), with_silence frames are)
