-- Outputs that fail: what was read and written by then.
use Rattle.std.proofs.Common.{◌≡◌, ℕ, suc, ◌+◌, ◌-◌, ◌<◌, ◌≤◌, List, [], ◌∷◌, ◌++◌, length, map, take, replicate}
use Rattle.std.proofs.Common.{refl, sym, ap, ◌∙◌, subst, arith, append-nil, append_assoc, inl, inr, ◌⊎◌}
use Rattle.std.proofs.lemmas.List.{length-append, length-replicate, length_push}
use Rattle.std.proofs.lemmas.List.Concat.{flat_map-append}
use Rattle.std.specs.List.{flat_map}
use Rattle.std.specs.Io.KnownBytes.{Consumes, Appends, IsAtEnd}
use Rattle.std.proofs.KnownBytes.{Appends-trans, Consumes-nil, Consumes-trans}
use Rattle.dmr_gateway.specs.declared.received.Received.{Received}
use Rattle.dmr_record.specs.Head.{uplink_magic, downlink_magic, outgoing_magic, received_magic}
use Rattle.dmr_record.specs.declared.outgoing.Outgoing.{Outgoing}
use Rattle.dmr_record.specs.Downlink.{Sent, downlink_octets}
use Rattle.dmr_record.specs.Head.{head_octets}
use Rattle.dmr_record.specs.Outgoing.{Sending}
use Rattle.dmr_record.specs.Received.{Receipt, receipt_octets}
use Rattle.dmr_record.specs.Uplink.{UplinkSlots, frames_octets}
use Rattle.dmr_station.specs.DownlinkRules.{silent_frame, handed_frames}
use Rattle.dmr_station.specs.StationRules.{Settings, received_of}
use Rattle.dmr_station.specs.GatewayMeaning.{by_frame, receipt_in}
use Rattle.dmr_record.specs.Outgoing.{AreReadFrom}
use Rattle.std.specs.List.{AllZip}
use Rattle.dmr_station.specs.Station.{State, fresh, all_received_taken, records_of, receipts_from, AreExchanged}
use Rattle.dmr_station.proofs.Exchanges.{exchanged-append}
use Rattle.dmr_repeater.specs.declared.fault.Stream.{Stream}
use Rattle.dmr_repeater.specs.Files.{Files, KnownOctets, WritesUpTo, files}
use Rattle.dmr_repeater.specs.Frames.{Moment, ReadsFrames, SendsFrames, TearsFrame, TearsWithUplink, moment}
use Rattle.dmr_repeater.specs.Runs.{FailsInFrame, IsSentWith, WritesFirst}
use Rattle.dmr_repeater.specs.Schedule.{unread, AreOfferedInTurn, IsPast}
use Rattle.dmr_repeater.proofs.Due.{nothing_more, reads_due}
use Rattle.dmr_repeater.proofs.Early.{by_rules, first_handed, handed_split}
use Rattle.dmr_repeater.proofs.InTurn.{ReadInAll, read_in_all, read_in_turn, slots_in_turn}
use Rattle.dmr_repeater.proofs.Records.{Gives-same}
use Rattle.dmr_repeater.proofs.Transcripts.{Lengths, Sends-trans, lengths, offers_stay, receipts_octets, turn-append}

-- behind what was sent
pub Tears-after : (output : Stream) (m n : Moment) (xs ys : List UplinkSlots) (frame : UplinkSlots)
    (outgoing downlink received : KnownOctets) → SendsFrames m xs n → TearsFrame output n ys frame outgoing downlink received
    → TearsFrame output m (xs ++ ys) frame outgoing downlink received
Tears-after output m n xs ys frame outgoing downlink received before u = record {
  between = u.between;
  sends = Sends-trans m n xs ys before u.between u.sends;
  schedule = u.schedule;
  ready = u.ready;
  offers = u.offers;
  past = u.past;
  met = u.met;
  torn = u.torn;
}

-- what was offered in the first frames of a file goes together with what it has for these
pairs_front : (f : ℕ) (offers more : List (List Outgoing)) (ss : List Sending)
    → AllZip AreReadFrom (offers ++ more) (by_frame f (length (offers ++ more)) ss)
    → AllZip AreReadFrom offers (by_frame f (length offers) ss)
pairs_front f [] more ss u = tt
pairs_front f (o ∷ offers) more ss u = (u.0, pairs_front (f + 1) offers more ss u.1)

-- what was received in one frame more
receipts_push : (f : ℕ) (g : List (List Received)) (now : List Received)
    → receipts_from f (g ++ now ∷ []) ≡ receipts_from f g ++ map (receipt_in (f + length g)) now
receipts_push f [] now = append-nil (map (receipt_in f) now) ∙ ap (λ (n : ℕ). map (receipt_in n) now) (omega arith)
receipts_push f (r ∷ g) now =
    let behind : f + 1 + length g ≡ f + length (r ∷ g) = omega arith in
    ap (λ l. map (receipt_in f) r ++ l) (receipts_push (f + 1) g now)
    ∙ sym (append_assoc (map (receipt_in f) r) (receipts_from (f + 1) g) (map (receipt_in (f + 1 + length g)) now))
    ∙ ap (λ (n : ℕ). receipts_from f (r ∷ g) ++ map (receipt_in n) now) behind

records_push : (r : List (List Sent)) (now : List Sent)
    → records_of (r ++ now ∷ []) ≡ records_of r ++ now
records_push r now = flat_map-append (λ frame. frame) r (now ∷ []) ∙ ap (λ l. records_of r ++ l) (append-nil now)

module _ (s : Settings) (output : Stream) (a z : Files) (b p h t : KnownOctets)
    (uplink : Consumes a.uplink b (head_octets uplink_magic)) (head : Consumes a.outgoing p (head_octets outgoing_magic))
    (downlink : Appends a.downlink h (head_octets downlink_magic))
    (received : Appends a.received t (head_octets received_magic))
    (frames given ys : List UplinkSlots) (frame : UplinkSlots)
    (split : handed_frames frames ≡ given ++ frame ∷ ys)
    (u : TearsFrame output (moment (fresh s) unread p h t) given frame z.outgoing z.downlink z.received) where
  here : Lengths (fresh s) u.between.station u.sends.offers given u.sends.received
  here = lengths (fresh s) u.between.station u.sends.offers given u.sends.records u.sends.received u.sends.exchanged

  abbrev offers : List (List Outgoing)
  offers = u.sends.offers ++ u.offers.given ∷ []

  abbrev now : List Received
  now = received_of u.torn.next.memory.gate

  abbrev after : State
  after = all_received_taken u.torn.next

  at : u.between.station.frames ≡ length given
  at = let sent = here.after in omega (arith, sent)

  reached : 0 + length u.sends.offers ≡ u.between.station.frames
  reached = let sent = here.after in let many = here.offers in omega (arith, sent, many)

  offered : AreOfferedInTurn 0 offers unread u.schedule p z.outgoing
  offered = turn-append 0 u.between.station.frames u.sends.offers (u.offers.given ∷ []) unread u.between.schedule u.schedule p
      u.between.outgoing z.outgoing reached u.sends.offered
      (u.schedule, z.outgoing, u.offers.due, u.offers.gives, u.past, (refl, Consumes-nil z.outgoing))

  many : length offers ≡ length given + 1
  many = length_push u.sends.offers u.offers.given ∙ ap (λ n. n + 1) here.offers

  abbrev ss : List Sending
  ss = read_in_turn 0 offers unread u.schedule p z.outgoing offered ++ []

  all : ReadInAll offers u.schedule [] a.outgoing z.outgoing ss
  unfolding Gives-same
  all = read_in_all offers u.schedule u.schedule [] [] a.outgoing p z.outgoing z.outgoing head offered
      (nothing_more u.schedule z.outgoing)

  front : ReadInAll u.sends.offers u.schedule [] a.outgoing z.outgoing ss
  front = record {
    reads = all.reads;
    pairs = pairs_front 0 u.sends.offers (u.offers.given ∷ []) ss all.pairs;
    slots = slots_in_turn 0 (length u.sends.offers) ss all.reads.each;
    last = all.last;
    count = all.count;
  }

  exchanged : AreExchanged (fresh s) offers (given ++ frame ∷ []) (u.sends.records ++ u.torn.records ∷ [])
      (u.sends.received ++ now ∷ []) after
  exchanged = exchanged-append (fresh s) u.between.station after u.sends.offers (u.offers.given ∷ []) given (frame ∷ [])
      u.sends.records (u.torn.records ∷ []) u.sends.received (now ∷ []) u.sends.exchanged
      (u.ready, u.torn.next, u.offers.offered, u.torn.exchanged, refl, refl)

  first_frames : given ≡ take (length given) (handed_frames frames)
  first_frames = first_handed frames given (frame ∷ ys) split

  with_this : given ++ frame ∷ [] ≡ take (length given + 1) (handed_frames frames)
  with_this =
      first_handed frames (given ++ frame ∷ []) ys (split ∙ sym (append_assoc given (frame ∷ []) ys))
      ∙ ap (λ (n : ℕ). take n (handed_frames frames)) (length_push given frame)

  number : u.ready.frames ≡ length given
  number = offers_stay u.between.station u.ready u.offers.given u.offers.offered ∙ at

  receipts : receipts_from 0 (u.sends.received ++ now ∷ [])
      ≡ receipts_from 0 u.sends.received ++ map (receipt_in (length given)) now
  receipts =
      let long = here.received in
      receipts_push 0 u.sends.received now
      ∙ ap (λ (n : ℕ). receipts_from 0 u.sends.received ++ map (receipt_in n) now) (omega (arith, long))

  rules : IsSentWith s ss (take (length given + 1) (handed_frames frames)) after.repeated after.counts
      (receipts_from 0 u.sends.received ++ map (receipt_in (length given)) now) (records_of u.sends.records ++ u.torn.records)
  rules =
      let whole = by_rules s (given ++ frame ∷ []) offers (u.sends.records ++ u.torn.records ∷ []) (u.sends.received ++ now ∷ [])
      after u.schedule [] a.outgoing z.outgoing ss all exchanged in
      let of_file = subst (λ (l : List UplinkSlots). IsSentWith s ss l after.repeated after.counts
      (receipts_from 0 (u.sends.received ++ now ∷ [])) (records_of (u.sends.records ++ u.torn.records ∷ []))) with_this whole in
      let by_receipts = subst (λ (l : List Receipt). IsSentWith s ss (take (length given + 1) (handed_frames frames)) after.repeated
      after.counts l (records_of (u.sends.records ++ u.torn.records ∷ []))) receipts of_file in
      subst (λ (l : List Sent). IsSentWith s ss (take (length given + 1) (handed_frames frames)) after.repeated
      after.counts (receipts_from 0 u.sends.received ++ map (receipt_in (length given)) now) l)
      (records_push u.sends.records u.torn.records) by_receipts

  writes : WritesFirst s ss frames (length given) a (files z.uplink z.outgoing u.between.downlink u.between.received)
  writes = record {
    repeated = u.between.station.repeated;
    counts = u.between.station.counts;
    sent = records_of u.sends.records;
    receipts = receipts_from 0 u.sends.received;
    rules = subst (λ (l : List UplinkSlots). IsSentWith s ss l u.between.station.repeated u.between.station.counts
        (receipts_from 0 u.sends.received) (records_of u.sends.records)) first_frames
        (by_rules s given u.sends.offers u.sends.records u.sends.received u.between.station u.schedule [] a.outgoing z.outgoing ss
        front u.sends.exchanged);
    written = Appends-trans a.downlink h u.between.downlink (head_octets downlink_magic)
        (downlink_octets (records_of u.sends.records)) downlink u.sends.written;
    records = Appends-trans a.received t u.between.received (head_octets received_magic)
        (receipts_octets 0 u.sends.received) received u.sends.receipts;
  }

  fails : ReadsFrames frames [] b z.uplink
      → (length given ≡ length frames) ⊎ (IsAtEnd z.uplink × (length frames < length given) × (length given ≤ length frames + 5))
      → FailsInFrame output s a z
  unfolding writes
  fails reads step = record {
    frames = frames;
    each = reads.each;
    uplink = Consumes-trans a.uplink b z.uplink (head_octets uplink_magic) (frames_octets frames) uplink
        (subst (Consumes b z.uplink) (append-nil (frames_octets frames)) reads.read);
    frame = length given;
    step = step;
    sendings = ss;
    outgoing = reads_due (length given) offers u.schedule a.outgoing p z.outgoing offered many
        (subst (λ (n : ℕ). IsPast n u.schedule) at u.past) u.met all.reads;
    before = files z.uplink z.outgoing u.between.downlink u.between.received;
    writes = writes;
    slots = u.torn.records;
    receipts = map (receipt_in (length given)) now;
    repeated = after.repeated;
    counts = after.counts;
    rules = rules;
    torn = subst (λ (n : ℕ). WritesUpTo output u.between.downlink z.downlink u.between.received z.received
        (downlink_octets u.torn.records) (flat_map receipt_octets (map (receipt_in n) now))) number u.torn.written;
  }

module _ (s : Settings) (m : State) (new : m ≡ fresh s) (output : Stream) (a z : Files) (b p h t : KnownOctets)
    (uplink : Consumes a.uplink b (head_octets uplink_magic)) (head : Consumes a.outgoing p (head_octets outgoing_magic))
    (downlink : Appends a.downlink h (head_octets downlink_magic))
    (received : Appends a.received t (head_octets received_magic)) where
  -- while the uplink lasts
  pub fails_with_uplink : TearsWithUplink output (moment m unread p h t) b z
      → FailsInFrame output s a z
  fails_with_uplink u =
      let split : handed_frames u.frames ≡ u.given ++ u.frame ∷ replicate 5 silent_frame =
      ap (λ l. l ++ replicate 5 silent_frame) u.split ∙ append_assoc u.given (u.frame ∷ []) (replicate 5 silent_frame) in
      let counts = ap length u.split in
      let long = length-append u.given (u.frame ∷ []) in
      let told = subst (λ (l : State). TearsFrame output (moment l unread p h t) u.given u.frame z.outgoing z.downlink z.received)
      new
      u.tears in
      fails s output a z b p h t uplink head downlink received u.frames u.given (replicate 5 silent_frame) u.frame split told
      u.reads
      (inl (omega arith))

  -- past its end
  pub fails_past_uplink : (frames : List UplinkSlots) (count : ℕ) → count < 5 → ReadsFrames frames [] b z.uplink
      → IsAtEnd z.uplink
      → TearsFrame output (moment m unread p h t) ((silent_frame
      ∷ frames) ++ replicate count silent_frame) silent_frame z.outgoing z.downlink
      z.received
      → FailsInFrame output s a z
  fails_past_uplink frames count few reads end u =
      let xs : List UplinkSlots = (silent_frame ∷ frames) ++ replicate count silent_frame in
      let left : 5 - count ≡ suc (4 - count) = omega arith in
      let split : handed_frames frames ≡ xs ++ silent_frame ∷ replicate (4 - count) silent_frame =
      handed_split frames count (omega arith) ∙ ap (λ n. xs ++ replicate n silent_frame) left in
      let long : length xs ≡ length frames + 1 + count = simp (length-append, length-replicate) (omega arith) in
      let told = subst (λ (l : State). TearsFrame output (moment l unread p h t) xs silent_frame z.outgoing z.downlink z.received)
      new u
      in
      fails s output a z b p h t uplink head downlink received frames xs (replicate (4 - count) silent_frame) silent_frame split
      told reads
      (inr (end, omega arith, omega arith))
