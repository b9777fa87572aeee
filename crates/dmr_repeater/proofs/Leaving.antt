-- What follows from what a run that ended early leaves, whatever the cause.
use Rattle.std.proofs.Common.{◌≡◌, ℕ, ◌+◌, ◌<◌, ◌≤◌, true, List, [], ◌∷◌, ◌++◌, length, Option, Some, None, IsSomeAnd}
use Rattle.std.proofs.Common.{option_to_list, replicate}
use Rattle.std.proofs.Common.{refl, sym, ap, ◌∙◌, subst, arith, append-nil, append_assoc, inl, inr, ◌⊎◌}
use Rattle.std.proofs.Math.Nat.{min-le_left}
use Rattle.std.proofs.lemmas.List.Concat.{flat_map-append}
use Rattle.std.specs.Prelude.{Result, Ok, Err, IfErr}
use Rattle.std.specs.List.{AllByRecursion, flat_map}
use Rattle.std.specs.Io.KnownBytes.{Consumes, Appends, IsAtEnd}
use Rattle.std.proofs.KnownBytes.{Consumes-nil}
use Rattle.dmr_record.specs.declared.fault.RecordFault.{RecordFault}
use Rattle.dmr_record.specs.Downlink.{sent_octets, downlink_octets, downlink_file}
use Rattle.dmr_record.specs.Head.{head_octets, uplink_magic, downlink_magic, outgoing_magic, received_magic, frame_limit}
use Rattle.dmr_record.specs.Head.{record_limit}
use Rattle.dmr_record.specs.Outgoing.{Sending, outgoing_file, sendings_octets, last_frame}
use Rattle.dmr_record.specs.Received.{receipt_octets, receipts_octets, received_file}
use Rattle.dmr_record.specs.Uplink.{UplinkSlots, IsFrame, frames_octets, uplink_file}
use Rattle.dmr_station.specs.DownlinkRules.{silent_frame}
use Rattle.dmr_station.specs.StationRules.{Settings}
use Rattle.dmr_station.specs.Station.{State, fresh}
use Rattle.dmr_repeater.specs.declared.fault.RunFault.{RunFault}
use Rattle.dmr_repeater.specs.declared.fault.RunFault.TheVariants.{File, Memory}
use Rattle.dmr_repeater.specs.declared.fault.Stream.{Stream}
use Rattle.dmr_repeater.specs.declared.fault.Stream.TheVariants.{Uplink, Outgoing, Downlink, Received}
use Rattle.dmr_repeater.specs.Causes.{IfOutgoing, IfOutput, IfRefused, IfUplink, is_failure, is_of_its_stream}
use Rattle.dmr_repeater.specs.Files.{Files, FrontOf, KnownOctets, WritesUpTo}
use Rattle.dmr_repeater.specs.Runs.{EndsEarly, FailsInFrame, FailsInHead, FindsFault, FindsUplinkFault, HasOutgoing, HasUplink}
use Rattle.dmr_repeater.specs.Runs.{Leaves, LeavesByTheRules, LeavesEarly, ReadsAllBefore, ReadsDue, ReadsFile, ReadsFront}
use Rattle.dmr_repeater.specs.Runs.{ReadsWholeRecords, UplinkFault, WriteFault, WritesFirst, WritesFront, from_frame}
use Rattle.dmr_repeater.specs.declared.summary.Summary.{Summary}
use Rattle.dmr_repeater.specs.Headline.{ForWhatWasSent, LeavesAsMeant}
use Rattle.dmr_repeater.specs.Summaries.{counts_in}
use Rattle.dmr_repeater.proofs.Early.{ends_ahead, front_of_what_is_meant, what_is_meant}
use Rattle.dmr_repeater.specs.Frames.{LeavesPastUplink, LeavesWithUplink, Moment, ReadsFrames, SendsFrames, moment}
use Rattle.dmr_repeater.specs.Frames.{StopsPastUplink, TearsPastUplink}
use Rattle.dmr_repeater.specs.Runs.{LeavesInHead, OutgoingFault}
use Rattle.dmr_repeater.specs.Schedule.{unread}
use Rattle.dmr_repeater.proofs.Failing.{Tears-after, fails_past_uplink, fails_with_uplink}
use Rattle.dmr_repeater.proofs.Finding.{finds_in_uplink, finds_past_uplink, finds_with_uplink}
use Rattle.dmr_repeater.proofs.Transcripts.{Sends-trans}
use Rattle.dmr_repeater.proofs.FaultKinds.{outgoing_head, outgoing_records, uplink_head, uplink_frames}
use Rattle.dmr_repeater.proofs.Files.{no_fault_ahead, no_fault_behind}
use Rattle.dmr_repeater.proofs.Fronts.{everything, front_after, nothing}
use Rattle.dmr_repeater.proofs.Records.{last_frame-append}
use Rattle.dmr_repeater.proofs.Told.{no_fault_stops}

-- ---- fronts of what was written
untouched : (a b : KnownOctets) (whole : List ℕ) → b ≡ a → FrontOf a b whole
untouched a b whole same = subst (λ (x : KnownOctets). FrontOf a x whole) (sym same) (nothing whole a)

fronts : (output : Stream) (a b c d : KnownOctets) (these those : List ℕ) → WritesUpTo output a b c d these those
    → FrontOf a b these × FrontOf c d those
fronts Downlink a b c d these those u = (u.0, untouched c d those u.1)
fronts Received a b c d these those u = (everything these a b u.0, u.1)
fronts Uplink a b c d these those u = absurd u
fronts Outgoing a b c d these those u = absurd u

front_of_first : (s : Settings) (ss : List Sending) (frames : List UplinkSlots) (count : ℕ) (a z : Files)
    → WritesFirst s ss frames count a z → WritesFront s ss frames count a z
front_of_first s ss frames count a z w = record {
  repeated = w.repeated;
  counts = w.counts;
  sent = w.sent;
  receipts = w.receipts;
  rules = w.rules;
  written = everything (downlink_file w.sent) a.downlink z.downlink w.written;
  records = everything (received_file w.receipts) a.received z.received w.records;
}

-- a front of some octets behind those of a file is a front of the file with both
front_behind : {X : Type 0} (octets : X → List ℕ) (head : List ℕ) (xs ys : List X) (a b c : KnownOctets)
    → Appends a b (head ++ flat_map octets xs) → FrontOf b c (flat_map octets ys) → FrontOf a c (head ++ flat_map octets (xs ++ ys))
front_behind octets head xs ys a b c written u =
    let both : (head ++ flat_map octets xs) ++ flat_map octets ys ≡ head ++ flat_map octets (xs ++ ys) =
    append_assoc head (flat_map octets xs) (flat_map octets ys) ∙ ap (λ l. head ++ l) (sym (flat_map-append octets xs ys)) in
    subst (FrontOf a c) both (front_after (head ++ flat_map octets xs) (flat_map octets ys) a b c written u)

front_of_frame : (s : Settings) (output : Stream) (a z : Files) (u : FailsInFrame output s a z)
    → WritesFront s u.sendings u.frames (u.frame + 1) a z
front_of_frame s output a z u =
    let torn = fronts output u.before.downlink z.downlink u.before.received z.received (downlink_octets u.slots)
    (receipts_octets u.receipts) u.torn in
    record {
      repeated = u.repeated;
      counts = u.counts;
      sent = u.writes.sent ++ u.slots;
      receipts = u.writes.receipts ++ u.receipts;
      rules = u.rules;
      written = front_behind sent_octets (head_octets downlink_magic) u.writes.sent u.slots a.downlink u.before.downlink z.downlink
          u.writes.written torn.0;
      records = front_behind receipt_octets (head_octets received_magic) u.writes.receipts u.receipts a.received u.before.received
          z.received u.writes.records torn.1;
    }

-- ---- what was read
reads_front : (frames : List UplinkSlots) (a z : KnownOctets) → AllByRecursion IsFrame frames → Consumes a z (uplink_file frames)
    → ReadsFront frames a z
reads_front frames a z each read = record {
  each = each;
  read = inr ([], subst (Consumes a z) (sym (append-nil (uplink_file frames))) read);
}

-- all that are due in a frame, with one ahead, are all that are of it or of a frame before it
all_due : (frame : ℕ) (ss : List Sending) (a z : KnownOctets) → ReadsDue frame ss a z → ReadsAllBefore (frame + 1) ss a z
all_due frame ss a z u = record { part = []; reads = u.reads; past = reached [] u.ahead refl u.split u.past }
  where
    reached : (part : List ℕ) (ahead : Option Sending) → part ≡ [] → ss ≡ u.due ++ option_to_list ahead
        → IsSomeAnd ahead (λ s. frame < s.frame) ⊎ ((ahead ≡ None) × IsAtEnd z)
        → (frame + 1 ≤ last_frame 0 ss) ⊎ (IsAtEnd z × (part ≡ []))
    reached part None none split (inl late) = absurd late
    reached part (Some s) none split (inl late) =
        let last : last_frame 0 ss ≡ s.frame = ap (last_frame 0) split ∙ last_frame-append 0 u.due (s ∷ []) in
        inl (omega (arith, last, late))
    reached part ahead none split (inr met) = inr (met.1, none)

-- ---- a front is written
ends_unwritten : (s : Settings) (a z : Files) → (z.downlink ≡ a.downlink) × (z.received ≡ a.received) → EndsEarly s a z
ends_unwritten s a z same = ends_ahead s a z (untouched a.downlink z.downlink (head_octets downlink_magic) same.0)
    (untouched a.received z.received (head_octets received_magic) same.1)

ends_behind_records : (s : Settings) (e : RecordFault) (a z : Files) → FindsFault s e a z → EndsEarly s a z
ends_behind_records s e a z u = record {
  frames = u.frames;
  count = u.frame;
  sendings = u.sendings;
  reads = reads_front u.frames a.uplink z.uplink u.each u.uplink;
  records = inr (record { part = u.part; reads = u.reads; past = inl in_time });
  writes = front_of_first s u.sendings u.frames u.frame a z u.writes;
  reach = reached u.step;
}
  where
    in_time : u.frame ≤ last_frame 0 u.sendings
    in_time =
        let first = u.first in
        let least = min-le_left (last_frame 0 u.sendings) (length u.frames + 6) in
        omega (arith, first, least)

    reached : (u.frame ≡ length u.frames) ⊎ (IsAtEnd z.uplink × (length u.frames < u.frame) × (u.frame ≤ length u.frames + 6))
        → (u.frame ≤ length u.frames + 1) ⊎ ReadsFile u.frames a.uplink z.uplink
    reached (inl same) = inl (omega arith)
    reached (inr past) = inr (record { each = u.each; read = u.uplink; end = past.0 })

ends_behind_frames : (s : Settings) (e : RecordFault) (a z : Files) → FindsUplinkFault s e a z → EndsEarly s a z
ends_behind_frames s e a z u = record {
  frames = u.frames;
  count = length u.frames + 1;
  sendings = u.sendings;
  reads = record { each = u.each; read = inr (u.part, u.read) };
  records = inr (all_due (length u.frames) u.sendings a.outgoing z.outgoing u.records);
  writes = front_of_first s u.sendings u.frames (length u.frames + 1) a z u.writes;
  reach = inl (omega arith);
}

ends_in_head : (s : Settings) (output : Stream) (a z : Files) → FailsInHead output a z → EndsEarly s a z
ends_in_head s output a z u =
    let torn = fronts output a.downlink z.downlink a.received z.received (head_octets downlink_magic) (head_octets received_magic)
    u.torn in
    ends_ahead s a z torn.0 torn.1

ends_in_frame : (s : Settings) (output : Stream) (a z : Files) → FailsInFrame output s a z → EndsEarly s a z
ends_in_frame s output a z u = record {
  frames = u.frames;
  count = u.frame + 1;
  sendings = u.sendings;
  reads = reads_front u.frames a.uplink z.uplink u.each u.uplink;
  records = inr (all_due u.frame u.sendings a.outgoing z.outgoing u.outgoing);
  writes = front_of_frame s output a z u;
  reach = reached u.step;
}
  where
    reached : (u.frame ≡ length u.frames) ⊎ (IsAtEnd z.uplink × (length u.frames < u.frame) × (u.frame ≤ length u.frames + 5))
        → (u.frame + 1 ≤ length u.frames + 1) ⊎ ReadsFile u.frames a.uplink z.uplink
    reached (inl same) = inl (omega arith)
    reached (inr past) = inr (record { each = u.each; read = u.uplink; end = past.0 })

ends_early : (s : Settings) (e : RunFault) (a z : Files) → LeavesEarly s e a z → EndsEarly s a z
ends_early s Memory a z u = ends_unwritten s a z (ap (λ (f : Files). f.downlink) u, ap (λ (f : Files). f.received) u)
ends_early s (File Uplink fault) a z (inl u) = ends_unwritten s a z u.unwritten
ends_early s (File Uplink fault) a z (inr u) = ends_behind_frames s fault a z u
ends_early s (File Outgoing fault) a z (inl u) = ends_unwritten s a z u.unwritten
ends_early s (File Outgoing fault) a z (inr u) = ends_behind_records s fault a z u
ends_early s (File Downlink fault) a z (write, inl u) = ends_in_head s Downlink a z u
ends_early s (File Downlink fault) a z (write, inr u) = ends_in_frame s Downlink a z u
ends_early s (File Received fault) a z (write, inl u) = ends_in_head s Received a z u
ends_early s (File Received fault) a z (write, inr u) = ends_in_frame s Received a z u

-- ---- a fault is one that its file can have
of_its_file : (s : Settings) (e : RunFault) (a z : Files) → LeavesEarly s e a z → is_of_its_stream e ≡ true
of_its_file s Memory a z u = refl
of_its_file s (File Uplink fault) a z (inl u) = uplink_head uplink_magic fault u.taken u.shown
of_its_file s (File Uplink fault) a z (inr u) = uplink_frames frame_limit (length u.frames) fault u.part u.shown
of_its_file s (File Outgoing fault) a z (inl u) = outgoing_head outgoing_magic fault u.taken u.shown
of_its_file s (File Outgoing fault) a z (inr u) =
    outgoing_records record_limit (length u.sendings) (last_frame 0 u.sendings) fault u.part u.shown
of_its_file s (File Downlink fault) a z (write, u) =
    subst (λ (f : RecordFault). is_of_its_stream (File Downlink f) ≡ true) (sym write) refl
of_its_file s (File Received fault) a z (write, u) =
    subst (λ (f : RecordFault). is_of_its_stream (File Received f) ≡ true) (sym write) refl

-- ---- of files as they have to be, nothing but a failure ends it
only_failures : (s : Settings) (e : RunFault) (a z : Files) → LeavesEarly s e a z → (frames : List UplinkSlots)
    (ss : List Sending) → HasUplink frames a.uplink → HasOutgoing ss a.outgoing → is_failure e ≡ true
only_failures s Memory a z u frames ss has records = refl
only_failures s (File Uplink fault) a z (inl u) frames ss has records =
    no_fault_ahead uplink_magic (frames_octets frames) a.uplink z.uplink fault u.taken refl has.has u.read u.shown u.end
only_failures s (File Uplink fault) a z (inr u) frames ss has records =
    no_fault_behind frame_limit a.uplink z.uplink u.frames frames fault u.part u.each has.each has.few has.has u.read u.shown u.end
only_failures s (File Outgoing fault) a z (inl u) frames ss has records =
    no_fault_ahead outgoing_magic (sendings_octets ss) a.outgoing z.outgoing fault u.taken refl records.has u.read u.shown u.end
only_failures s (File Outgoing fault) a z (inr u) frames ss has records =
    no_fault_stops fault u.sendings ss u.part a.outgoing z.outgoing u.reads u.shown u.end records
only_failures s (File Downlink fault) a z (write, u) frames ss has records =
    subst (λ (f : RecordFault). is_failure (File Downlink f) ≡ true) (sym write) refl
only_failures s (File Received fault) a z (write, u) frames ss has records =
    subst (λ (f : RecordFault). is_failure (File Received f) ≡ true) (sym write) refl

-- ---- of a part of the run that ended early, the run leaves what that part does
pub left_in_head : (s : Settings) (e : RunFault) (a z : Files) → LeavesInHead e a z → LeavesEarly s e a z
left_in_head s Memory a z u = absurd u
left_in_head s (File Uplink fault) a z u = inl u
left_in_head s (File Outgoing fault) a z u = inl u
left_in_head s (File Downlink fault) a z (write, u) = (write, inl u)
left_in_head s (File Received fault) a z (write, u) = (write, inl u)

module _ (s : Settings) (m : State) (new : m ≡ fresh s) (a z : Files) (b p h t : KnownOctets)
    (uplink : Consumes a.uplink b (head_octets uplink_magic)) (head : Consumes a.outgoing p (head_octets outgoing_magic))
    (downlink : Appends a.downlink h (head_octets downlink_magic))
    (received : Appends a.received t (head_octets received_magic)) where
  pub left_with_uplink : (e : RunFault) → LeavesWithUplink e (moment m unread p h t) b z → LeavesEarly s e a z
  left_with_uplink Memory u = absurd u
  left_with_uplink (File Uplink fault) u = inr (finds_in_uplink s m new fault a z b p h t uplink head downlink received u)
  left_with_uplink (File Outgoing fault) u = inr (finds_with_uplink s m new fault a z b p h t uplink head downlink received u)
  left_with_uplink (File Downlink fault) (write, u) =
      (write, inr (fails_with_uplink s m new Downlink a z b p h t uplink head downlink received u))
  left_with_uplink (File Received fault) (write, u) =
      (write, inr (fails_with_uplink s m new Received a z b p h t uplink head downlink received u))

  module _ (frames : List UplinkSlots) (n : Moment) (reads : ReadsFrames frames [] b z.uplink) (end : IsAtEnd z.uplink)
      (sends : SendsFrames (moment m unread p h t) (silent_frame ∷ frames) n) (at : n.station.frames ≡ length frames + 1) where
    past_fault : (fault : RecordFault) → StopsPastUplink n fault z.outgoing z.downlink z.received → FindsFault s fault a z
    past_fault fault v =
        let few = v.few in
        let first = v.first in
        let k : Moment = moment v.station v.schedule v.left z.downlink z.received in
        let whole = Sends-trans (moment m unread p h t) n (silent_frame ∷ frames) (replicate v.count silent_frame) sends k
        v.sends in
        finds_past_uplink s m new fault a z b p h t uplink head downlink received frames v.station v.schedule v.left v.count
        (n.station.frames + v.count) (omega arith) reads end whole v.stops (omega arith) (λ before. omega arith) v.end

    past_write : (output : Stream) → TearsPastUplink output n z.outgoing z.downlink z.received → FailsInFrame output s a z
    past_write output u =
        fails_past_uplink s m new output a z b p h t uplink head downlink received frames u.count u.few reads end
        (Tears-after output (moment m unread p h t) n (silent_frame ∷ frames) (replicate u.count silent_frame) silent_frame
        z.outgoing z.downlink z.received sends u.tears)

    pub left_past_uplink : (e : RunFault) → LeavesPastUplink e n z.outgoing z.downlink z.received → LeavesEarly s e a z
    left_past_uplink Memory u = absurd u
    left_past_uplink (File Uplink fault) u = absurd u
    left_past_uplink (File Outgoing fault) u = inr (past_fault fault u)
    left_past_uplink (File Downlink fault) (write, u) = (write, inr (past_write Downlink u))
    left_past_uplink (File Received fault) (write, u) = (write, inr (past_write Received u))

-- ---- however it ended
pub uplink_fault : (s : Settings) (result : Result Summary RunFault) (a z : Files) → Leaves s result a z
    → IfErr result (λ e. IfUplink e (λ fault. UplinkFault s fault a z))
uplink_fault s (Ok summary) a z u = tt
uplink_fault s (Err Memory) a z u = tt
uplink_fault s (Err (File Uplink fault)) a z u = u
uplink_fault s (Err (File Outgoing fault)) a z u = tt
uplink_fault s (Err (File Downlink fault)) a z u = tt
uplink_fault s (Err (File Received fault)) a z u = tt

-- a run that ended with a fault of the outgoing file leaves what such a fault leaves
pub outgoing_fault : (s : Settings) (result : Result Summary RunFault) (a z : Files) → Leaves s result a z
    → IfErr result (λ e. IfOutgoing e (λ fault. OutgoingFault s fault a z))
outgoing_fault s (Ok summary) a z u = tt
outgoing_fault s (Err Memory) a z u = tt
outgoing_fault s (Err (File Uplink fault)) a z u = tt
outgoing_fault s (Err (File Outgoing fault)) a z u = u
outgoing_fault s (Err (File Downlink fault)) a z u = tt
outgoing_fault s (Err (File Received fault)) a z u = tt

-- the same, of a write that failed
pub write_fault : (s : Settings) (result : Result Summary RunFault) (a z : Files) → Leaves s result a z
    → IfErr result (λ e. IfOutput e (λ output. WriteFault s output a z))
write_fault s (Ok summary) a z u = tt
write_fault s (Err Memory) a z u = tt
write_fault s (Err (File Uplink fault)) a z u = tt
write_fault s (Err (File Outgoing fault)) a z u = tt
write_fault s (Err (File Downlink fault)) a z u = u.1
write_fault s (Err (File Received fault)) a z u = u.1

-- a run that found no room leaves all files as they were
pub no_room : (s : Settings) (result : Result Summary RunFault) (a z : Files) → Leaves s result a z
    → IfErr result (λ e. IfRefused e (z ≡ a))
no_room s (Ok summary) a z u = tt
no_room s (Err Memory) a z u = u
no_room s (Err (File Uplink fault)) a z u = tt
no_room s (Err (File Outgoing fault)) a z u = tt
no_room s (Err (File Downlink fault)) a z u = tt
no_room s (Err (File Received fault)) a z u = tt

-- a run that ended with a fault of a file names one that this file can have
pub fault_of_its_file : (s : Settings) (result : Result Summary RunFault) (a z : Files) → Leaves s result a z
    → IfErr result (λ e. is_of_its_stream e ≡ true)
fault_of_its_file s (Ok summary) a z u = tt
fault_of_its_file s (Err e) a z u = of_its_file s e a z u

-- where both inputs have files without a fault, a run ends early only where a device fails or there is no room
pub no_needless_refusal : (s : Settings) (result : Result Summary RunFault) (a z : Files) → Leaves s result a z
    → IfErr result (λ e. (frames : List UplinkSlots) (sendings : List Sending) → HasUplink frames a.uplink
    → HasOutgoing sendings a.outgoing → is_failure e ≡ true)
no_needless_refusal s (Ok summary) a z u = tt
no_needless_refusal s (Err e) a z u = only_failures s e a z u

-- however a run ended, what it leaves goes by the rules
pub by_the_rules : (s : Settings) (result : Result Summary RunFault) (a z : Files) → Leaves s result a z
    → LeavesByTheRules s result a z
by_the_rules s (Ok summary) a z u = u
by_the_rules s (Err e) a z u = ends_early s e a z u

-- however a run ended, what it leaves of a recording is what its transmissions mean, or a front of that
pub as_meant : (s : Settings) (result : Result Summary RunFault) (a z : Files) → Leaves s result a z
    → ForWhatWasSent s.colour a (λ first second frames sendings. LeavesAsMeant s first second frames sendings result a z)
as_meant s (Ok summary) a z u = λ lead_1 lead_2 first second frames sendings well_1 well_2 recording has.
    let (meant, same, list) = what_is_meant s lead_1 lead_2 first second u.frames frames u.sendings sendings summary.repeated
    (counts_in summary) a z well_1 well_2 u.uplink u.outgoing u.end u.writes recording has in
    let long = u.long in
    let unoffered = u.unoffered in
    let of_all : length (from_frame summary.frames sendings) ≡ length (from_frame summary.frames u.sendings) =
    ap (λ (l : List Sending). length (from_frame summary.frames l)) list in
    (meant, omega (arith, same, long), omega (arith, unoffered, of_all))
as_meant s (Err e) a z u = λ lead_1 lead_2 first second frames sendings well_1 well_2 recording has.
    front_of_what_is_meant s lead_1 lead_2 first second frames sendings a z well_1 well_2 (ends_early s e a z u) recording has

-- ---- but for a fault of the outgoing file, whole records of it were read
pub whole_at_uplink_fault : (s : Settings) (fault : RecordFault) (a z : Files) → UplinkFault s fault a z
    → ReadsWholeRecords a.outgoing z.outgoing
whole_at_uplink_fault s fault a z (inl u) = inl u.outgoing
whole_at_uplink_fault s fault a z (inr u) = inr (u.sendings, u.records.reads)

-- where a write failed, whole records of the outgoing file were read, or nothing of it
pub whole_at_write_fault : (s : Settings) (output : Stream) (a z : Files) → WriteFault s output a z
    → ReadsWholeRecords a.outgoing z.outgoing
whole_at_write_fault s output a z (inl u) =
    let none : outgoing_file [] ++ [] ≡ head_octets outgoing_magic = append-nil (outgoing_file [])
    ∙ append-nil (head_octets outgoing_magic) in
    inr (
      [],
      record {
        each = tt;
        order = tt;
        few = omega arith;
        read = subst (Consumes a.outgoing z.outgoing) (sym none) u.outgoing;
      },
    )
whole_at_write_fault s output a z (inr u) = inr (u.sendings, u.outgoing.reads)

-- the same, where no file was touched
pub whole_where_untouched : (a z : Files) → z ≡ a → ReadsWholeRecords a.outgoing z.outgoing
whole_where_untouched a z same =
    inl (subst (λ (f : Files). Consumes a.outgoing f.outgoing []) (sym same) (Consumes-nil a.outgoing))
