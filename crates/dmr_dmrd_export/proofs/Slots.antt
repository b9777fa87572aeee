-- Slots are read one after another, and what of them is exported.
use Rattle.std.proofs.Common.{◌≡◌, inl, inr, ℕ, ◌+◌, ◌≤◌, List, [], ◌∷◌, ◌++◌, length, replicate, count_by, is_some}
use Rattle.std.proofs.Common.{cond, Option, None, refl, sym, subst, arith, append-nil}
use Rattle.std.proofs.ByRecursion.{All-push}
use Rattle.std.proofs.lemmas.List.{length-append}
use Rattle.std.proofs.lemmas.List.Sums.{sum_by-append}
use Rattle.std.specs.Io.KnownBytes.{Appends, Consumes, IsAtEnd}
use Rattle.std.specs.List.{flat_map}
use Rattle.std.proofs.KnownBytes.{Appends-trans, Consumes-nil, Consumes-trans}
use Rattle.dmr_capture.specs.Written.{written_head}
use Rattle.dmr_listing.specs.ListingRules.{ListingTurn, begun}
use Rattle.dmr_record.specs.Devices.{Tears}
use Rattle.dmr_record.specs.Head.{downlink_magic, head_octets}
use Rattle.dmr_record.proofs.Torn.{Tears_after}
use Rattle.dmr_recording.proofs.Spelled.{spelled_more}
use Rattle.dmr_recording.specs.Recordings.{IsSlotOf, RecordedSlot, spelling}
use Rattle.dmr_recording.specs.declared.recording.Recording.TheVariants.{Downlink}
use Rattle.dmr_recording.specs.declared.fault_line.FaultLine.{FaultLine}
use Rattle.dmr_dmrd_export.specs.BurstExports.{AreAllTaken, AreBurstsExported, AreBurstsRead, AreSlotsTaken, AreTakenAndTorn}
use Rattle.dmr_dmrd_export.specs.BurstExports.{AreTakenUpToFault, IsBurstCaptureTorn, IsDownlinkExported, IsExportedUpToFault}
use Rattle.dmr_dmrd_export.specs.BurstExports.{IsRestOfRead}
use Rattle.dmr_dmrd_export.specs.Deciding.{AreMoreTorn, AreMoreWritten, IsRestTorn, nothing_exported}
use Rattle.dmr_dmrd_export.specs.Repeats.{AreRepeated, IsRepeatedNext}
use Rattle.dmr_dmrd_export.specs.declared.burst.RepeatedBurst.{RepeatedBurst}
use Rattle.dmr_dmrd_export.specs.declared.counts.ExportedBursts.{ExportedBursts}
use Rattle.dmr_dmrd_export.specs.declared.packet.BurstPacket.{BurstPacket}
use Rattle.dmr_dmrd_export.specs.declared.settings.ExportSettings.{ExportSettings}
use Rattle.dmr_dmrd_export.specs.declared.state.ExportState.{ExportState}
use Rattle.dmr_dmrd_export.proofs.Streaming.{all_decided, none_decided}
use Rattle.dmr_dmrd_export.proofs.Writing.{torn_then, written_then}

-- 1. Slots.

repeated_more : (turn mid end : ListingTurn) (slots : List RecordedSlot) (bursts : List (Option RepeatedBurst))
    (slot : RecordedSlot) (burst : Option RepeatedBurst) → AreRepeated turn slots bursts mid → IsRepeatedNext mid slot burst end
    → AreRepeated turn (slots ++ slot ∷ []) (bursts ++ burst ∷ []) end
repeated_more turn mid end [] [] slot burst (none, same) next =
    (end, subst (λ (t : ListingTurn). IsRepeatedNext t slot burst end) same next, (refl, refl))
repeated_more turn mid end [] (b ∷ bursts) slot burst (none, same) next = absurd (cc none)
repeated_more turn mid end (s ∷ slots) [] slot burst before next = absurd before
repeated_more turn mid end (s ∷ slots) (b ∷ bursts) slot burst (step, first, rest) next =
    (step, first, repeated_more step mid end slots bursts slot burst rest next)

-- no slot was read yet
pub read_none : (left : Option (List ℕ)) → AreBurstsRead [] [] [] begun left left
read_none left = record { each = tt; octets = Consumes-nil left; repeated = (refl, refl) }

-- a slot more was read
pub read_more : (slots : List RecordedSlot) (bursts : List (Option RepeatedBurst)) (slot : RecordedSlot)
    (burst : Option RepeatedBurst) (turn next : ListingTurn) (a b c : Option (List ℕ))
    → AreBurstsRead slots [] bursts turn a b → IsSlotOf Downlink slot → Consumes b c (spelling Downlink slot)
    → IsRepeatedNext turn slot burst next → AreBurstsRead (slots ++ slot ∷ []) [] (bursts ++ burst ∷ []) next a c
read_more slots bursts slot burst turn next a b c read is_slot octets repeated = record {
  each = All-push (IsSlotOf Downlink) slots slot read.each is_slot;
  octets = spelled_more Downlink slots slot a b c read.octets octets;
  repeated = repeated_more begun turn next slots bursts slot burst read.repeated repeated;
}

-- some octets more
pub read_part : (slots : List RecordedSlot) (bursts : List (Option RepeatedBurst)) (part : List ℕ) (turn : ListingTurn)
    (a b c : Option (List ℕ)) → AreBurstsRead slots [] bursts turn a b → Consumes b c part
    → AreBurstsRead slots part bursts turn a c
read_part slots bursts part turn a b c read octets = record {
  each = read.each;
  octets = Consumes-trans a b c _ part (subst (Consumes a b) (append-nil (flat_map (spelling Downlink) slots)) read.octets) octets;
  repeated = read.repeated;
}

-- how many bursts there are, with a slot more
pub count_more : (slots : List RecordedSlot) (slot : RecordedSlot)
    → count_by is_some (slots ++ slot ∷ []) ≡ count_by is_some slots + cond (is_some slot) 1 0
count_more slots slot =
    let both = sum_by-append (λ (x : RecordedSlot). cond (is_some x) 1 0) slots (slot ∷ []) in
    omega (arith, both)

-- 2. A downlink.

-- all is decided, and its capture is written
pub exported : (settings : ExportSettings) (slots : List RecordedSlot) (part : List ℕ) (packets more : List BurstPacket)
    (mid end : ExportState) (a b c d e f g : Option (List ℕ)) → Consumes a b (head_octets downlink_magic)
    → Appends d e written_head → AreSlotsTaken settings slots part packets nothing_exported mid b c e f
    → AreMoreWritten settings mid (replicate 8 None) more end f g
    → AreBurstsExported settings slots part (packets ++ more) a c d g
exported settings slots part packets more mid end a b c d e f g head put taken rest =
    let all = written_then settings nothing_exported mid end taken.bursts (replicate 8 None) packets more e f g taken.written rest
    in
    let decided = all.decided.go_on [] [] none_decided in
    record {
      left_mid = b;
      bursts = taken.bursts;
      turn = taken.turn;
      end = end.streams;
      head = head;
      read = taken.read;
      streamed = all_decided taken.bursts (packets ++ more) end decided;
      fit = all.fit;
      written = Appends-trans d e g written_head _ put all.written;
    }

-- packets are torn, behind the head of the capture
torn_with : (settings : ExportSettings) (slots : List RecordedSlot) (part : List ℕ) (bursts : List (Option RepeatedBurst))
    (turn : ListingTurn) (silent : ℕ) (a b c d e f : Option (List ℕ)) → silent ≤ 8 → Consumes a b (head_octets downlink_magic)
    → Appends d e written_head → AreBurstsRead slots part bursts turn b c → IsRestOfRead slots part
    → AreMoreTorn settings nothing_exported (bursts ++ replicate silent None) e f → IsBurstCaptureTorn settings a c d f
torn_with settings slots part bursts turn silent a b c d e f few head put read rest torn = record {
  slots = slots;
  part = part;
  left_mid = b;
  bursts = bursts;
  turn = turn;
  silent = silent;
  packets = torn.more;
  state = torn.after;
  head = head;
  read = read;
  rest = rest;
  few = few;
  decided = torn.decided.go_on [] [] none_decided;
  written = Tears_after d e f written_head _ put torn.written;
}

-- in the middle of a downlink
pub torn_in_slots : (settings : ExportSettings) (slots : List RecordedSlot) (bursts : List (Option RepeatedBurst))
    (turn : ListingTurn) (a b c d e f : Option (List ℕ)) → Consumes a b (head_octets downlink_magic)
    → Appends d e written_head → AreBurstsRead slots [] bursts turn b c → AreMoreTorn settings nothing_exported bursts e f
    → IsBurstCaptureTorn settings a c d f
torn_in_slots settings slots bursts turn a b c d e f head put read torn =
    torn_with settings slots [] bursts turn 0 a b c d e f (omega arith) head put read (inl refl)
    (subst (λ (l : List (Option RepeatedBurst)). AreMoreTorn settings nothing_exported l e f) (sym (append-nil bursts)) torn)

-- behind it
pub torn_behind : (settings : ExportSettings) (slots : List RecordedSlot) (part : List ℕ) (packets : List BurstPacket)
    (mid : ExportState) (a b c d e f g : Option (List ℕ)) → Consumes a b (head_octets downlink_magic)
    → Appends d e written_head → AreSlotsTaken settings slots part packets nothing_exported mid b c e f
    → IsRestOfRead slots part → IsRestTorn settings mid f g → IsBurstCaptureTorn settings a c d g
torn_behind settings slots part packets mid a b c d e f g head put taken rest torn =
    torn_with settings slots part taken.bursts taken.turn torn.silent a b c d e g torn.few head put taken.read rest
    (torn_then settings nothing_exported mid taken.bursts (replicate torn.silent None) packets e f g taken.written torn.torn)

-- in its head: no slot was read
pub torn_in_head : (settings : ExportSettings) (a b d e : Option (List ℕ)) → Consumes a b (head_octets downlink_magic)
    → Tears d e written_head → IsBurstCaptureTorn settings a b d e
torn_in_head settings a b d e head torn = record {
  slots = [];
  part = [];
  left_mid = b;
  bursts = [];
  turn = begun;
  silent = 0;
  packets = [];
  state = nothing_exported;
  head = head;
  read = read_none b;
  rest = inl refl;
  few = omega arith;
  decided = none_decided;
  written = subst (Tears d e) (sym (append-nil written_head)) torn;
}

-- 3. What is exported of slots that were taken.

-- the whole downlink
pub exported_all : (settings : ExportSettings) (counted : ExportedBursts) (count : ℕ) (more : List BurstPacket)
    (begin mid end : ExportState) (a b c d e f g : Option (List ℕ)) → begin ≡ nothing_exported
    → Consumes a b (head_octets downlink_magic) → Appends d e written_head → AreAllTaken settings counted begin mid b c e f
    → AreMoreWritten settings mid (replicate 8 None) more end f g → count ≡ length more → IsAtEnd c
    → IsDownlinkExported settings (record { records = counted.records; written = counted.written + count }) a c d g
exported_all settings counted count more begin mid end a b c d e f g same head put all rest long at_end = record {
  slots = all.slots;
  packets = all.packets ++ more;
  each = exported settings all.slots [] all.packets more mid end a b c d e f g head put
      (subst (λ (s : ExportState). AreSlotsTaken settings all.slots [] all.packets s mid b c e f) same all.taken) rest;
  end = at_end;
  records = all.records;
  count = omega (arith, all.count, long, length-append all.packets more);
}

-- what stands before a fault
pub exported_before : (settings : ExportSettings) (fault : FaultLine) (more : List BurstPacket)
    (begin mid end : ExportState) (a b c d e f g : Option (List ℕ)) → begin ≡ nothing_exported
    → Consumes a b (head_octets downlink_magic) → Appends d e written_head → AreTakenUpToFault settings fault begin mid b c e f
    → AreMoreWritten settings mid (replicate 8 None) more end f g → IsExportedUpToFault settings fault a c d g
exported_before settings fault more begin mid end a b c d e f g same head put all rest = record {
  slots = all.slots;
  part = all.part;
  packets = all.packets ++ more;
  each = exported settings all.slots all.part all.packets more mid end a b c d e f g head put
      (subst (λ (s : ExportState). AreSlotsTaken settings all.slots all.part all.packets s mid b c e f) same all.taken) rest;
  shown = all.shown;
}

-- torn behind the whole downlink
pub torn_at_end : (settings : ExportSettings) (counted : ExportedBursts) (begin mid : ExportState)
    (a b c d e f g : Option (List ℕ)) → begin ≡ nothing_exported
    → Consumes a b (head_octets downlink_magic) → Appends d e written_head → AreAllTaken settings counted begin mid b c e f
    → IsRestTorn settings mid f g → IsBurstCaptureTorn settings a c d g
torn_at_end settings counted begin mid a b c d e f g same head put all torn =
    torn_behind settings all.slots [] all.packets mid a b c d e f g head put
    (subst (λ (s : ExportState). AreSlotsTaken settings all.slots [] all.packets s mid b c e f) same all.taken) (inl refl) torn

-- torn behind what stands before a fault
pub torn_at_fault : (settings : ExportSettings) (fault : FaultLine) (begin mid : ExportState)
    (a b c d e f g : Option (List ℕ)) → begin ≡ nothing_exported
    → Consumes a b (head_octets downlink_magic) → Appends d e written_head → AreTakenUpToFault settings fault begin mid b c e f
    → IsRestTorn settings mid f g → IsBurstCaptureTorn settings a c d g
torn_at_fault settings fault begin mid a b c d e f g same head put all torn =
    torn_behind settings all.slots all.part all.packets mid a b c d e f g head put
    (subst (λ (s : ExportState). AreSlotsTaken settings all.slots all.part all.packets s mid b c e f) same all.taken)
    (inr (fault, all.shown)) torn

-- torn before
pub torn_before : (settings : ExportSettings) (begin : ExportState) (a b c d e f : Option (List ℕ)) → begin ≡ nothing_exported
    → Consumes a b (head_octets downlink_magic) → Appends d e written_head → AreTakenAndTorn settings begin b c e f
    → IsBurstCaptureTorn settings a c d f
torn_before settings begin a b c d e f same head put taken =
    torn_in_slots settings taken.slots taken.bursts taken.turn a b c d e f head put taken.read
    (subst (λ (s : ExportState). AreMoreTorn settings s taken.bursts e f) same taken.torn)
