-- What is shown of the files that were read.
use Rattle.std.proofs.Common.{◌≡◌, ℕ, ◌+◌, ◌*◌, ◌⊎◌, Bool, true, false, List, [], ◌∷◌, length, map, Option, refl, sym, ap}
use Rattle.std.proofs.Common.{◌∙◌, subst, arith, inl, inr}
use Rattle.std.proofs.lemmas.List.Sums.{sum_by-cons}
use Rattle.std.specs.List.{sum_by}
use Rattle.dmr_listing.proofs.Listings.{bursts_placed, lines_placed}
use Rattle.dmr_listing.specs.ListingRules as recording
use Rattle.dmr_listing.specs.OutgoingListings as outgoing
use Rattle.dmr_listing.specs.ReceivedListings as received
use Rattle.dmr_recording.specs.Recordings.{RecordedSlot}
use Rattle.dmr_recording.specs.Endings.{IfFile, IfNotWritten}
use Rattle.dmr_listing.specs.Strips.{AreStrips, IsStripped, IsStrippedUpToFault, Picture, shown_marks}
use Rattle.dmr_listing.specs.declared.frames.Frames.{Frames}
use Rattle.dmr_recording.specs.declared.stop.Stop.{Stop}
use Rattle.dmr_recording.specs.declared.stop.Stop.TheVariants.{File, Output}
use Rattle.std.specs.Prelude.{Result, Ok, Err, IfOk, IfErr, OnOk}
use Rattle.dmr_show.specs.declared.file_listing.Shown.{Shown}
use Rattle.dmr_show.specs.declared.file_listing.Shown.TheVariants.{NoStrip, Whole}
use Rattle.dmr_listing.specs.declared.burst_line.BurstLine.{BurstLine}
use Rattle.dmr_listing.specs.declared.listed_burst.ListedBurst.{ListedBurst}
use Rattle.dmr_recording.specs.declared.fault_line.FaultLine.{FaultLine}
use Rattle.dmr_recording.specs.declared.place.Place.{Place}
use Rattle.dmr_recording.specs.declared.recording.Recording.{Recording}
use Rattle.dmr_recording.specs.declared.recording.Recording.TheVariants.{Uplink, Downlink}
use Rattle.dmr_listing.specs.declared.summary.RecordingSummary.{RecordingSummary}
use Rattle.dmr_record.specs.Outgoing.{Sending, AreReadFrom}
use Rattle.dmr_record.specs.Received.{Receipt}
use Rattle.dmr_record.specs.declared.head.FileFormat.{FileFormat}
use Rattle.dmr_record.specs.declared.head.FileFormat.TheVariants as format
use Rattle.dmr_record.specs.declared.outgoing.Outgoing.{Outgoing}
use Rattle.dmr_show.proofs.Printed.{held_alone, printed_in_turn, puts_as, puts_flushed, puts_more, puts_none, puts_one}
use Rattle.dmr_show.specs.Printed.{HasLines, PutsLines, frames_of, lines_around, lines_at, lines_of_strip}
use Rattle.dmr_show.specs.Records.{Records, Slots, Sendings, Receipts, place_of_outgoing, place_of_receipt, place_of_sending}
use Rattle.dmr_show.specs.Records.{places_of}
use Rattle.dmr_show.specs.Showing.{IsFileRead, IsFileReadUpToFault, IsRecordingRead, IsRestShown, IsRestShownUpToFault, format_of}
use Rattle.dmr_show.specs.Showing.{HaveFailed, HaveFailedAt, IsAtFault, IsShown, IsShownWhole, IsWithoutStrip, has_strip}
use Rattle.dmr_record.specs.Faults.{is_device_fault}
use Rattle.dmr_show.specs.declared.file_summary.FileSummary.{FileSummary}
use Rattle.dmr_show.specs.declared.form.Form.{Form}
use Rattle.dmr_show.specs.Held.{held_by}
use Rattle.std.specs.Io.KnownBytes.{Appends, Consumes, IsAtEnd}
use Rattle.dmr_record.specs.Head.{head_octets, magic_of}
use Rattle.dmr_lines.specs.Line.{PutsLine}
use Rattle.dmr_show.specs.declared.file_summary.FileSummary.TheVariants.{OfRecording, OfList}
use Rattle.dmr_show.specs.declared.filter.Filter.{Filter}
use Rattle.dmr_show.specs.declared.form.Form.TheVariants as form

-- the lines of places are those of what stands there
sum_placed : {X : Type 0} (filter : Filter) (place : X → Place) (xs : List X)
    → sum_by (λ x. lines_at filter (place x)) xs ≡ sum_by (lines_at filter) (map place xs)
sum_placed filter place [] = refl
sum_placed filter place (x ∷ xs) =
    sum_by-cons (λ y. lines_at filter (place y)) x xs ∙ ap (λ n. lines_at filter (place x) + n) (sum_placed filter place xs)
    ∙ sym (sum_by-cons (lines_at filter) (place x) (map place xs))

read_as : (of : Recording) (slots : List RecordedSlot) (lines : List BurstLine) (summary : RecordingSummary)
    (a b : Option (List ℕ)) → IsRecordingRead of slots lines summary a b
    → IsFileRead (format_of of) (Slots slots lines) (OfRecording summary) a b
read_as Uplink slots lines summary a b read = read
read_as Downlink slots lines summary a b read = read

fault_as : (of : Recording) (slots : List RecordedSlot) (lines : List BurstLine) (fault : FaultLine)
    (a b : Option (List ℕ)) → recording.IsReadUpToFault of slots lines fault a b
    → IsFileReadUpToFault (format_of of) (Slots slots lines) fault a b
fault_as Uplink slots lines fault a b read = read
fault_as Downlink slots lines fault a b read = read

around_none : (count : ℕ) → count ≡ 0 + count + 0
around_none count = omega arith

before_none : (count : ℕ) → count ≡ 0 + count
before_none count = omega arith

-- What a taker of lines makes of one: it puts so many lines.
abbrev pub PutsEach : {L X : Type 0} → (L → X → L → Type 0) → (L → Filter) → (L → Option (List ℕ)) → (Filter → X → ℕ) → Type 0
PutsEach {L} {X} Takes filter_of held_of lines_of = (a : L) (x : X) (b : L) → Takes a x b
    → (filter_of b ≡ filter_of a) × PutsLines (lines_of (filter_of a) x) (held_of a) (held_of b)

-- so many lines as the bursts have by their places
lines_of_bursts : (filter : Filter) (slots : List RecordedSlot) (lines : List BurstLine) (end : recording.ListingTurn)
    → recording.Lists recording.begun slots lines end
    → sum_by (λ (listed : ListedBurst). lines_at filter listed.line.place) (recording.listed_bursts slots lines)
    ≡ sum_by (lines_at filter) (places_of (Slots slots lines))
lines_of_bursts filter slots lines end lists =
    sum_placed filter (λ (listed : ListedBurst). listed.line.place) (recording.listed_bursts slots lines)
    ∙ ap (sum_by (lines_at filter)) (bursts_placed recording.begun slots lines end lists
    ∙ lines_placed recording.begun slots lines end lists)

-- A recording that is listed whole has its lines and its last line put.
pub recording_shown : {L : Type 0} (old new : L) (Takes : L → ListedBurst → L → Type 0) (filter_of : L → Filter)
    (held_of : L → Option (List ℕ)) (of : Recording) (summary : RecordingSummary) (slots : List RecordedSlot)
    (end : recording.ListingTurn) (a b : Option (List ℕ))
    → recording.IsListed Takes of slots [] end a b old new → 2 * summary.frames ≡ length slots → summary.bursts ≡ end.bursts
    → PutsEach Takes filter_of held_of (λ filter listed. lines_at filter listed.line.place)
    → IsRestShown form.Listing (filter_of old) (format_of of) (OfRecording summary) 0 0 a b (held_of old) (held_of new)
recording_shown old new Takes filter_of held_of of summary slots end a b listed frames bursts each =
    let put = printed_in_turn old new (recording.listed_bursts slots listed.lines) Takes filter_of held_of
    (λ filter (b : ListedBurst). lines_at filter b.line.place) each listed.given in
    record {
      records = Slots slots listed.lines;
      read = read_as of slots listed.lines summary a b (record { end = end; read = listed.read; frames = frames; bursts = bursts });
      count = sum_by (lines_at (filter_of old)) (places_of (Slots slots listed.lines));
      lines = refl;
      put = puts_as _ _ _ _ (lines_of_bursts (filter_of old) slots listed.lines end listed.read.listed ∙ around_none _) put;
    }

-- A recording that is listed up to a fault has the lines before it put.
pub recording_shown_up_to_fault : {L : Type 0} (old new : L) (Takes : L → ListedBurst → L → Type 0) (filter_of : L → Filter)
    (held_of : L → Option (List ℕ)) (of : Recording) (fault : FaultLine) (a b : Option (List ℕ))
    → recording.IsListedUpToFault Takes of fault a b old new
    → PutsEach Takes filter_of held_of (λ filter listed. lines_at filter listed.line.place)
    → IsRestShownUpToFault form.Listing (filter_of old) (format_of of) fault 0 a b (held_of old) (held_of new)
recording_shown_up_to_fault old new Takes filter_of held_of of fault a b listed each =
    let put = printed_in_turn old new (recording.listed_bursts listed.slots listed.lines) Takes filter_of held_of
    (λ filter (b : ListedBurst). lines_at filter b.line.place) each listed.given in
    record {
      records = Slots listed.slots listed.lines;
      read = fault_as of listed.slots listed.lines fault a b listed.read;
      count = sum_by (lines_at (filter_of old)) (places_of (Slots listed.slots listed.lines));
      lines = refl;
      put = puts_as _ _ _ _ (lines_of_bursts (filter_of old) listed.slots listed.lines listed.read.end listed.read.before.listed
          ∙ before_none _) put;
    }

-- records stand where they were read to stand
reads_placed : (sendings : List Sending) (reads : List Outgoing) → AreReadFrom reads sendings
    → map place_of_outgoing reads ≡ map place_of_sending sendings
reads_placed [] [] are = refl
reads_placed [] (r ∷ rs) are = absurd are
reads_placed (s ∷ ss) [] are = absurd are
reads_placed (s ∷ ss) (r ∷ rs) (first, rest) =
    let same : place_of_outgoing r ≡ place_of_sending s = ap place_of_sending first.fields in
    ap (λ (p : Place). p ∷ map place_of_outgoing rs) same
    ∙ ap (λ (ps : List Place). place_of_sending s ∷ ps) (reads_placed ss rs rest)

-- so many lines as the records have by their places
lines_of_reads : (filter : Filter) (sendings : List Sending) (reads : List Outgoing) → AreReadFrom reads sendings
    → sum_by (λ (r : Outgoing). lines_at filter (place_of_outgoing r)) reads
    ≡ sum_by (lines_at filter) (places_of (Sendings sendings))
lines_of_reads filter sendings reads are =
    sum_placed filter place_of_outgoing reads ∙ ap (sum_by (lines_at filter)) (reads_placed sendings reads are)

-- an outgoing list that was listed is shown, with a line for each record that the filter lets pass
pub outgoing_shown : {L : Type 0} (old new : L) (Takes : L → Outgoing → L → Type 0) (filter_of : L → Filter)
    (held_of : L → Option (List ℕ)) (count : ℕ) (sendings : List Sending) (a b : Option (List ℕ))
    → outgoing.AreSendingsListed Takes sendings [] a b old new → count ≡ length sendings
    → PutsEach Takes filter_of held_of (λ filter r. lines_at filter (place_of_outgoing r))
    → IsRestShown form.Listing (filter_of old) format.Outgoing (OfList count) 0 0 a b (held_of old) (held_of new)
outgoing_shown old new Takes filter_of held_of count sendings a b listed many each =
    let put = printed_in_turn old new listed.given.reads Takes filter_of held_of
    (λ filter r. lines_at filter (place_of_outgoing r)) each listed.given.given in
    record {
      records = Sendings sendings;
      read = record { read = listed.read; many = many };
      count = sum_by (lines_at (filter_of old)) (places_of (Sendings sendings));
      lines = refl;
      put = puts_as _ _ _ _ (lines_of_reads (filter_of old) sendings listed.given.reads listed.given.listed ∙ around_none _) put;
    }

-- the same, up to a record that shows a fault
pub outgoing_shown_up_to_fault : {L : Type 0} (old new : L) (Takes : L → Outgoing → L → Type 0) (filter_of : L → Filter)
    (held_of : L → Option (List ℕ)) (fault : FaultLine) (a b : Option (List ℕ))
    → outgoing.AreSendingsListedUpToFault Takes fault a b old new
    → PutsEach Takes filter_of held_of (λ filter r. lines_at filter (place_of_outgoing r))
    → IsRestShownUpToFault form.Listing (filter_of old) format.Outgoing fault 0 a b (held_of old) (held_of new)
outgoing_shown_up_to_fault old new Takes filter_of held_of fault a b listed each =
    let put = printed_in_turn old new listed.given.reads Takes filter_of held_of
    (λ filter r. lines_at filter (place_of_outgoing r)) each listed.given.given in
    record {
      records = Sendings listed.sendings;
      read = listed.read;
      count = sum_by (lines_at (filter_of old)) (places_of (Sendings listed.sendings));
      lines = refl;
      put = puts_as _ _ _ _ (lines_of_reads (filter_of old) listed.sendings listed.given.reads listed.given.listed
          ∙ before_none _) put;
    }

-- a received list that was listed is shown, with a line for each record that the filter lets pass
pub received_shown : {L : Type 0} (old new : L) (Takes : L → Receipt → L → Type 0) (filter_of : L → Filter)
    (held_of : L → Option (List ℕ)) (count : ℕ) (receipts : List Receipt) (a b : Option (List ℕ))
    → received.AreReceiptsListed Takes receipts [] a b old new → count ≡ length receipts
    → PutsEach Takes filter_of held_of (λ filter r. lines_at filter (place_of_receipt r))
    → IsRestShown form.Listing (filter_of old) format.Received (OfList count) 0 0 a b (held_of old) (held_of new)
received_shown old new Takes filter_of held_of count receipts a b listed many each =
    let put = printed_in_turn old new receipts Takes filter_of held_of
    (λ filter r. lines_at filter (place_of_receipt r)) each listed.given in
    record {
      records = Receipts receipts;
      read = record { read = listed.read; many = many };
      count = sum_by (lines_at (filter_of old)) (places_of (Receipts receipts));
      lines = refl;
      put = puts_as _ _ _ _ (sum_placed (filter_of old) place_of_receipt receipts ∙ around_none _) put;
    }

-- the same, up to a record that shows a fault
pub received_shown_up_to_fault : {L : Type 0} (old new : L) (Takes : L → Receipt → L → Type 0) (filter_of : L → Filter)
    (held_of : L → Option (List ℕ)) (fault : FaultLine) (a b : Option (List ℕ))
    → received.AreReceiptsListedUpToFault Takes fault a b old new
    → PutsEach Takes filter_of held_of (λ filter r. lines_at filter (place_of_receipt r))
    → IsRestShownUpToFault form.Listing (filter_of old) format.Received fault 0 a b (held_of old) (held_of new)
received_shown_up_to_fault old new Takes filter_of held_of fault a b listed each =
    let put = printed_in_turn old new listed.receipts Takes filter_of held_of
    (λ filter r. lines_at filter (place_of_receipt r)) each listed.given in
    record {
      records = Receipts listed.receipts;
      read = listed.read;
      count = sum_by (lines_at (filter_of old)) (places_of (Receipts listed.receipts));
      lines = refl;
      put = puts_as _ _ _ _ (sum_placed (filter_of old) place_of_receipt listed.receipts ∙ before_none _) put;
    }

strip_shown : {L : Type 0} (old new : L) (Takes : L → Picture → L → Type 0) (filter_of : L → Filter)
    (held_of : L → Option (List ℕ)) (of : Recording) (frames : Frames) (summary : RecordingSummary) (slots : List RecordedSlot)
    (end : recording.ListingTurn) (a b : Option (List ℕ)) → frames ≡ frames_of (filter_of old)
    → IsStripped Takes of frames slots [] end a b old new
    → 2 * summary.frames ≡ length slots → summary.bursts ≡ end.bursts → PutsEach Takes filter_of held_of lines_of_strip
    → IsRestShown form.Strip (filter_of old) (format_of of) (OfRecording summary) 0 0 a b (held_of old) (held_of new)
strip_shown old new Takes filter_of held_of of frames summary slots end a b asked stripped many bursts each =
    let put = printed_in_turn old new stripped.strips Takes filter_of held_of lines_of_strip each stripped.given in
    record {
      records = Slots slots stripped.lines;
      read = read_as of slots stripped.lines summary a b (record {
        end = end;
        read = stripped.read;
        frames = many;
        bursts = bursts;
      });
      count = sum_by (lines_of_strip (filter_of old)) stripped.strips;
      lines = (
        stripped.strips,
        subst (λ f. AreStrips (shown_marks f 0 slots stripped.lines) stripped.strips) asked stripped.drawn,
        refl,
      );
      put = puts_as _ _ _ _ (around_none _) put;
    }

strip_shown_up_to_fault : {L : Type 0} (old new : L) (Takes : L → Picture → L → Type 0) (filter_of : L → Filter)
    (held_of : L → Option (List ℕ)) (of : Recording) (frames : Frames) (fault : FaultLine) (a b : Option (List ℕ))
    → frames ≡ frames_of (filter_of old) → IsStrippedUpToFault Takes of frames fault a b old new
    → PutsEach Takes filter_of held_of lines_of_strip
    → IsRestShownUpToFault form.Strip (filter_of old) (format_of of) fault 0 a b (held_of old) (held_of new)
strip_shown_up_to_fault old new Takes filter_of held_of of frames fault a b asked stripped each =
    let put = printed_in_turn old new stripped.strips Takes filter_of held_of lines_of_strip each stripped.given in
    record {
      records = Slots stripped.slots stripped.lines;
      read = fault_as of stripped.slots stripped.lines fault a b stripped.read;
      count = sum_by (lines_of_strip (filter_of old)) stripped.strips;
      lines = (
        stripped.strips,
        subst (λ f. AreStrips (shown_marks f 0 stripped.slots stripped.lines) stripped.strips) asked stripped.drawn,
        refl,
      );
      put = puts_as _ _ _ _ (before_none _) put;
    }

-- what follows of a fault that is told
pub told : (end : Stop) (P Q : FaultLine → Type 0) → IfFile end P → ((fault : FaultLine) → P fault → Q fault) → IfFile end Q
told (File fault) P Q holds follows = follows fault holds
told Output P Q holds follows = tt

-- the strips of a recording, where that succeeds
pub strip_whole : {L : Type 0} (r : Result RecordingSummary Stop) (old new : L) (Takes : L → Picture → L → Type 0)
    (filter_of : L → Filter) (held_of : L → Option (List ℕ)) (of : Recording) (frames : Frames) (a b : Option (List ℕ))
    → frames ≡ frames_of (filter_of old)
    → IfOk r (λ summary. (slots : List RecordedSlot) × (end : recording.ListingTurn)
    × IsStripped Takes of frames slots [] end a b old new × (2 * summary.frames ≡ length slots) × (summary.bursts ≡ end.bursts))
    → PutsEach Takes filter_of held_of lines_of_strip
    → IfOk r (λ summary. IsRestShown form.Strip (filter_of old) (format_of of) (OfRecording summary) 0 0 a b (held_of old)
    (held_of new))
strip_whole (Ok summary) old new Takes filter_of held_of of frames a b asked (slots, end, stripped, many, bursts) each =
    strip_shown old new Takes filter_of held_of of frames summary slots end a b asked stripped many bursts each
strip_whole (Err e) old new Takes filter_of held_of of frames a b asked all each = tt

-- and where it doesn't
pub strip_fault : {L : Type 0} (r : Result RecordingSummary Stop) (old new : L) (Takes : L → Picture → L → Type 0)
    (filter_of : L → Filter) (held_of : L → Option (List ℕ)) (of : Recording) (frames : Frames) (a b : Option (List ℕ))
    → frames ≡ frames_of (filter_of old)
    → IfErr r (λ e. IfFile e (λ fault. IsStrippedUpToFault Takes of frames fault a b old new))
    → PutsEach Takes filter_of held_of lines_of_strip
    → IfErr r (λ e. IfFile e (λ fault. IsRestShownUpToFault form.Strip (filter_of old) (format_of of) fault 0 a b (held_of old)
    (held_of new)))
strip_fault (Ok summary) old new Takes filter_of held_of of frames a b asked fault each = tt
strip_fault (Err Output) old new Takes filter_of held_of of frames a b asked fault each = tt
strip_fault (Err (File f)) old new Takes filter_of held_of of frames a b asked fault each =
    strip_shown_up_to_fault old new Takes filter_of held_of of frames f a b asked fault each

-- a line before them, and one behind
pub rest_between : (asked : Form) (filter used : Filter) (of : FileFormat) (summary : FileSummary) (a b h i j k : Option (List ℕ))
    → used ≡ filter → IsRestShown asked used of summary 0 0 a b i j → PutsLine h i → PutsLine j k
    → IsRestShown asked filter of summary 1 1 a b h k
rest_between asked filter used of summary a b h i j k same rest first last = record {
  records = rest.records;
  read = rest.read;
  count = rest.count;
  lines = subst (λ f. HasLines asked f rest.records rest.count) same rest.lines;
  put = puts_as (1 + (0 + rest.count + 0) + 1) _ _ _ (omega arith)
      (puts_more _ 1 h j k (puts_more 1 _ h i j (puts_one h i first) rest.put) (puts_one j k last));
}

-- a line before them
pub rest_behind : (asked : Form) (filter used : Filter) (of : FileFormat) (fault : FaultLine) (a b h i j : Option (List ℕ))
    → used ≡ filter → PutsLine h i → IsRestShownUpToFault asked used of fault 0 a b i j
    → IsRestShownUpToFault asked filter of fault 1 a b h j
rest_behind asked filter used of fault a b h i j same first rest = record {
  records = rest.records;
  read = rest.read;
  count = rest.count;
  lines = subst (λ f. HasLines asked f rest.records rest.count) same rest.lines;
  put = puts_as (1 + (0 + rest.count)) _ _ _ (omega arith) (puts_more 1 _ h i j (puts_one h i first) rest.put);
}

-- the head was read, and then the rest was shown
pub whole_shown : (asked : Form) (filter : Filter) (of : FileFormat) (a b c h k : Option (List ℕ))
    → Consumes a b (head_octets (magic_of of)) → ((summary : FileSummary)
    × IsRestShown asked filter of summary (lines_around asked) (lines_around asked) b c h k) → IsAtEnd c
    → IsShownWhole asked filter a c h k
whole_shown asked filter of a b c h k head (summary, rest) end = record {
  records = rest.records;
  summary = summary;
  whole = record { format = of; behind = b; head = head; rest = rest.read; end = end };
  count = rest.count;
  lines = rest.lines;
  put = rest.put;
}

pub fault_shown : (asked : Form) (filter : Filter) (of : FileFormat) (fault : FaultLine) (a b c h k : Option (List ℕ))
    → Consumes a b (head_octets (magic_of of)) → IsRestShownUpToFault asked filter of fault (lines_around asked) b c h k
    → IsAtFault asked filter fault a c h k
fault_shown asked filter of fault a b c h k head rest = inr (record {
  records = rest.records;
  read = record { format = of; behind = b; head = head; rest = rest.read };
  count = rest.count;
  lines = rest.lines;
  put = rest.put;
})

-- what waited was written
whole_flushed : (asked : Form) (filter : Filter) (a b h j k : Option (List ℕ)) (w : List ℕ)
    → IsShownWhole asked filter a b h (held_by j w) → Appends j k w → IsShownWhole asked filter a b h k
whole_flushed asked filter a b h j k w shown flushed = record {
  records = shown.records;
  summary = shown.summary;
  whole = shown.whole;
  count = shown.count;
  lines = shown.lines;
  put = puts_flushed _ h j k w shown.put flushed;
}

fault_flushed : (asked : Form) (filter : Filter) (fault : FaultLine) (a b h j k : Option (List ℕ)) (w : List ℕ)
    → IsAtFault asked filter fault a b h (held_by j w) → Appends j k w → IsAtFault asked filter fault a b h k
fault_flushed asked filter fault a b h j k w (inl alone) flushed =
    inl (record { head = alone.head; put = puts_flushed 0 h j k w alone.put flushed })
fault_flushed asked filter fault a b h j k w (inr shown) flushed = inr (record {
  records = shown.records;
  read = shown.read;
  count = shown.count;
  lines = shown.lines;
  put = puts_flushed _ h j k w shown.put flushed;
})

none_flushed : (asked : Form) (a h j k : Option (List ℕ)) (w : List ℕ) → IsWithoutStrip asked a h (held_by j w)
    → Appends j k w → IsWithoutStrip asked a h k
none_flushed asked a h j k w shown flushed =
    record { strip = shown.strip; list = shown.list; put = puts_flushed 0 h j k w shown.put flushed }

pub shown_flushed : (r : Result Shown Stop) (asked : Form) (filter : Filter) (a b h j k : Option (List ℕ)) (w : List ℕ)
    → IsShown asked filter r a b h (held_by j w) → Appends j k w → IsShown asked filter r a b h k
shown_flushed (Ok Whole) asked filter a b h j k w shown flushed =
    (whole_flushed asked filter a b h j k w shown.0 flushed, shown.1)
shown_flushed (Ok NoStrip) asked filter a b h j k w shown flushed = none_flushed asked a h j k w shown flushed
shown_flushed (Err (File fault)) asked filter a b h j k w shown flushed =
    fault_flushed asked filter fault a b h j k w shown flushed
shown_flushed (Err Output) asked filter a b h j k w shown flushed = tt

-- nothing waited before it
pub shown_begun : (r : Result Shown Stop) (asked : Form) (filter : Filter) (a b h k : Option (List ℕ)) (w : List ℕ) → w ≡ []
    → IsShown asked filter r a b (held_by h w) k → IsShown asked filter r a b h k
shown_begun r asked filter a b h k w none shown = subst (λ l. IsShown asked filter r a b l k) (held_alone h w none) shown

-- ---- which device has failed
pub failed_at : (e : Stop) (source sink : Bool) → IfFile e (λ fault. source ≡ is_device_fault fault.fault)
    → IfNotWritten e (sink ≡ true) → IfFile e (λ fault. sink ≡ false) → HaveFailedAt e source sink
failed_at (File fault) source sink of_source of_sink others = (of_source, others)
failed_at Output source sink of_source of_sink others = of_sink

-- which device has failed, by how the listing ended: at a fault, at a line that couldn't be put, or well
pub failed_of : {T : Type 0} (r : Result T Stop) (source sink before : Bool)
    → IfErr r (λ e. IfFile e (λ fault. source ≡ is_device_fault fault.fault)) → IfErr r (λ e. IfNotWritten e (sink ≡ true))
    → IfErr r (λ e. IfFile e (λ fault. sink ≡ false)) → OnOk r ((before ≡ false) × (sink ≡ false)) → HaveFailed r source sink
failed_of (Ok x) source sink before of_source of_sink others well = well.1
failed_of (Err e) source sink before of_source of_sink others well = failed_at e source sink of_source of_sink others

-- where a form is no strip, it has the lines of a listing
lines_as : (asked : Form) (filter : Filter) (records : Records) (count : ℕ) → (asked ≡ form.Strip → ⊥)
    → HasLines form.Listing filter records count → HasLines asked filter records count
lines_as form.Listing filter records count listing lines = lines
lines_as form.Json filter records count listing lines = lines
lines_as form.Strip filter records count listing lines = absurd (listing refl)

around_as : (asked : Form) → (asked ≡ form.Strip → ⊥) → 1 ≡ lines_around asked
around_as form.Listing listing = refl
around_as form.Json listing = refl
around_as form.Strip listing = absurd (listing refl)

-- the forms of a listing and of JSON aren't that of strips
pub no_strip : (asked : Form) → (asked ≡ form.Listing) ⊎ (asked ≡ form.Json) → asked ≡ form.Strip → ⊥
no_strip asked (inl listing) strip = cc
no_strip asked (inr json) strip = cc

-- a file in a form that is no strip
pub file_listed : (r : Result Shown Stop) (asked : Form) (filter : Filter) (of : FileFormat) (a b c h k : Option (List ℕ))
    → (asked ≡ form.Strip → ⊥) → Consumes a b (head_octets (magic_of of))
    → OnOk r ((summary : FileSummary) × IsRestShown form.Listing filter of summary 1 1 b c h k) → OnOk r (IsAtEnd c)
    → IfOk r (λ shown. shown ≡ Whole)
    → IfErr r (λ e. IfFile e (λ fault. IsRestShownUpToFault form.Listing filter of fault 1 b c h k))
    → IsShown asked filter r a c h k
file_listed (Ok Whole) asked filter of a b c h k listing head (summary, rest) end whole fault = (
  whole_shown asked filter of a b c h k head (
    summary,
    record {
      records = rest.records;
      read = rest.read;
      count = rest.count;
      lines = lines_as asked filter rest.records rest.count listing rest.lines;
      put = subst (λ n. PutsLines (n + rest.count + n) h k) (around_as asked listing) rest.put;
    },
  ) end,
  λ strip. absurd (listing strip),
)
file_listed (Ok NoStrip) asked filter of a b c h k listing head rest end whole fault = cc
file_listed (Err Output) asked filter of a b c h k listing head rest end whole fault = tt
file_listed (Err (File fault)) asked filter of a b c h k listing head whole_rest end whole rest =
    fault_shown asked filter of fault a b c h k head (record {
      records = rest.records;
      read = rest.read;
      count = rest.count;
      lines = lines_as asked filter rest.records rest.count listing rest.lines;
      put = subst (λ n. PutsLines (n + rest.count) h k) (around_as asked listing) rest.put;
    })

-- the strip of a file
pub file_stripped : {L : Type 0} (r : Result Shown Stop) (asked : Form) (filter : Filter) (of : FileFormat)
    (a b c : Option (List ℕ)) (old new : L) (held_of : L → Option (List ℕ)) → asked ≡ form.Strip
    → Consumes a b (head_octets (magic_of of))
    → IfOk r (λ shown. shown ≡ Whole → (summary : FileSummary)
    × IsRestShown form.Strip filter of summary 0 0 b c (held_of old) (held_of new))
    → IfOk r (λ shown. shown ≡ Whole → IsAtEnd c) → IfOk r (λ shown. shown ≡ Whole → has_strip of ≡ true)
    → IfOk r (λ shown. shown ≡ NoStrip → has_strip of ≡ false) → IfOk r (λ shown. shown ≡ NoStrip → new ≡ old)
    → IfErr r (λ e. IfFile e (λ fault. IsRestShownUpToFault form.Strip filter of fault 0 b c (held_of old) (held_of new)))
    → IsShown asked filter r a c (held_of old) (held_of new)
file_stripped (Ok Whole) asked filter of a b c old new held_of strip head rest end has none untouched fault = (
  subst (λ f. IsShownWhole f filter a c (held_of old) (held_of new)) (sym strip)
      (whole_shown form.Strip filter of a b c (held_of old) (held_of new) head (rest refl) (end refl)),
  λ asks. (of, b, head, has refl),
)
file_stripped (Ok NoStrip) asked filter of a b c old new held_of strip head rest end has none untouched fault = record {
  strip = strip;
  list = (of, b, head, none refl);
  put = subst (λ l. PutsLines 0 (held_of old) (held_of l)) (sym (untouched refl)) (puts_none (held_of old));
}
file_stripped (Err Output) asked filter of a b c old new held_of strip head rest end has none untouched fault = tt
file_stripped (Err (File f)) asked filter of a b c old new held_of strip head rest end has none untouched fault =
    subst (λ g. IsAtFault g filter f a c (held_of old) (held_of new)) (sym strip)
    (fault_shown form.Strip filter of f a b c (held_of old) (held_of new) head fault)
