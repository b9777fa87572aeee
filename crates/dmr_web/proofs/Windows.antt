-- What a window was given in turn, and what of a file that is.
use Rattle.std.proofs.Common.{◌≡◌, ℕ, zero, suc, ◌+◌, ◌-◌, List, [], ◌∷◌, ◌++◌, length, map, drop, replicate, Option}
use Rattle.std.proofs.Common.{refl, sym, ap, ◌∙◌, subst, arith, append-nil}
use Rattle.std.proofs.Math.Seq.{drop-nil}
use Rattle.std.proofs.lemmas.List.{length-map}
use Rattle.dmr_listing.proofs.Listings.{bursts_placed, lines_placed}
use Rattle.dmr_listing.specs.ListingRules as recording
use Rattle.dmr_listing.specs.ListingRules.{GivenInTurn}
use Rattle.dmr_listing.specs.OutgoingListings as outgoing
use Rattle.dmr_listing.specs.ReceivedListings as received
use Rattle.dmr_listing.specs.declared.burst_line.BurstLine.{BurstLine}
use Rattle.dmr_listing.specs.declared.listed_burst.ListedBurst.{ListedBurst}
use Rattle.dmr_record.specs.Outgoing.{Sending, AreReadFrom}
use Rattle.dmr_record.specs.Received.{Receipt}
use Rattle.dmr_record.specs.declared.head.FileFormat.{FileFormat}
use Rattle.dmr_record.specs.declared.head.FileFormat.TheVariants as format
use Rattle.dmr_record.specs.declared.outgoing.Outgoing.{Outgoing}
use Rattle.dmr_recording.specs.Endings.{IfFile, IfNotWritten}
use Rattle.dmr_recording.specs.Recordings.{RecordedSlot}
use Rattle.dmr_recording.specs.declared.fault_line.FaultLine.{FaultLine}
use Rattle.dmr_recording.specs.declared.recording.Recording.{Recording}
use Rattle.dmr_recording.specs.declared.recording.Recording.TheVariants.{Uplink, Downlink}
use Rattle.dmr_recording.specs.declared.stop.Stop.{Stop}
use Rattle.dmr_recording.specs.declared.stop.Stop.TheVariants.{File, Output}
use Rattle.dmr_lines.specs.Line.{PutsLine}
use Rattle.dmr_show.specs.Records.{Records, Slots, Sendings, Receipts, place_of_receipt, place_of_sending}
use Rattle.dmr_show.specs.Showing.{IsFileReadUpToFault, format_of}
use Rattle.dmr_web.specs.Heads.{PutsHeadedLine, burst_head, heads_of}
use Rattle.dmr_web.specs.Windows.{IsAllRead, IsFrontRead, IsListedInPart, IsListedToEnd, IsListedToFault, entry_count, front_held}
use Rattle.dmr_web.specs.declared.window.TextWindow.{TextWindow}
use Rattle.dmr_web.specs.declared.window.WrittenAs.{WrittenAs}

-- What is seen of a window: how many it leaves out yet and has taken, how it writes lines and from which frame on, and its text.
pub record Sight (L : Type 0) : Type 0 where
  pub left : L → ℕ
  pub taken : L → ℕ
  pub notation : L → WrittenAs
  pub frame : L → ℕ
  pub held : L → Option (List ℕ)

-- what is seen of a window of text
abbrev pub window : Sight TextWindow
window = record {
  left = λ w. w.left_out;
  taken = λ w. w.taken;
  notation = λ w. w.notation;
  frame = λ w. w.frame;
  held = λ w. front_held w.text.now w.length;
}

-- What a window makes of each that it is given, whose line has this head.
abbrev pub TakesEach : {L X : Type 0} → (L → X → L → Type 0) → Sight L → (WrittenAs → ℕ → X → List ℕ) → Type 0
TakesEach {L} {X} Takes sight head_of = (a : L) (x : X) (b : L) → Takes a x b
    → (sight.left b ≡ sight.left a - 1) × (sight.taken b ≡ sight.taken a + 1) × (sight.notation b ≡ sight.notation a)
    × (sight.frame b ≡ sight.frame a) × GivenInTurn PutsHeadedLine (sight.held a)
    (drop (sight.left a) (head_of (sight.notation a) (sight.frame a) x ∷ [])) (sight.held b)

-- It took so many, and those that it didn't leave out have a line with their head.
abbrev HasTaken : {L : Type 0} → Sight L → L → L → ℕ → List (List ℕ) → Type 0
HasTaken sight old new count heads = (sight.taken new ≡ sight.taken old + count)
    × GivenInTurn PutsHeadedLine (sight.held old) (drop (sight.left old) heads) (sight.held new)

more_taken : (before between after count : ℕ) → between ≡ before + 1 → after ≡ between + count → after ≡ before + suc count
more_taken before between after count one more = omega (arith, one, more)

none_given : (left : ℕ) (a b : Option (List ℕ)) → GivenInTurn PutsHeadedLine a (drop left []) b → b ≡ a
none_given left a b given = subst (λ l. GivenInTurn PutsHeadedLine a l b) (drop-nil left) given

no_heads : (left : ℕ) (a b : Option (List ℕ)) → b ≡ a → GivenInTurn PutsHeadedLine a (drop left []) b
no_heads left a b same = subst (λ l. GivenInTurn PutsHeadedLine a l b) (sym (drop-nil left)) same

-- one line in front of others
more_heads : (left next : ℕ) (head : List ℕ) (heads : List (List ℕ)) (a b c : Option (List ℕ)) → next ≡ left - 1
    → GivenInTurn PutsHeadedLine a (drop left (head ∷ [])) b → GivenInTurn PutsHeadedLine b (drop next heads) c
    → GivenInTurn PutsHeadedLine a (drop left (head ∷ heads)) c
more_heads zero next head heads a b c less (between, first, same) rest =
    let none : next ≡ 0 = omega (arith, less) in (
      between,
      first,
      subst (λ m. GivenInTurn PutsHeadedLine m heads c) same
          (subst (λ n. GivenInTurn PutsHeadedLine b (drop n heads) c) none rest),
    )
more_heads (suc left) next head heads a b c less none rest =
    let one : next ≡ left = omega (arith, less) in
    subst (λ m. GivenInTurn PutsHeadedLine m (drop left heads) c) (none_given left a b none)
    (subst (λ n. GivenInTurn PutsHeadedLine b (drop n heads) c) one rest)

given_window : {L X : Type 0} (Takes : L → X → L → Type 0) (sight : Sight L) (head_of : WrittenAs → ℕ → X → List ℕ)
    → TakesEach Takes sight head_of → (old new : L) (xs : List X) → GivenInTurn Takes old xs new
    → HasTaken sight old new (length xs) (map (head_of (sight.notation old) (sight.frame old)) xs)
given_window Takes sight head_of each old new [] same = (
  ap sight.taken same ∙ omega arith,
  no_heads (sight.left old) _ _ (ap sight.held same),
)
given_window Takes sight head_of each old new (x ∷ xs) (next, first, rest) =
    let (left, taken, written, counted, put) = each old x next first in
    let (more, others) = given_window Takes sight head_of each next new xs rest in (
      more_taken (sight.taken old) (sight.taken next) (sight.taken new) (length xs) taken more,
      more_heads (sight.left old) (sight.left next) (head_of (sight.notation old) (sight.frame old) x) _ _ _ _ left put
          (subst (λ f. GivenInTurn PutsHeadedLine (sight.held next) (drop (sight.left next) (map (head_of (sight.notation old) f)
          xs))
          (sight.held new)) counted
          (subst (λ n. GivenInTurn PutsHeadedLine (sight.held next) (drop (sight.left next) (map (head_of n (sight.frame next)) xs))
          (sight.held new)) written others)),
    )

-- there are as many lines as bursts
lines_many : (slots : List RecordedSlot) (lines : List BurstLine) (end : recording.ListingTurn)
    → recording.Lists recording.begun slots lines end
    → length (recording.listed_bursts slots lines) ≡ entry_count (Slots slots lines)
lines_many slots lines end lists =
    sym (length-map (recording.listed_bursts slots lines) (λ (listed : ListedBurst). listed.line.place))
    ∙ ap length (bursts_placed recording.begun slots lines end lists ∙ lines_placed recording.begun slots lines end lists)

-- the head of the line of a burst
abbrev head_of_burst : WrittenAs → ℕ → ListedBurst → List ℕ
head_of_burst notation frame listed = burst_head notation frame listed.line.place

heads_by_place : (notation : WrittenAs) (frame : ℕ) (listed : List ListedBurst) → map (head_of_burst notation frame) listed
    ≡ map (burst_head notation frame) (map (λ (one : ListedBurst). one.line.place) listed)
heads_by_place notation frame [] = refl
heads_by_place notation frame (one ∷ more) =
    ap (λ l. burst_head notation frame one.line.place ∷ l) (heads_by_place notation frame more)

-- the heads of lines are those of the places of the bursts
lines_headed : (notation : WrittenAs) (frame : ℕ) (slots : List RecordedSlot) (lines : List BurstLine)
    (end : recording.ListingTurn) → recording.Lists recording.begun slots lines end
    → map (head_of_burst notation frame) (recording.listed_bursts slots lines) ≡ heads_of notation frame (Slots slots lines)
lines_headed notation frame slots lines end lists =
    heads_by_place notation frame (recording.listed_bursts slots lines)
    ∙ ap (map (burst_head notation frame))
    (bursts_placed recording.begun slots lines end lists ∙ lines_placed recording.begun slots lines end lists)

-- there are as many records as were read
reads_many : (sendings : List Sending) (reads : List Outgoing) → AreReadFrom reads sendings → length reads ≡ length sendings
reads_many [] [] are = refl
reads_many [] (r ∷ rs) are = absurd are
reads_many (s ∷ ss) [] are = absurd are
reads_many (s ∷ ss) (r ∷ rs) (first, rest) = ap suc (reads_many ss rs rest)

-- the head of the line of a record, which is left open
abbrev head_of_record : {X : Type 0} → WrittenAs → ℕ → X → List ℕ
head_of_record notation frame record_of_list = []

reads_headed : (notation : WrittenAs) (frame : ℕ) (sendings : List Sending) (reads : List Outgoing) → AreReadFrom reads sendings
    → map (head_of_record notation frame) reads ≡ heads_of notation frame (Sendings sendings)
reads_headed notation frame [] [] are = refl
reads_headed notation frame [] (r ∷ rs) are = absurd are
reads_headed notation frame (s ∷ ss) [] are = absurd are
reads_headed notation frame (s ∷ ss) (r ∷ rs) (first, rest) = ap (λ l. [] ∷ l) (reads_headed notation frame ss rs rest)

receipts_headed : (notation : WrittenAs) (frame : ℕ) (receipts : List Receipt)
    → map (head_of_record notation frame) receipts ≡ heads_of notation frame (Receipts receipts)
receipts_headed notation frame [] = refl
receipts_headed notation frame (r ∷ rs) = ap (λ l. [] ∷ l) (receipts_headed notation frame rs)

-- all of it was taken since nothing was
begun_taken : (before after count entries : ℕ) → before ≡ 0 → count ≡ entries → after ≡ before + count → after ≡ entries
begun_taken before after count entries none many more = omega (arith, none, many, more)

-- It took as many as there are, where it had taken none.
abbrev HasListed : {L : Type 0} → Sight L → L → L → ℕ → List (List ℕ) → Type 0
HasListed sight old new entries heads =
    (sight.taken new ≡ entries) × GivenInTurn PutsHeadedLine (sight.held old) (drop (sight.left old) heads) (sight.held new)

given_entries : {L X : Type 0} (Takes : L → X → L → Type 0) (sight : Sight L) (head_of : WrittenAs → ℕ → X → List ℕ)
    → TakesEach Takes sight head_of → (old new : L) (xs : List X) (entries : ℕ) (heads : List (List ℕ)) → length xs ≡ entries
    → map (head_of (sight.notation old) (sight.frame old)) xs ≡ heads → sight.taken old ≡ 0
    → GivenInTurn Takes old xs new → HasListed sight old new entries heads
given_entries Takes sight head_of each old new xs entries heads many headed none given =
    let (taken, put) = given_window Takes sight head_of each old new xs given in (
      begun_taken (sight.taken old) (sight.taken new) (length xs) entries none many taken,
      subst (λ l. GivenInTurn PutsHeadedLine (sight.held old) (drop (sight.left old) l) (sight.held new)) headed put,
    )

-- no others were put behind them
and_none : (heads : List (List ℕ)) (a b : Option (List ℕ)) → GivenInTurn PutsHeadedLine a heads b
    → GivenInTurn PutsHeadedLine a (heads ++ replicate 0 []) b
and_none heads a b put = subst (λ l. GivenInTurn PutsHeadedLine a l b) (sym (append-nil heads)) put

all_as : (of : Recording) (slots : List RecordedSlot) (lines : List BurstLine) (end : recording.ListingTurn)
    (a b : Option (List ℕ)) → recording.IsRead of slots lines [] end a b → IsAllRead (format_of of) (Slots slots lines) a b
all_as Uplink slots lines end a b read = (end, read)
all_as Downlink slots lines end a b read = (end, read)

fault_as : (of : Recording) (slots : List RecordedSlot) (lines : List BurstLine) (fault : FaultLine)
    (a b : Option (List ℕ)) → recording.IsReadUpToFault of slots lines fault a b
    → IsFileReadUpToFault (format_of of) (Slots slots lines) fault a b
fault_as Uplink slots lines fault a b read = read
fault_as Downlink slots lines fault a b read = read

front_as : (of : Recording) (slots : List RecordedSlot) (lines : List BurstLine) (part : List ℕ) (end : recording.ListingTurn)
    (a b : Option (List ℕ)) → recording.IsRead of slots lines part end a b → IsFrontRead (format_of of) (Slots slots lines) a b
front_as Uplink slots lines part end a b read = (part, end, read)
front_as Downlink slots lines part end a b read = (part, end, read)

-- ---- a recording
pub recording_listed : {L : Type 0} (old new : L) (Takes : L → ListedBurst → L → Type 0) (sight : Sight L) (of : Recording)
    (slots : List RecordedSlot) (end : recording.ListingTurn) (a b : Option (List ℕ))
    → recording.IsListed Takes of slots [] end a b old new → sight.taken old ≡ 0 → TakesEach Takes sight head_of_burst
    → IsListedToEnd (format_of of) (sight.notation old) (sight.frame old) (sight.left old) (sight.taken new) 0 a b
    (sight.held old) (sight.held new)
recording_listed old new Takes sight of slots end a b listed none each =
    let (many, put) = given_entries Takes sight head_of_burst each old new (recording.listed_bursts slots listed.lines) _ _
    (lines_many slots listed.lines end listed.read.listed)
    (lines_headed (sight.notation old) (sight.frame old) slots listed.lines end listed.read.listed) none listed.given in
    record {
      records = Slots slots listed.lines;
      read = all_as of slots listed.lines end a b listed.read;
      many = many;
      put = and_none _ _ _ put;
    }

-- a recording that was read up to a fault is listed up to it
pub recording_to_fault : {L : Type 0} (old new : L) (Takes : L → ListedBurst → L → Type 0) (sight : Sight L) (of : Recording)
    (fault : FaultLine) (a b : Option (List ℕ)) → recording.IsListedUpToFault Takes of fault a b old new → sight.taken old ≡ 0
    → TakesEach Takes sight head_of_burst
    → IsListedToFault (format_of of) (sight.notation old) (sight.frame old) (sight.left old) (sight.taken new) 0 fault a b
    (sight.held old) (sight.held new)
recording_to_fault old new Takes sight of fault a b listed none each =
    let (many, put) = given_entries Takes sight head_of_burst each old new (recording.listed_bursts listed.slots listed.lines) _ _
    (lines_many listed.slots listed.lines listed.read.end listed.read.before.listed)
    (lines_headed (sight.notation old) (sight.frame old) listed.slots listed.lines listed.read.end listed.read.before.listed)
    none listed.given in
    record {
      records = Slots listed.slots listed.lines;
      read = fault_as of listed.slots listed.lines fault a b listed.read;
      many = many;
      put = and_none _ _ _ put;
    }

-- What becomes of a window that refuses one: nothing.
abbrev pub LeavesEach : {L X : Type 0} → (L → X → L → Type 0) → Sight L → Type 0
LeavesEach {L} {X} Refuses sight =
    (a : L) (x : X) (b : L) → Refuses a x b → (sight.taken b ≡ sight.taken a) × (sight.held b ≡ sight.held a)

-- it took what was given before that
as_left : {L : Type 0} (sight : Sight L) (old between new : L) (entries : ℕ) (heads : List (List ℕ))
    → HasListed sight old between entries heads → (sight.taken new ≡ sight.taken between) × (sight.held new ≡ sight.held between)
    → HasListed sight old new entries heads
as_left sight old between new entries heads (taken, put) (same, held) = (
  same ∙ taken,
  subst (λ h. GivenInTurn PutsHeadedLine (sight.held old) (drop (sight.left old) heads) h) (sym held) put,
)

-- one whose listing had no more room is listed as far as there was room
pub recording_in_part : {L : Type 0} (old new : L) (Takes Refuses : L → ListedBurst → L → Type 0) (sight : Sight L)
    (of : Recording) (a b : Option (List ℕ)) → recording.IsListedUpToLine Takes Refuses of a b old new → sight.taken old ≡ 0
    → TakesEach Takes sight head_of_burst → LeavesEach Refuses sight
    → IsListedInPart (format_of of) (sight.notation old) (sight.frame old) (sight.left old) (sight.taken new) a b
    (sight.held old) (sight.held new)
recording_in_part old new Takes Refuses sight of a b listed none each leaves =
    let (many, put) = as_left sight old listed.given.between new _ _
    (given_entries Takes sight head_of_burst each old listed.given.between (recording.listed_bursts listed.slots listed.lines) _ _
    (lines_many listed.slots listed.lines listed.end listed.read.listed)
    (lines_headed (sight.notation old) (sight.frame old) listed.slots listed.lines listed.end listed.read.listed) none
    listed.given.taken) (leaves _ _ _ listed.given.last) in
    record {
      records = Slots listed.slots listed.lines;
      read = front_as of listed.slots listed.lines _ listed.end a b listed.read;
      many = many;
      put = put;
    }

-- ---- an outgoing list
sendings_many : (sendings : List Sending) (reads : List Outgoing) → AreReadFrom reads sendings
    → length reads ≡ entry_count (Sendings sendings)
sendings_many sendings reads are = reads_many sendings reads are ∙ sym (length-map sendings place_of_sending)

-- an outgoing list that was read whole is listed whole
pub outgoing_listed : {L : Type 0} (old new : L) (Takes : L → Outgoing → L → Type 0) (sight : Sight L) (sendings : List Sending)
    (a b : Option (List ℕ)) → outgoing.AreSendingsListed Takes sendings [] a b old new → sight.taken old ≡ 0
    → TakesEach Takes sight head_of_record
    → IsListedToEnd format.Outgoing (sight.notation old) (sight.frame old) (sight.left old) (sight.taken new) 0 a b
    (sight.held old) (sight.held new)
outgoing_listed old new Takes sight sendings a b listed none each =
    let (many, put) = given_entries Takes sight head_of_record each old new listed.given.reads _ _
    (sendings_many sendings listed.given.reads listed.given.listed)
    (reads_headed (sight.notation old) (sight.frame old) sendings listed.given.reads listed.given.listed) none listed.given.given in
    record { records = Sendings sendings; read = listed.read; many = many; put = and_none _ _ _ put }

-- one that was read up to a fault is listed up to it
pub outgoing_to_fault : {L : Type 0} (old new : L) (Takes : L → Outgoing → L → Type 0) (sight : Sight L) (fault : FaultLine)
    (a b : Option (List ℕ)) → outgoing.AreSendingsListedUpToFault Takes fault a b old new → sight.taken old ≡ 0
    → TakesEach Takes sight head_of_record
    → IsListedToFault format.Outgoing (sight.notation old) (sight.frame old) (sight.left old) (sight.taken new) 0 fault a b
    (sight.held old) (sight.held new)
outgoing_to_fault old new Takes sight fault a b listed none each =
    let (many, put) = given_entries Takes sight head_of_record each old new listed.given.reads _ _
    (sendings_many listed.sendings listed.given.reads listed.given.listed)
    (reads_headed (sight.notation old) (sight.frame old) listed.sendings listed.given.reads listed.given.listed) none
    listed.given.given in
    record { records = Sendings listed.sendings; read = listed.read; many = many; put = and_none _ _ _ put }

-- one whose listing had no more room is listed as far as there was room
pub outgoing_in_part : {L : Type 0} (old new : L) (Takes Refuses : L → Outgoing → L → Type 0) (sight : Sight L)
    (a b : Option (List ℕ)) → outgoing.AreSendingsListedUpToLine Takes Refuses a b old new → sight.taken old ≡ 0
    → TakesEach Takes sight head_of_record → LeavesEach Refuses sight
    → IsListedInPart format.Outgoing (sight.notation old) (sight.frame old) (sight.left old) (sight.taken new) a b
    (sight.held old) (sight.held new)
outgoing_in_part old new Takes Refuses sight a b listed none each leaves =
    let (many, put) = as_left sight old listed.between new _ _
    (given_entries Takes sight head_of_record each old listed.between listed.given.reads _ _
    (sendings_many listed.sendings listed.given.reads listed.given.listed)
    (reads_headed (sight.notation old) (sight.frame old) listed.sendings listed.given.reads listed.given.listed) none
    listed.given.given) (leaves _ _ _ listed.last) in
    record { records = Sendings listed.sendings; read = (_, listed.read); many = many; put = put }

-- ---- a received list
receipts_many : (receipts : List Receipt) → length receipts ≡ entry_count (Receipts receipts)
receipts_many receipts = sym (length-map receipts place_of_receipt)

-- a received list that was read whole is listed whole
pub received_listed : {L : Type 0} (old new : L) (Takes : L → Receipt → L → Type 0) (sight : Sight L) (receipts : List Receipt)
    (a b : Option (List ℕ)) → received.AreReceiptsListed Takes receipts [] a b old new → sight.taken old ≡ 0
    → TakesEach Takes sight head_of_record
    → IsListedToEnd format.Received (sight.notation old) (sight.frame old) (sight.left old) (sight.taken new) 0 a b
    (sight.held old) (sight.held new)
received_listed old new Takes sight receipts a b listed none each =
    let (many, put) = given_entries Takes sight head_of_record each old new receipts _ _ (receipts_many receipts)
    (receipts_headed (sight.notation old) (sight.frame old) receipts) none listed.given in
    record { records = Receipts receipts; read = listed.read; many = many; put = and_none _ _ _ put }

-- one that was read up to a fault is listed up to it
pub received_to_fault : {L : Type 0} (old new : L) (Takes : L → Receipt → L → Type 0) (sight : Sight L) (fault : FaultLine)
    (a b : Option (List ℕ)) → received.AreReceiptsListedUpToFault Takes fault a b old new → sight.taken old ≡ 0
    → TakesEach Takes sight head_of_record
    → IsListedToFault format.Received (sight.notation old) (sight.frame old) (sight.left old) (sight.taken new) 0 fault a b
    (sight.held old) (sight.held new)
received_to_fault old new Takes sight fault a b listed none each =
    let (many, put) = given_entries Takes sight head_of_record each old new listed.receipts _ _ (receipts_many listed.receipts)
    (receipts_headed (sight.notation old) (sight.frame old) listed.receipts) none listed.given in
    record { records = Receipts listed.receipts; read = listed.read; many = many; put = and_none _ _ _ put }

-- one whose listing had no more room is listed as far as there was room
pub received_in_part : {L : Type 0} (old new : L) (Takes Refuses : L → Receipt → L → Type 0) (sight : Sight L)
    (a b : Option (List ℕ)) → received.AreReceiptsListedUpToLine Takes Refuses a b old new → sight.taken old ≡ 0
    → TakesEach Takes sight head_of_record → LeavesEach Refuses sight
    → IsListedInPart format.Received (sight.notation old) (sight.frame old) (sight.left old) (sight.taken new) a b
    (sight.held old) (sight.held new)
received_in_part old new Takes Refuses sight a b listed none each leaves =
    let (many, put) = as_left sight old listed.given.between new _ _
    (given_entries Takes sight head_of_record each old listed.given.between listed.receipts _ _ (receipts_many listed.receipts)
    (receipts_headed (sight.notation old) (sight.frame old) listed.receipts) none listed.given.taken)
    (leaves _ _ _ listed.given.last) in
    record { records = Receipts listed.receipts; read = (_, listed.read); many = many; put = put }

-- ---- what was read to its end, or to a fault, has a front that was read
front_of_all : (of : FileFormat) (records : Records) (a b : Option (List ℕ)) → IsAllRead of records a b → IsFrontRead of records a b
front_of_all format.Uplink (Slots slots lines) a b (end, read) = ([], end, read)
front_of_all format.Uplink (Sendings sendings) a b read = absurd read
front_of_all format.Uplink (Receipts receipts) a b read = absurd read
front_of_all format.Downlink (Slots slots lines) a b (end, read) = ([], end, read)
front_of_all format.Downlink (Sendings sendings) a b read = absurd read
front_of_all format.Downlink (Receipts receipts) a b read = absurd read
front_of_all format.Outgoing (Slots slots lines) a b read = absurd read
front_of_all format.Outgoing (Sendings sendings) a b read = ([], read)
front_of_all format.Outgoing (Receipts receipts) a b read = absurd read
front_of_all format.Received (Slots slots lines) a b read = absurd read
front_of_all format.Received (Sendings sendings) a b read = absurd read
front_of_all format.Received (Receipts receipts) a b read = ([], read)

front_of_fault : (of : FileFormat) (records : Records) (fault : FaultLine) (a b : Option (List ℕ))
    → IsFileReadUpToFault of records fault a b → IsFrontRead of records a b
front_of_fault format.Uplink (Slots slots lines) fault a b read = (read.part, read.end, read.before)
front_of_fault format.Uplink (Sendings sendings) fault a b read = absurd read
front_of_fault format.Uplink (Receipts receipts) fault a b read = absurd read
front_of_fault format.Downlink (Slots slots lines) fault a b read = (read.part, read.end, read.before)
front_of_fault format.Downlink (Sendings sendings) fault a b read = absurd read
front_of_fault format.Downlink (Receipts receipts) fault a b read = absurd read
front_of_fault format.Outgoing (Slots slots lines) fault a b read = absurd read
front_of_fault format.Outgoing (Sendings sendings) fault a b read = (read.part, read.before)
front_of_fault format.Outgoing (Receipts receipts) fault a b read = absurd read
front_of_fault format.Received (Slots slots lines) fault a b read = absurd read
front_of_fault format.Received (Sendings sendings) fault a b read = absurd read
front_of_fault format.Received (Receipts receipts) fault a b read = (read.part, read.before)

pub end_in_part : (of : FileFormat) (notation : WrittenAs) (frame from next : ℕ) (a b h k : Option (List ℕ))
    → IsListedToEnd of notation frame from next 0 a b h k → IsListedInPart of notation frame from next a b h k
end_in_part of notation frame from next a b h k listed = record {
  records = listed.records;
  read = front_of_all of listed.records a b listed.read;
  many = listed.many;
  put = subst (λ l. GivenInTurn PutsHeadedLine h l k) (append-nil (drop from (heads_of notation frame listed.records))) listed.put;
}

pub fault_in_part : (of : FileFormat) (notation : WrittenAs) (frame from next : ℕ) (fault : FaultLine)
    (a b h k : Option (List ℕ)) → IsListedToFault of notation frame from next 0 fault a b h k
    → IsListedInPart of notation frame from next a b h k
fault_in_part of notation frame from next fault a b h k listed = record {
  records = listed.records;
  read = front_of_fault of listed.records fault a b listed.read;
  many = listed.many;
  put = subst (λ l. GivenInTurn PutsHeadedLine h l k) (append-nil (drop from (heads_of notation frame listed.records))) listed.put;
}

-- one line more stands behind them
one_behind : (heads : List (List ℕ)) (a b c : Option (List ℕ)) → GivenInTurn PutsHeadedLine a (heads ++ []) b → PutsLine b c
    → GivenInTurn PutsHeadedLine a (heads ++ [] ∷ []) c
one_behind [] a b c same line = (
  c,
  subst (λ m. PutsHeadedLine m [] c) same (record { rest = line.text; one = line.one; octets = line.octets }),
  refl,
)
one_behind (head ∷ heads) a b c (next, first, rest) line = (next, first, one_behind heads next b c rest line)

-- what is listed to its end, with a line more behind it
pub end_and_line : (of : FileFormat) (notation : WrittenAs) (frame from next : ℕ) (a b h j k : Option (List ℕ))
    → IsListedToEnd of notation frame from next 0 a b h j → PutsLine j k → IsListedToEnd of notation frame from next 1 a b h k
end_and_line of notation frame from next a b h j k listed line = record {
  records = listed.records;
  read = listed.read;
  many = listed.many;
  put = one_behind _ h j k listed.put line;
}

-- what is listed up to a fault, with a line more behind it
pub fault_and_line : (of : FileFormat) (notation : WrittenAs) (frame from next : ℕ) (fault : FaultLine)
    (a b h j k : Option (List ℕ)) → IsListedToFault of notation frame from next 0 fault a b h j → PutsLine j k
    → IsListedToFault of notation frame from next 1 fault a b h k
fault_and_line of notation frame from next fault a b h j k listed line = record {
  records = listed.records;
  read = listed.read;
  many = listed.many;
  put = one_behind _ h j k listed.put line;
}

-- the fault that it is
pub of_file : (end : Stop) (fault : FaultLine) (P : FaultLine → Type 0) → end ≡ File fault → IfFile end P → P fault
of_file end fault P is holds = subst (λ e. IfFile e P) is holds

-- what follows where a line could not be given
pub not_given : (end : Stop) (p q : Type 0) → IfNotWritten end p → (p → q) → IfNotWritten end q
not_given (File fault) p q holds follows = tt
not_given Output p q holds follows = follows holds
