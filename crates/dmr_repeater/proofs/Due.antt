-- The outgoing file, read as far as frames need it, with one record ahead.
use Rattle.std.proofs.Common.{◌≡◌, ℕ, ◌+◌, ◌<◌, ◌≤◌, true, List, [], ◌∷◌, ◌++◌, length, Option, Some, None, IsSomeAnd}
use Rattle.std.proofs.Common.{option_to_list, refl, sym, ap, ◌∙◌, subst, arith, append-nil, inl, inr, ◌⊎◌}
use Rattle.std.specs.List.{AllByRecursion}
use Rattle.std.specs.Io.KnownBytes.{IsAtEnd}
use Rattle.std.proofs.KnownBytes.{Consumes-nil}
use Rattle.dmr_record.specs.declared.outgoing.Outgoing.{Outgoing}
use Rattle.dmr_record.specs.Outgoing.{Sending}
use Rattle.dmr_record.specs.Outgoing.{IsReadOutgoing}
use Rattle.std.specs.List.{AllZip}
use Rattle.dmr_repeater.specs.Files.{KnownOctets}
use Rattle.dmr_repeater.specs.Runs.{ReadsDue, ReadsRecords}
use Rattle.dmr_repeater.specs.Schedule.{ReadingProgress, unread, waiting, AreDue, AreOfferedInTurn, Gives, IsPast}
use Rattle.dmr_repeater.proofs.InTurn.{apart, given_in_turn, read_in_turn}
use Rattle.dmr_repeater.proofs.Records.{Gives-same}

-- the datagrams of records that are due in a frame are of that frame or an earlier one
pub due_records : (frame : ℕ) (found : List Outgoing) (sendings : List Sending) → AllZip IsReadOutgoing found sendings
    → AreDue frame found → AllByRecursion (λ s. s.frame ≤ frame) sendings
due_records frame [] [] u due = tt
due_records frame [] (s ∷ ss) u due = absurd u
due_records frame (o ∷ os) [] u due = absurd u
due_records frame (o ∷ os) (s ∷ ss) u due =
    let same : o.frame ≡ s.frame = ap (λ (x : Sending). x.frame) u.0.fields in
    let first = due.0 in
    (omega arith, due_records frame os ss u.1 due.1)

-- nothing is read, and nothing given
abbrev pub nothing_more : (p : ReadingProgress) (a : KnownOctets) → Gives p p [] [] a a
nothing_more p a = Gives-same p p a a refl refl refl (Consumes-nil a) (λ end. end)

none_read : (sendings : List Sending) → AllZip IsReadOutgoing [] sendings → sendings ≡ []
none_read [] u = refl
none_read (s ∷ sendings) u = absurd u

one_read : (o : Outgoing) (sendings : List Sending) → AllZip IsReadOutgoing (o ∷ []) sendings
    → (s : Sending) × (sendings ≡ s ∷ []) × (o.frame ≡ s.frame)
one_read o [] u = absurd u
one_read o (s ∷ sendings) u =
    (s, ap (λ (l : List Sending). s ∷ l) (none_read sendings u.1), ap (λ (x : Sending). x.frame) u.0.fields)

-- at most one record is ahead, of a later frame, or the end was met
one_ahead : (frame : ℕ) (now : ReadingProgress) (back : List Sending) (left : KnownOctets) → IsPast frame now
    → AllZip IsReadOutgoing (waiting now) back → (now.at_end ≡ true → IsAtEnd left)
    → (ahead : Option Sending) × (back ≡ option_to_list ahead)
    × (IsSomeAnd ahead (λ s. frame < s.frame) ⊎ ((ahead ≡ None) × IsAtEnd left))
one_ahead frame now back left (inl (o, is, last, late, small)) read met =
    let (s, same, frames) = one_read o back (subst (λ (x : Option Outgoing). AllZip IsReadOutgoing (option_to_list x) back) is
    read)
    in
    let later : frame < s.frame = omega (arith, frames, late) in
    (Some s, same, inl later)
one_ahead frame now back left (inr (none, end)) read met = (
  None,
  none_read back (subst (λ (x : Option Outgoing). AllZip IsReadOutgoing (option_to_list x) back) none read),
  inr (refl, met end),
)

-- the records that were read up to a frame are all that are due in it, and perhaps one of a later frame
pub reads_due : (frame : ℕ) (offers : List (List Outgoing)) (now : ReadingProgress) (o p left : KnownOctets)
    (u : AreOfferedInTurn 0 offers unread now p left) → length offers ≡ frame + 1 → IsPast frame now
    → (now.at_end ≡ true → IsAtEnd left) → ReadsRecords (read_in_turn 0 offers unread now p left u ++ []) [] o left
    → ReadsDue frame (read_in_turn 0 offers unread now p left u ++ []) o left
reads_due frame offers now o p left u many past met reads =
    let turn = given_in_turn 0 frame offers unread now p left u (omega (arith, many)) in
    let g = turn.due.gives in
    let cut = apart IsReadOutgoing turn.due.given (waiting now) g.sendings
    (subst (λ (l : List Outgoing). AllZip IsReadOutgoing l g.sendings) g.all g.kept) in
    let (ahead, is, late) = one_ahead frame now cut.rest left past cut.second met in
    record {
      reads = reads;
      due = cut.front;
      each = due_records frame turn.due.given cut.front cut.first turn.due.due;
      ahead = ahead;
      split = append-nil (read_in_turn 0 offers unread now p left u) ∙ sym turn.same ∙ cut.whole ∙ ap (λ l. cut.front ++ l) is;
      past = late;
    }
