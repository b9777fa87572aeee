-- What a source that tells its octets has of the outgoing file.
use Rattle.std.proofs.Common.{◌≡◌, ℕ, ◌+◌, ◌≤◌, true, List, [], ◌∷◌, ◌++◌, length}
use Rattle.std.proofs.Common.{refl, sym, ap, ◌∙◌, subst, arith, append-nil, append_assoc, inl, inr, ◌⊎◌}
use Rattle.std.proofs.lemmas.List.{length-append, append_cancel_left}
use Rattle.std.specs.List.{AllByRecursion}
use Rattle.std.specs.Io.KnownBytes.{IsAtEnd}
use Rattle.dmr_record.specs.declared.fault.RecordFault.{RecordFault}
use Rattle.dmr_record.specs.Head.{outgoing_magic}
use Rattle.dmr_record.specs.Head.{record_limit}
use Rattle.dmr_record.specs.Faults.{is_of_end, is_device_fault}
use Rattle.dmr_record.specs.Head.{head_octets}
use Rattle.dmr_record.specs.Outgoing.{Sending, IsSending, AreInFrameOrder}
use Rattle.dmr_record.specs.Outgoing.{sending_octets, sendings_octets, outgoing_file, ShowsOutgoingFault}
use Rattle.dmr_record.proofs.NoFault.{no_outgoing_fault}
use Rattle.dmr_record.proofs.OutgoingReading.{sending_code}
use Rattle.dmr_record.proofs.Spellings.{front_read, none_left, All-right}
use Rattle.dmr_station.specs.GatewayMeaning.{by_frame}
use Rattle.dmr_repeater.specs.Files.{KnownOctets}
use Rattle.dmr_repeater.specs.Runs.{HasOutgoing, ReadsAllBefore, ReadsRecords}
use Rattle.dmr_record.specs.Outgoing.{last_frame}
use Rattle.dmr_repeater.proofs.Files.{consumed}
use Rattle.dmr_repeater.proofs.InTurn.{by_frame_front, later}

-- ---- records show no fault
pub order-right : (last : ℕ) (xs ys : List Sending) → AreInFrameOrder last (xs ++ ys) → AreInFrameOrder (last_frame last xs) ys
order-right last [] ys p = p
order-right last (x ∷ xs) ys p = order-right x.frame xs ys p.1

-- where a source has a list of records, no fault but that of a device is found in it
pub no_fault_stops : (e : RecordFault) (xs others : List Sending) (part : List ℕ) (a c : KnownOctets) → ReadsRecords xs part a c
    → ShowsOutgoingFault record_limit (length xs) (last_frame 0 xs) e part → (is_of_end e ≡ true → IsAtEnd c)
    → HasOutgoing others a → is_device_fault e ≡ true
no_fault_stops e xs others part a c u shown cut has =
    let (rest, split, at_end) = consumed c (outgoing_file others) (outgoing_file xs ++ part) (rw has.has at u.read) in
    let behind : sendings_octets others ≡ (sendings_octets xs ++ part) ++ rest =
    append_cancel_left (head_octets outgoing_magic) (sendings_octets others) ((sendings_octets xs ++ part) ++ rest) split in
    let (more, whole, left) = front_read IsSending sending_octets sending_code xs others (part ++ rest) u.each has.each
    (sym (append_assoc (sendings_octets xs) part rest) ∙ sym behind) in
    let counts = ap length whole in
    let few = has.few in
    no_outgoing_fault record_limit (length xs) (last_frame 0 xs) e part rest more
    (All-right IsSending xs more (subst (AllByRecursion IsSending) whole has.each))
    (order-right 0 xs more (subst (AreInFrameOrder 0) whole has.order))
    (omega (arith, length-append xs more, counts)) shown (λ end. at_end (cut end)) left

-- ---- records that were read are the first of the file's
pub first_records : (l0 l1 : KnownOctets) (ss others : List Sending) (part : List ℕ) → ReadsRecords ss part l0 l1
    → HasOutgoing others l0 → (more : List Sending) × (others ≡ ss ++ more) × (IsAtEnd l1 → part ≡ [] → more ≡ [])
first_records l0 l1 ss others part u has =
    let (rest, split, at_end) = consumed l1 (outgoing_file others) (outgoing_file ss ++ part) (rw has.has at u.read) in
    let behind : sendings_octets others ≡ (sendings_octets ss ++ part) ++ rest =
    append_cancel_left (head_octets outgoing_magic) (sendings_octets others) ((sendings_octets ss ++ part) ++ rest) split in
    let (more, whole, left) = front_read IsSending sending_octets sending_code ss others (part ++ rest) u.each has.each
    (sym (append_assoc (sendings_octets ss) part rest) ∙ sym behind) in
    let each : AllByRecursion IsSending more = All-right IsSending ss more (subst (AllByRecursion IsSending) whole has.each) in (
      more,
      whole,
      λ end none. none_left IsSending sending_octets sending_code more each (sym left ∙ ap (λ l. l ++ rest) none
          ∙ at_end end),
    )

-- so that each of so many frames has the same of both
pub same_in_frames : (count frames : ℕ) (l0 l1 : KnownOctets) (ss others : List Sending) → ReadsAllBefore count ss l0 l1
    → HasOutgoing others l0 → frames ≤ count → by_frame 0 frames ss ≡ by_frame 0 frames others
same_in_frames count frames l0 l1 ss others u has few =
    let (more, whole, none) = first_records l0 l1 ss others u.part u.reads has in
    sym (ap (by_frame 0 frames) whole ∙ by_past more whole none u.past)
  where
    by_past : (more : List Sending) → others ≡ ss ++ more → (IsAtEnd l1 → u.part ≡ [] → more ≡ [])
        → (count ≤ last_frame 0 ss) ⊎ (IsAtEnd l1 × (u.part ≡ [])) → by_frame 0 frames (ss ++ more) ≡ by_frame 0 frames ss
    by_past more whole none (inl past) =
        let order = order-right 0 ss more (subst (AreInFrameOrder 0) whole has.order) in
        by_frame_front 0 frames ss more (later (last_frame 0 ss) (0 + frames) more (omega (arith, few, past)) order)
    by_past more whole none (inr past) =
        ap (λ l. by_frame 0 frames (ss ++ l)) (none past.0 past.1) ∙ ap (by_frame 0 frames) (append-nil ss)

-- and where the file was read to its end, they are all of it
pub same_records : (l0 l1 : KnownOctets) (ss others : List Sending) → ReadsRecords ss [] l0 l1 → IsAtEnd l1
    → HasOutgoing others l0 → others ≡ ss
same_records l0 l1 ss others u end has =
    let (more, whole, none) = first_records l0 l1 ss others [] u has in
    whole ∙ ap (λ l. ss ++ l) (none end refl) ∙ append-nil ss
