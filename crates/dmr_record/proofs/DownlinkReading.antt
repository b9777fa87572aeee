-- A downlink file has one reading: a slot, the end, or the one fault that it has.
use Rattle.std.proofs.Common.{◌≡◌, ℕ, ◌+◌, ◌%◌, ◌<◌, ◌≤◌, leb, ltb, eqb, cond, true, false, List, [], ◌∷◌, ◌++◌, length, take}
use Rattle.std.proofs.Common.{drop, Option, Some, None, refl, arith, append_assoc}
use Rattle.std.specs.Prelude.{Result, Ok, Err}
use Rattle.std.specs.List.{AllByRecursion}
use Rattle.std.proofs.lemmas.Bool.{le-leb, lt-leb, lt-ltb, true≢false}
use Rattle.std.proofs.lemmas.List.{take_at, drop_at, length-append}
use Rattle.dmr_record.specs.declared.fault.RecordFault.{RecordFault}
use Rattle.dmr_record.specs.declared.fault.RecordFault.TheVariants.{CutRecord, BadTag, HalfFrame, TooLong, Read}
use Rattle.dmr_record.specs.Downlink.{Sent, IsSent, sent_octets, downlink_octets, ShowsDownlinkFault}
use Rattle.dmr_record.specs.Faults.{is_of_end, is_device_fault, HasFault}
use Rattle.dmr_record.proofs.Readings.{no_fault_read}

-- what a text behind the tag of a slot is read as: the slot and what follows it
sent_behind : ℕ → List ℕ → Result (Option (Option (List ℕ × List ℕ) × List ℕ)) RecordFault
sent_behind tag text =
    cond (ltb 1 tag) (Err BadTag)
    (cond (ltb 0 tag) (cond (leb 36 (length text)) (Ok (Some (Some (take 3 text, take 33 (drop 3 text)), drop 36 text))) (Err
    CutRecord)) (Ok (Some (None, text))))

-- what a text is read as, with so many slots before it: a slot and what follows it, the end, or a fault
pub sent_at : ℕ → ℕ → List ℕ → Result (Option (Option (List ℕ × List ℕ) × List ℕ)) RecordFault
sent_at limit before [] = cond (eqb (before % 2) 1) (Err HalfFrame) (Ok None)
sent_at limit before (tag ∷ text) = cond (leb limit before) (Err TooLong) (sent_behind tag text)

pub sent_at-end : (limit before : ℕ) → before % 2 ≡ 0 → sent_at limit before [] ≡ Ok None
unfolding sent_at
sent_at-end limit before whole = rw whole refl

-- a slot that a text begins with is read
pub sent_at-spelled : (limit before : ℕ) (slot : Option (List ℕ × List ℕ)) (rest : List ℕ) → before < limit → IsSent slot
    → sent_at limit before (sent_octets slot ++ rest) ≡ Ok (Some (slot, rest))
unfolding sent_at sent_behind
sent_at-spelled limit before None rest below p = rw (lt-leb limit before below) refl
sent_at-spelled limit before (Some x) rest below p =
    let three = p.0 in
    let whole = p.1 in
    let all : length (x.0 ++ x.1) ≡ 36 = omega (arith, length-append x.0 x.1) in
    let long : leb 36 (length ((x.0 ++ x.1) ++ rest)) ≡ true = le-leb 36 _ (omega (arith, length-append (x.0 ++ x.1) rest)) in
    rw (
      lt-leb limit before below,
      long,
      drop_at (x.0 ++ x.1) rest 36 all,
      append_assoc x.0 x.1 rest,
      take_at x.0 (x.1 ++ rest) 3 three,
      drop_at x.0 (x.1 ++ rest) 3 three,
      take_at x.1 rest 33 whole,
    ) refl

-- a fault that a text has is told
pub sent_at-shown : (limit before : ℕ) (e : RecordFault) (taken rest : List ℕ) → ShowsDownlinkFault limit before e taken →
    is_device_fault e ≡ false
    → (is_of_end e ≡ true → rest ≡ []) → sent_at limit before (taken ++ rest) ≡ Err e
unfolding sent_at sent_behind
sent_at-shown limit before Read taken rest shows own end = absurd (true≢false own)
sent_at-shown limit before TooLong [] rest (past, one) own end = absurd (omega arith)
sent_at-shown limit before TooLong (t ∷ ts) rest (past, one) own end = rw (le-leb limit before past) refl
sent_at-shown limit before HalfFrame taken rest (odd, none) own end = rw (none, end refl, odd) refl
sent_at-shown limit before BadTag taken rest (below, tag, past, s) own end = rw (s, lt-leb limit before below, lt-ltb 1 tag past)
    refl
sent_at-shown limit before CutRecord [] rest (below, some, is_part) own end = absurd (some refl)
sent_at-shown limit before CutRecord (tag ∷ body) rest (below, some, is_part) own end =
    let few : leb 36 (length (body ++ [])) ≡ false = lt-leb 36 (length (body ++ [])) (let fewer = is_part.1 in omega (
      arith,
      length-append body [],
    )) in
    rw (end refl, lt-leb limit before below, is_part.0, few) refl
sent_at-shown limit before e taken rest shows own end = absurd shows

-- slots of whole frames have no fault, no more of them than may be
pub slots_no_fault : (limit before : ℕ) (slots : List Sent) (e : RecordFault) → AllByRecursion IsSent slots → before + length
    slots ≤ limit
    → (before + length slots) % 2 ≡ 0 → HasFault (ShowsDownlinkFault limit before) (downlink_octets slots) e → e ≡ Read
slots_no_fault limit before [] e p few whole has =
    no_fault_read (ShowsDownlinkFault limit before) (sent_at limit before) (sent_at-shown limit before) [] None e (sent_at-end
    limit before (omega arith)) has
slots_no_fault limit before (s ∷ ss) e p few whole has =
    no_fault_read (ShowsDownlinkFault limit before) (sent_at limit before) (sent_at-shown limit before) (downlink_octets (s ∷ ss))
    (Some (s, downlink_octets ss)) e
    (sent_at-spelled limit before s (downlink_octets ss) (omega arith) p.0) has
