-- A text that begins with a head has no fault of one, and no text has two.
use Rattle.std.proofs.Common.{◌≡◌, ◌≢◌, ℕ, ◌<◌, List, [], ◌++◌, length, take, drop, true, refl, sym, ap, ◌∙◌, arith}
use Rattle.std.proofs.lemmas.List.{length-append, take_at, drop_at}
use Rattle.dmr_record.specs.declared.fault.RecordFault.{RecordFault}
use Rattle.dmr_record.specs.declared.fault.RecordFault.TheVariants.{Magic, Version, CutRecord, Read}
use Rattle.dmr_record.specs.Faults.{is_of_end, is_device_fault, HasFault}
use Rattle.dmr_record.specs.Head.{file_version, head_octets, ShowsHeadFault}

front_is : (magic taken rest more : List ℕ) → length magic ≡ 4 → length taken ≡ 8 → taken ++ rest ≡ head_octets magic ++ more →
    taken ≡ head_octets magic
front_is magic taken rest more four eight same =
    sym (take_at taken rest 8 eight) ∙ ap (take 8) same ∙ take_at (head_octets magic) more 8 (omega (
      arith,
      length-append magic
          file_version,
    ))

-- a text that begins with its head shows no fault there but the device's
pub head_no_fault : (magic : List ℕ) (e : RecordFault) (taken rest more : List ℕ) → length magic ≡ 4 → ShowsHeadFault magic e taken
    → (is_of_end e ≡ true → rest ≡ []) → taken ++ rest ≡ head_octets magic ++ more → is_device_fault e ≡ true
head_no_fault magic Read taken rest more four shows end same = refl
head_no_fault magic CutRecord taken rest more four shows end same =
    let none = ap length (end refl) in
    let lengths = ap length same in
    absurd (omega (
      arith,
      length-append taken rest,
      length-append (head_octets magic) more,
      length-append magic file_version,
      none,
      lengths,
    ))
head_no_fault magic Magic taken rest more four shows end same =
    absurd (shows.1 (ap (take 4) (front_is magic taken rest more four shows.0 same) ∙ take_at magic file_version 4 four))
head_no_fault magic Version taken rest more four shows end same =
    absurd (shows.2 (ap (drop 4) (front_is magic taken rest more four shows.0 same) ∙ drop_at magic file_version 4 four))
head_no_fault magic e taken rest more four shows end same = absurd shows

-- eight octets are there or not
cut_apart : (text taken rest other more : List ℕ) → taken ++ rest ≡ text → other ++ more ≡ text → length taken < 8 → rest ≡ [] →
    length other ≡ 8 → ⊥
cut_apart text taken rest other more split also few none eight =
    let nothing = ap length none in
    let lengths = ap length split in
    let others = ap length also in
    omega (arith, length-append taken rest, length-append other more, nothing, lengths, others)

eight_same : (text taken rest other more : List ℕ) → taken ++ rest ≡ text → other ++ more ≡ text → length taken ≡ 8 → length other
    ≡ 8 → taken ≡ other
eight_same text taken rest other more split also eight as_many =
    sym (take_at taken rest 8 eight) ∙ ap (take 8) (split ∙ sym also) ∙ take_at other more 8 as_many

-- a text has one fault of its head at most, but for the device's
pub head_one_fault : (magic text : List ℕ) (e f : RecordFault) → HasFault (ShowsHeadFault magic) text e → HasFault (ShowsHeadFault
    magic) text f
    → e ≢ Read → f ≢ Read → e ≡ f
head_one_fault magic text Read f has also other more = absurd (other refl)
head_one_fault magic text e Read has also other more = absurd (more refl)
head_one_fault magic text CutRecord CutRecord has also other more = refl
head_one_fault magic text Magic Magic has also other more = refl
head_one_fault magic text Version Version has also other more = refl
head_one_fault magic text CutRecord Magic has also other more =
    absurd (cut_apart text has.taken has.rest also.taken also.rest has.split also.split has.shown (has.end refl) also.shown.0)
head_one_fault magic text CutRecord Version has also other more =
    absurd (cut_apart text has.taken has.rest also.taken also.rest has.split also.split has.shown (has.end refl) also.shown.0)
head_one_fault magic text Magic CutRecord has also other more =
    absurd (cut_apart text also.taken also.rest has.taken has.rest also.split has.split also.shown (also.end refl) has.shown.0)
head_one_fault magic text Version CutRecord has also other more =
    absurd (cut_apart text also.taken also.rest has.taken has.rest also.split has.split also.shown (also.end refl) has.shown.0)
head_one_fault magic text Magic Version has also other more =
    absurd (has.shown.1 (ap (take 4) (eight_same text has.taken has.rest also.taken also.rest has.split also.split has.shown.0
    also.shown.0) ∙ also.shown.1))
head_one_fault magic text Version Magic has also other more =
    absurd (also.shown.1 (ap (take 4) (eight_same text also.taken also.rest has.taken has.rest also.split has.split also.shown.0
    has.shown.0) ∙ has.shown.1))
head_one_fault magic text e CutRecord has also other more = absurd has.shown
head_one_fault magic text e Magic has also other more = absurd has.shown
head_one_fault magic text e Version has also other more = absurd has.shown
head_one_fault magic text e f has also other more = absurd also.shown
