-- What is known of where a recording has got to, octet by octet and slot by slot.
use Rattle.std.proofs.Common.{◌≡◌, ◌==◌, ◌&&◌, ℕ, ◌+◌, ◌-◌, ◌*◌, ◌^◌, ◌<◌, ◌≤◌, Bool, true, false, not, List, [], ◌∷◌, ◌++◌, length}
use Rattle.std.proofs.Common.{refl, sym, ap, ◌∙◌, subst, arith, suc, Option, min, if◌then◌else◌, get_or}
use Rattle.std.proofs.Math.Dec.{eqb-suc-zero}
use Rattle.std.proofs.Math.Nat.{min-eq_left}
use Rattle.std.proofs.lemmas.List.{length-append}
use Rattle.std.proofs.lemmas.List.Sums.{fold-append}
use Rattle.std.specs.List.{AllByRecursion, flat_map}
use Rattle.std.specs.Prelude.{None, Some, unwrap_or, option_and_then}
use Rattle.dmr_record.specs.Head.{file_version, head_octets}
use Rattle.dmr_record.specs.declared.fault.RecordFault.{RecordFault}
use Rattle.dmr_record.specs.declared.head.FileFormat.{FileFormat}
use Rattle.dmr_recording.specs.Places.{place_by_number}
use Rattle.dmr_recording.specs.Recordings.{IsSlotOf, RecordedSlot, spelling}
use Rattle.dmr_recording.specs.declared.fault_line.FaultLine.{FaultLine}
use Rattle.dmr_recording.specs.declared.place.Place.{Place}
use Rattle.dmr_recording.specs.declared.recording.Recording.{Recording}
use Rattle.dmr_recording.specs.declared.recording.Recording.TheVariants.{Uplink, Downlink}
use Rattle.dmr_watch.specs.Reached.{behind_tag, continued, fault_line_of, has_fields, is_told_behind, last_record, nothing}
use Rattle.dmr_watch.specs.Reached.{place_of, reached_by, reached_with, spelled_with, tag_passed}
use Rattle.dmr_watch.specs.Slots.{fault_behind, fault_told, format_of_recording}
use Rattle.dmr_watch.specs.declared.reached.Reached.{Reached}

-- So many octets and records passed, the last record begins there, and so many octets of it are to come.
pub record IsAt (octets records begin left : ℕ) (r : Reached) : Type 0 where
  pub passed : r.octets ≡ octets
  pub begun : r.records ≡ records
  pub at : r.begin ≡ begin
  pub coming : r.left ≡ left
  pub fields : r.is_in_fields ≡ false

-- an octet of a record
octet_on : (f : FileFormat) (o n b l : ℕ) (r : Reached) (x : ℕ) → IsAt o n b (suc l) r → o + 1 < 2 ^ 64
    → IsAt (o + 1) n b l (reached_with f r x)
octet_on f o n b l r x is few =
    let away : (r.left == 0) ≡ false = ap (λ (k : ℕ). k == 0) is.coming ∙ eqb-suc-zero l in
    let flat : (r.is_in_fields && (r.left == 1)) ≡ false = ap (λ (t : Bool). t && (r.left == 1)) is.fields in
    let less : suc l - 1 ≡ l = omega arith in
    let bound : o + 1 ≤ 2 ^ 64 - 1 = omega arith in
    subst (λ (t : Bool). IsAt (o + 1) n b l (if t then tag_passed f r x else continued r x)) (sym away) (record {
      passed = ap (λ (k : ℕ). min (k + 1) (2 ^ 64 - 1)) is.passed ∙ min-eq_left bound;
      begun = is.begun;
      at = is.at;
      coming = ap (λ (t : Bool). if t then spelled_with r.spelled x else (r.left - 1)) flat
          ∙ ap (λ (k : ℕ). k - 1) is.coming ∙ less;
      fields = ap (λ (t : Bool). r.is_in_fields && not t) flat ∙ ap (λ (t : Bool). t && true) is.fields;
    })

-- octets of a record, of which so many more are to come
octets_on : (f : FileFormat) (xs : List ℕ) (o n b l : ℕ) (r : Reached) → IsAt o n b (length xs + l) r → o + length xs < 2 ^ 64
    → IsAt (o + length xs) n b l (reached_by f r xs)
octets_on f [] o n b l r is few =
    let same : o ≡ o + 0 = omega arith in
    let none : 0 + l ≡ l = omega arith in
    subst (λ (k : ℕ). IsAt k n b l r) same (subst (λ (k : ℕ). IsAt o n b k r) none is)
octets_on f (x ∷ xs) o n b l r is few =
    let more : o + 1 + length xs ≡ o + suc (length xs) = omega arith in
    let up : suc (length xs) + l ≡ suc (length xs + l) = omega arith in
    let here : IsAt o n b (suc (length xs + l)) r = subst (λ (k : ℕ). IsAt o n b k r) up is in
    let first : IsAt (o + 1) n b (length xs + l) (reached_with f r x) = octet_on f o n b (length xs + l) r x here (omega arith) in
    subst (λ (k : ℕ). IsAt k n b l (reached_by f (reached_with f r x) xs)) more
    (octets_on f xs (o + 1) n b l (reached_with f r x) first (omega arith))

-- the tag of a record of a file without fields
tag_on : (f : FileFormat) (o n b : ℕ) (r : Reached) (tag : ℕ) → has_fields f ≡ false → IsAt o n b 0 r → o + 1 < 2 ^ 64
    → n + 1 < 2 ^ 32 → IsAt (o + 1) (n + 1) o (behind_tag f tag) (reached_with f r tag)
tag_on f o n b r tag none is few low =
    let on : (r.left == 0) ≡ true = ap (λ (k : ℕ). k == 0) is.coming in
    let bound : o + 1 ≤ 2 ^ 64 - 1 = omega arith in
    let within : n + 1 ≤ 2 ^ 32 - 1 = omega arith in
    subst (λ (t : Bool). IsAt (o + 1) (n + 1) o (behind_tag f tag) (if t then tag_passed f r tag else continued r tag)) (sym on)
    (record {
      passed = ap (λ (k : ℕ). min (k + 1) (2 ^ 64 - 1)) is.passed ∙ min-eq_left bound;
      begun = ap (λ (k : ℕ). min (k + 1) (2 ^ 32 - 1)) is.begun ∙ min-eq_left within;
      at = is.passed;
      coming = refl;
      fields = none;
    })

-- the records of a recording have no fields
without_fields : (recording : Recording) → has_fields (format_of_recording recording) ≡ false
without_fields Uplink = refl
without_fields Downlink = refl

-- a slot is a tag, and as many octets as that says
pub record IsTagAnd (recording : Recording) (octets : List ℕ) : Type 0 where
  pub tag : ℕ
  pub body : List ℕ
  pub spelled : octets ≡ tag ∷ body
  pub count : behind_tag (format_of_recording recording) tag ≡ length body

tag_and : (recording : Recording) (slot : RecordedSlot) → IsSlotOf recording slot → IsTagAnd recording (spelling recording slot)
tag_and Uplink None is = record { tag = 0; body = []; spelled = refl; count = refl }
tag_and Uplink (Some b) is = record { tag = 1; body = b.burst; spelled = refl; count = sym is.1 }
tag_and Downlink None is = record { tag = 0; body = []; spelled = refl; count = refl }
tag_and Downlink (Some b) ((cach, some, three), long) =
    let same = ap (λ (c : Option (List ℕ)). length (unwrap_or c [])) some in
    let both = length-append (unwrap_or b.cach []) b.burst in
    let whole : 36 ≡ length (unwrap_or b.cach [] ++ b.burst) = omega (arith, same, three, long, both) in
    record { tag = 1; body = unwrap_or b.cach [] ++ b.burst; spelled = refl; count = whole }

-- a front of a slot, of which so many octets are to come
front_on : (recording : Recording) (o n b tag : ℕ) (front : List ℕ) (l : ℕ) (r : Reached) → IsAt o n b 0 r
    → behind_tag (format_of_recording recording) tag ≡ length front + l → o + 1 + length front < 2 ^ 64 → n + 1 < 2 ^ 32
    → IsAt (o + 1 + length front) (n + 1) o l (reached_by (format_of_recording recording) r (tag ∷ front))
front_on recording o n b tag front l r is count few low =
    let f : FileFormat = format_of_recording recording in
    let first : IsAt (o + 1) (n + 1) o (behind_tag f tag) (reached_with f r tag) =
    tag_on f o n b r tag (without_fields recording) is (omega arith) low in
    octets_on f front (o + 1) (n + 1) o l (reached_with f r tag)
    (subst (λ (k : ℕ). IsAt (o + 1) (n + 1) o k (reached_with f r tag)) count first) few

-- a whole slot
slot_on : (recording : Recording) (slot : RecordedSlot) (o n b : ℕ) (r : Reached) → IsSlotOf recording slot → IsAt o n b 0 r
    → o + length (spelling recording slot) < 2 ^ 64 → n + 1 < 2 ^ 32
    → IsAt (o + length (spelling recording slot)) (n + 1) o 0
    (reached_by (format_of_recording recording) r (spelling recording slot))
slot_on recording slot o n b r is_slot is few low =
    let parts : IsTagAnd recording (spelling recording slot) = tag_and recording slot is_slot in
    let long = ap length parts.spelled in
    let whole : o + 1 + length parts.body ≡ o + length (spelling recording slot) = omega (arith, long) in
    let none : length parts.body ≡ length parts.body + 0 = omega arith in
    let at = front_on recording o n b parts.tag parts.body 0 r is (parts.count ∙ none) (omega (arith, long, few)) low in
    subst (λ (k : ℕ). IsAt k (n + 1) o 0 (reached_by (format_of_recording recording) r (spelling recording slot))) whole
    (subst (λ (octets : List ℕ). IsAt (o + 1 + length parts.body) (n + 1) o 0 (reached_by (format_of_recording recording) r octets))
    (sym parts.spelled) at)

-- where whole slots lead to
pub record IsBehind (recording : Recording) (slots : List RecordedSlot) (o n : ℕ) (r : Reached) : Type 0 where
  pub begin : ℕ
  pub is : IsAt (o + length (flat_map (spelling recording) slots)) (n + length slots) begin 0 r

-- a slot has at most 37 octets
short : (recording : Recording) (slot : RecordedSlot) → IsSlotOf recording slot → length (spelling recording slot) ≤ 37
short Uplink None is = omega arith
short Uplink (Some b) is = let long = is.1 in omega (arith, long)
short Downlink None is = omega arith
short Downlink (Some b) ((cach, some, three), long) =
    let same = ap (λ (c : Option (List ℕ)). length (unwrap_or c [])) some in
    omega (arith, same, three, long, length-append (unwrap_or b.cach []) b.burst)

slots_on : (recording : Recording) (slots : List RecordedSlot) (o n b : ℕ) (r : Reached) → AllByRecursion (IsSlotOf recording) slots
    → IsAt o n b 0 r → o + 37 * length slots < 2 ^ 64 → n + length slots < 2 ^ 32
    → IsBehind recording slots o n (reached_by (format_of_recording recording) r (flat_map (spelling recording) slots))
slots_on recording [] o n b r each is few low =
    let same : o ≡ o + 0 = omega arith in
    let as_many : n ≡ n + 0 = omega arith in
    record { begin = b; is = subst (λ (k : ℕ). IsAt k (n + 0) b 0 r) same (subst (λ (k : ℕ). IsAt o k b 0 r) as_many is) }
slots_on recording (slot ∷ slots) o n b r each is few low =
    let f : FileFormat = format_of_recording recording in
    let octets : List ℕ = spelling recording slot in
    let rest : List ℕ = flat_map (spelling recording) slots in
    let small : length octets ≤ 37 = short recording slot each.0 in
    let first = slot_on recording slot o n b r each.0 is (omega (arith, small, few)) (omega (arith, low)) in
    let behind = slots_on recording slots (o + length octets) (n + 1) o (reached_by f r octets) each.1 first
    (omega (arith, small, few)) (omega (arith, low)) in
    let long : o + length octets + length rest ≡ o + length (octets ++ rest) = omega (arith, length-append octets rest) in
    let many : n + 1 + length slots ≡ n + suc (length slots) = omega arith in
    let whole = subst (λ (k : ℕ). IsAt k (n + 1 + length slots) behind.begin 0 (reached_by f (reached_by f r octets) rest)) long
    behind.is in
    let counted = subst (λ (k : ℕ). IsAt (o + length (octets ++ rest)) k behind.begin 0 (reached_by f (reached_by f r octets) rest))
    many whole in
    record {
      begin = behind.begin;
      is = subst (IsAt (o + length (octets ++ rest)) (n + suc (length slots)) behind.begin 0)
          (sym (fold-append (reached_with f) r octets rest)) counted;
    }

-- the head
head_on : (f : FileFormat) (magic : List ℕ) → length magic ≡ 4 → IsAt 8 0 0 0 (reached_by f nothing (head_octets magic))
head_on f magic four =
    let long = length-append magic file_version in
    let eight : 8 ≡ length (head_octets magic) + 0 = omega (arith, long, four) in
    let whole : 0 + length (head_octets magic) ≡ 8 = omega (arith, long, four) in
    let start : IsAt 0 0 0 8 nothing = record { passed = refl; begun = refl; at = refl; coming = refl; fields = refl } in
    subst (λ (k : ℕ). IsAt k 0 0 0 (reached_by f nothing (head_octets magic))) whole
    (octets_on f (head_octets magic) 0 0 0 0 nothing (subst (λ (k : ℕ). IsAt 0 0 0 k nothing) eight start)
    (omega (arith, long, four)))

-- the head and slots
pub head_and_slots : (recording : Recording) (magic : List ℕ) (slots : List RecordedSlot) → length magic ≡ 4
    → AllByRecursion (IsSlotOf recording) slots → length slots < 2 ^ 31
    → IsBehind recording slots 8 0
    (reached_by (format_of_recording recording) (reached_by (format_of_recording recording) nothing (head_octets magic))
    (flat_map (spelling recording) slots))
head_and_slots recording magic slots four each few =
    let f : FileFormat = format_of_recording recording in
    slots_on recording slots 8 0 0 (reached_by f nothing (head_octets magic)) each (head_on f magic four) (omega (arith, few))
    (omega (arith, few))

-- slots have at most 37 octets each
flat_short : (recording : Recording) (slots : List RecordedSlot) → AllByRecursion (IsSlotOf recording) slots
    → length (flat_map (spelling recording) slots) ≤ 37 * length slots
flat_short recording [] each = omega arith
flat_short recording (slot ∷ slots) each =
    let small = short recording slot each.0 in
    let rest = flat_short recording slots each.1 in
    omega (arith, small, rest, length-append (spelling recording slot) (flat_map (spelling recording) slots))

-- a slot of a recording has its place
placed : (recording : Recording) (n : ℕ) → place_of (format_of_recording recording) n ≡ Some (place_by_number n)
placed Uplink n = refl
placed Downlink n = refl

-- the line of a fault, by its octet and its place
abbrev line_of : RecordFault → ℕ → Option Place → FaultLine
line_of fault octet place = record { fault = fault; octet = octet; place = place }

and_false : (t u : Bool) → u ≡ false → (t && u) ≡ false
and_false true u e = e
and_false false u e = refl

-- the octets come in three parts
parted : (f : FileFormat) (r : Reached) (head slots part : List ℕ)
    → reached_by f r (head ++ (slots ++ part)) ≡ reached_by f (reached_by f (reached_by f r head) slots) part
parted f r head slots part =
    fold-append (reached_with f) r head (slots ++ part) ∙ fold-append (reached_with f) (reached_by f r head) slots part

-- behind whole slots, a half frame or a fault of a device is told of the slot that comes next
pub told_behind : (recording : Recording) (magic : List ℕ) (slots : List RecordedSlot) (fault : RecordFault) → length magic ≡ 4
    → AllByRecursion (IsSlotOf recording) slots → length slots < 2 ^ 31 → is_told_behind fault ≡ true
    → fault_told recording magic slots [] fault ≡ fault_behind recording slots fault
told_behind recording magic slots fault four each few told =
    let f : FileFormat = format_of_recording recording in
    let octets : List ℕ = flat_map (spelling recording) slots in
    let r : Reached = reached_by f (reached_by f nothing (head_octets magic)) octets in
    let behind = head_and_slots recording magic slots four each few in
    let none : 0 + length slots ≡ length slots = omega arith in
    let is : IsAt (8 + length octets) (length slots) behind.begin 0 r =
    subst (λ (k : ℕ). IsAt (8 + length octets) k behind.begin 0 r) none behind.is in
    let here : (is_told_behind fault && (r.left == 0)) ≡ true =
    ap (λ (t : Bool). t && (r.left == 0)) told ∙ ap (λ (k : ℕ). k == 0) is.coming in
    let place : place_of f r.records ≡ Some (place_by_number (length slots)) = ap (place_of f) is.begun ∙ placed recording (length
    slots) in
    ap (λ (reached : Reached). fault_line_of f reached fault) (parted f nothing (head_octets magic) octets [])
    ∙ ap (λ (t : Bool). if t then line_of fault r.octets (place_of f r.records) else line_of fault r.begin (option_and_then
    (place_of f) (last_record r))) here
    ∙ ap (λ (k : ℕ). line_of fault k (place_of f r.records)) is.passed
    ∙ ap (line_of fault (8 + length octets)) place

-- where the octets end inside the record of a slot, any fault is told of that slot
pub told_inside : (recording : Recording) (magic : List ℕ) (slots : List RecordedSlot) (slot : RecordedSlot)
    (tag : ℕ) (front : List ℕ) (next : ℕ) (rest : List ℕ) (fault : RecordFault) → length magic ≡ 4
    → AllByRecursion (IsSlotOf recording) slots → length slots < 2 ^ 31 → IsSlotOf recording slot
    → spelling recording slot ≡ tag ∷ (front ++ next ∷ rest)
    → fault_told recording magic slots (tag ∷ front) fault ≡ fault_behind recording slots fault
told_inside recording magic slots slot tag front next rest fault four each few is_slot spelled =
    let f : FileFormat = format_of_recording recording in
    let octets : List ℕ = flat_map (spelling recording) slots in
    let before : Reached = reached_by f (reached_by f nothing (head_octets magic)) octets in
    let r : Reached = reached_by f before (tag ∷ front) in
    let behind = head_and_slots recording magic slots four each few in
    let none : 0 + length slots ≡ length slots = omega arith in
    let at : IsAt (8 + length octets) (length slots) behind.begin 0 before =
    subst (λ (k : ℕ). IsAt (8 + length octets) k behind.begin 0 before) none behind.is in
    let parts : IsTagAnd recording (spelling recording slot) = tag_and recording slot is_slot in
    let same = sym parts.spelled ∙ spelled in
    let tags : parts.tag ≡ tag = ap (λ (l : List ℕ). get_or l 0 0) same in
    let many = ap length same in
    let both = length-append front (next ∷ rest) in
    let left : length parts.body ≡ length front + suc (length rest) = omega (arith, many, both) in
    let small = short recording slot is_slot in
    let long = ap length spelled in
    let slots_short = flat_short recording slots each in
    let is = front_on recording (8 + length octets) (length slots) behind.begin tag front (suc (length rest)) before at
    (ap (behind_tag f) (sym tags) ∙ parts.count ∙ left) (omega (arith, small, long, both, slots_short, few)) (omega (arith, few)) in
    let away : (r.left == 0) ≡ false = ap (λ (k : ℕ). k == 0) is.coming ∙ eqb-suc-zero (length rest) in
    let one : length slots + 1 ≡ suc (length slots) = omega arith in
    let less : suc (length slots) - 1 ≡ length slots = omega arith in
    let number : last_record r ≡ Some (length slots) =
    ap (λ (k : ℕ). if k == 0 then None else Some (k - 1)) (is.begun ∙ one)
    ∙ ap (λ (t : Bool). if t then None else Some (suc (length slots) - 1)) (eqb-suc-zero (length slots))
    ∙ ap (λ (k : ℕ). Some k) less in
    let place : option_and_then (place_of f) (last_record r) ≡ Some (place_by_number (length slots)) =
    ap (option_and_then (place_of f)) number ∙ placed recording (length slots) in
    ap (λ (reached : Reached). fault_line_of f reached fault) (parted f nothing (head_octets magic) octets (tag ∷ front))
    ∙ ap (λ (t : Bool). if t then line_of fault r.octets (place_of f r.records) else line_of fault r.begin (option_and_then
    (place_of f) (last_record r))) (and_false (is_told_behind fault) (r.left == 0) away)
    ∙ ap (λ (k : ℕ). line_of fault k (option_and_then (place_of f) (last_record r))) is.at
    ∙ ap (line_of fault (8 + length octets)) place
