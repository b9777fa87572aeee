-- Slots are the same exactly where what isn't ignored of them is.
use Rattle.std.proofs.Common.{◌≡◌, ℕ, ◌+◌, ◌*◌, ◌==◌, ◌&&◌, Bool, true, false, not, cond, List, [], ◌∷◌, Option, Some, None}
use Rattle.std.proofs.Common.{if◌then◌else◌, length, map, drop, zero, suc, refl, sym, ap, ◌∙◌, subst, arith}
use Rattle.std.specs.List.{AllByRecursion}
use Rattle.std.proofs.lemmas.Bool.{and_parts, eqb-true}
use Rattle.dmr_bits.proofs.Lists.{distance_zero}
use Rattle.dmr_bits.proofs.OctetFronts.{length-bits_of_octets}
use Rattle.dmr_bits.proofs.Parts.{length-part}
use Rattle.dmr_bits.specs.Bits.{bits_of_octets, distance, part}
use Rattle.dmr_compare.proofs.Distances.{of_equals}
use Rattle.dmr_compare.proofs.Equal.{none_counted, pairs_cons}
use Rattle.dmr_compare.proofs.Voice.{clash}
use Rattle.dmr_compare.specs.Counting.{different_places}
use Rattle.dmr_compare.specs.Kept.{KeptBurst, cach_bits, compared_bits, compared_cach, differing_in_burst, differing_in_cach}
use Rattle.dmr_compare.specs.Kept.{is_same, is_voice, kept}
use Rattle.dmr_compare.specs.Slots.{ListedSlot, lines_of, bare_slots}
use Rattle.dmr_listing.specs.declared.listed_burst.ListedBurst.{ListedBurst}
use Rattle.dmr_compare.specs.declared.settings.Ignored.{Ignored}
use Rattle.dmr_listing.specs.ListingRules.{Lists, ListingTurn, turn_after, turn_passed}
use Rattle.dmr_reading.specs.Reading.{IsReadAs}
use Rattle.dmr_recording.specs.Recordings.{IsBurstOf, IsSlotOf}
use Rattle.dmr_recording.specs.declared.recording.RecordedBurst.{RecordedBurst}
use Rattle.dmr_recording.specs.declared.recording.Recording.{Recording}
use Rattle.dmr_recording.specs.declared.recording.Recording.TheVariants.{Uplink, Downlink}

-- 1. What is known of a slot.

-- a slot is one of a recording, and a burst's line has what it is read as
abbrev pub IsSeen : Recording → ListedSlot → Type 0
IsSeen recording None = Unit {0}
IsSeen recording (Some s) = IsBurstOf recording s.burst × IsReadAs (bits_of_octets s.burst.burst) s.line.reading

-- so it is with all slots that were read
pub all_seen : (recording : Recording) (turn end : ListingTurn) (slots : List ListedSlot)
    → AllByRecursion (IsSlotOf recording) (bare_slots slots) → Lists turn (bare_slots slots) (lines_of slots) end
    → AllByRecursion (IsSeen recording) slots
all_seen recording turn end [] each lists = tt
all_seen recording turn end (None ∷ slots) each lists =
    (tt, all_seen recording (turn_passed turn) end slots each.1 lists)
all_seen recording turn end (Some s ∷ slots) each lists =
    ((each.0, lists.0.shows.reading), all_seen recording (turn_after s.line s.burst turn) end slots each.1 lists.1)

-- and with those behind some
pub seen_behind : (recording : Recording) (n : ℕ) (slots : List ListedSlot) → AllByRecursion (IsSeen recording) slots
    → AllByRecursion (IsSeen recording) (drop n slots)
seen_behind recording zero slots each = each
seen_behind recording (suc n) [] each = tt
seen_behind recording (suc n) (slot ∷ slots) each = seen_behind recording n slots each.1

-- 2. Bits.

-- a burst has 264 bits
burst_bits : (recording : Recording) (b : RecordedBurst) → IsBurstOf recording b → length (bits_of_octets b.burst) ≡ 264
burst_bits Uplink b h = length-bits_of_octets b.burst ∙ ap (λ n. 8 * n) h.1
burst_bits Downlink b h = length-bits_of_octets b.burst ∙ ap (λ n. 8 * n) h.1

-- how many bits the CACHs of a recording have
abbrev pub cach_width : Recording → ℕ
cach_width Uplink = 0
cach_width Downlink = 24

cach_wide : (recording : Recording) (b : RecordedBurst) → IsBurstOf recording b → length (cach_bits b.cach) ≡ cach_width recording
cach_wide Uplink b h = ap (λ (c : Option (List ℕ)). length (cach_bits c)) h.0
cach_wide Downlink b ((cach, is, long), octets) =
    ap (λ (c : Option (List ℕ)). length (cach_bits c)) is ∙ length-bits_of_octets cach ∙ ap (λ n. 8 * n) long

-- the CACHs that are compared have as many bits
cachs_wide : (skip : Bool) (x y : List Bool) → length x ≡ length y
    → length (if skip then [] else x) ≡ length (if skip then [] else y)
cachs_wide true x y e = refl
cachs_wide false x y e = e

-- the bits of a burst that are kept
abbrev pub kept_of : Bool → List Bool → List Bool
kept_of without x = if without then part x 108 156 else x

-- the centre of a burst has 48 bits
centre_wide : (x : List Bool) → length x ≡ 264 → length (part x 108 156) ≡ 48
centre_wide x long = length-part x 108 156 (omega arith) (omega (arith, long)) ∙ omega arith

-- where no compared bit differs, what is kept is the same
bits_same : (v a b : Bool) (x y : List Bool) → length x ≡ 264 → length y ≡ 264 → (x ≡ y → a ≡ b)
    → distance (kept_of (v && (a && b)) x) (kept_of (v && (a && b)) y) ≡ 0 → kept_of (v && a) x ≡ kept_of (v && b) y
bits_same false a b x y long long' only z = distance_zero x y (long ∙ sym long') z
bits_same true true true x y long long' only z =
    distance_zero (part x 108 156) (part y 108 156) (centre_wide x long ∙ sym (centre_wide y long')) z
bits_same true false false x y long long' only z = distance_zero x y (long ∙ sym long') z
bits_same true true false x y long long' only z = absurd (grind (arith, only (distance_zero x y (long ∙ sym long') z)))
bits_same true false true x y long long' only z = absurd (grind (arith, only (distance_zero x y (long ∙ sym long') z)))

-- where what is kept is the same, no compared bit differs
bits_back : (v a b : Bool) (x y : List Bool) → length x ≡ 264 → length y ≡ 264 → kept_of (v && a) x ≡ kept_of (v && b) y
    → distance (kept_of (v && (a && b)) x) (kept_of (v && (a && b)) y) ≡ 0
bits_back false a b x y long long' e = of_equals x y e
bits_back true true true x y long long' e = of_equals (part x 108 156) (part y 108 156) e
bits_back true false false x y long long' e = of_equals x y e
bits_back true true false x y long long' e = absurd (omega (arith, ap length e, centre_wide x long, long'))
bits_back true false true x y long long' e = absurd (omega (arith, ap length e, centre_wide y long', long))

-- 3. Slots.

-- one burst is a voice burst where the other is, if their bits are the same
one_kind : (recording : Recording) (x y : ListedBurst) → IsSeen recording (Some x) → IsSeen recording (Some y)
    → bits_of_octets x.burst.burst ≡ bits_of_octets y.burst.burst → is_voice x.line.reading ≡ is_voice y.line.reading
one_kind recording x y h h' e = either (is_voice x.line.reading) (is_voice y.line.reading) refl refl
  where
    read : IsReadAs (bits_of_octets x.burst.burst) y.line.reading
    read = subst (λ (b : List Bool). IsReadAs b y.line.reading) (sym e) h'.1

    either : (a b : Bool) → is_voice x.line.reading ≡ a → is_voice y.line.reading ≡ b → a ≡ b
    either true true p q = refl
    either false false p q = refl
    either true false p q =
        absurd (clash (bits_of_octets x.burst.burst) x.line.reading y.line.reading (burst_bits recording x.burst h.0) p q h.1 read)
    either false true p q =
        absurd (clash (bits_of_octets x.burst.burst) y.line.reading x.line.reading (burst_bits recording x.burst h.0) q p read h.1)

-- bits that aren't ignored are as many
compared_wide : (recording : Recording) (ignored : Ignored) (x y : ListedBurst) → IsSeen recording (Some x)
    → IsSeen recording (Some y) → length (compared_cach ignored x) ≡ length (compared_cach ignored y)
compared_wide recording ignored x y h h' =
    cachs_wide ignored.cach (cach_bits x.burst.cach) (cach_bits y.burst.cach)
    (cach_wide recording x.burst h.0 ∙ sym (cach_wide recording y.burst h'.0))

-- two slots that are the same keep the same
pub slots_same : (recording : Recording) (ignored : Ignored) (x y : ListedSlot) → IsSeen recording x → IsSeen recording y
    → is_same ignored x y ≡ true → kept ignored x ≡ kept ignored y
slots_same recording ignored None None h h' e = refl
slots_same recording ignored None (Some y) h h' e = absurd (grind (arith, e))
slots_same recording ignored (Some x) None h h' e = absurd (grind (arith, e))
slots_same recording ignored (Some x) (Some y) h h' e =
    let parts = and_parts (differing_in_cach ignored x y == 0) (differing_in_burst ignored x y == 0) e in
    let cach : compared_cach ignored x ≡ compared_cach ignored y =
    distance_zero _ _ (compared_wide recording ignored x y h h') (eqb-true _ _ parts.0) in
    let burst : compared_bits (ignored.vocoder && is_voice x.line.reading) x
    ≡ compared_bits (ignored.vocoder && is_voice y.line.reading) y =
    bits_same ignored.vocoder (is_voice x.line.reading) (is_voice y.line.reading) (bits_of_octets x.burst.burst)
    (bits_of_octets y.burst.burst) (burst_bits recording x.burst h.0) (burst_bits recording y.burst h'.0)
    (one_kind recording x y h h') (eqb-true _ _ parts.1) in
    ap (λ (c : List Bool). Some (record { cach = c; burst = compared_bits (ignored.vocoder && is_voice x.line.reading) x })) cach
    ∙ ap (λ (b : List Bool). Some (record { cach = compared_cach ignored y; burst = b })) burst

-- the bits of the CACH, of what is kept of a burst
abbrev pub cach_of : Option KeptBurst → List Bool
cach_of None = []
cach_of (Some k) = k.cach

-- the bits of the burst
abbrev pub burst_of : Option KeptBurst → List Bool
burst_of None = []
burst_of (Some k) = k.burst

-- what is kept of silence isn't what is kept of a burst
abbrev pub is_burst : Option KeptBurst → Bool
is_burst None = false
is_burst (Some k) = true

-- two slots that keep the same are the same
pub slots_back : (recording : Recording) (ignored : Ignored) (x y : ListedSlot) → IsSeen recording x → IsSeen recording y
    → kept ignored x ≡ kept ignored y → is_same ignored x y ≡ true
slots_back recording ignored None None h h' e = refl
slots_back recording ignored None (Some y) h h' e =
    let kinds : false ≡ true = ap is_burst e in
    absurd (grind (arith, kinds))
slots_back recording ignored (Some x) None h h' e =
    let kinds : true ≡ false = ap is_burst e in
    absurd (grind (arith, kinds))
slots_back recording ignored (Some x) (Some y) h h' e =
    let cach : differing_in_cach ignored x y ≡ 0 = of_equals _ _ (ap cach_of e) in
    let burst : differing_in_burst ignored x y ≡ 0 =
    bits_back ignored.vocoder (is_voice x.line.reading) (is_voice y.line.reading) (bits_of_octets x.burst.burst)
    (bits_of_octets y.burst.burst) (burst_bits recording x.burst h.0) (burst_bits recording y.burst h'.0) (ap burst_of e) in
    ap (λ n. (n == 0) && (differing_in_burst ignored x y == 0)) cach ∙ ap (λ n. (0 == 0) && (n == 0)) burst

-- 4. Lists.

-- two lists of one length without a difference keep the same
pub lists_same : (recording : Recording) (ignored : Ignored) (xs ys : List ListedSlot) → AllByRecursion (IsSeen recording) xs
    → AllByRecursion (IsSeen recording) ys → length xs ≡ length ys → different_places (is_same ignored) xs ys ≡ 0
    → map (kept ignored) xs ≡ map (kept ignored) ys
lists_same recording ignored [] [] h h' e z = refl
lists_same recording ignored [] (y ∷ ys) h h' e z = absurd (omega arith)
lists_same recording ignored (x ∷ xs) [] h h' e z = absurd (omega arith)
lists_same recording ignored (x ∷ xs) (y ∷ ys) h h' e z =
    let none = none_counted (is_same ignored x y) (different_places (is_same ignored) xs ys)
    (sym (pairs_cons (is_same ignored) x y xs ys) ∙ z) in
    ap (λ (k : Option KeptBurst). k ∷ map (kept ignored) xs) (slots_same recording ignored x y h.0 h'.0 none.0)
    ∙ ap (λ (l : List (Option KeptBurst)). kept ignored y ∷ l) (lists_same recording ignored xs ys h.1 h'.1 (omega arith) none.1)

-- the first of what a list keeps
abbrev pub first_of : List (Option KeptBurst) → Option KeptBurst
first_of [] = None
first_of (k ∷ ks) = k

-- and the rest of it
abbrev pub rest_of : List (Option KeptBurst) → List (Option KeptBurst)
rest_of [] = []
rest_of (k ∷ ks) = ks

-- two lists that keep the same have one length, and no difference
pub lists_back : (recording : Recording) (ignored : Ignored) (xs ys : List ListedSlot) → AllByRecursion (IsSeen recording) xs
    → AllByRecursion (IsSeen recording) ys → map (kept ignored) xs ≡ map (kept ignored) ys
    → (length xs ≡ length ys) × (different_places (is_same ignored) xs ys ≡ 0)
lists_back recording ignored [] [] h h' e = (refl, refl)
lists_back recording ignored [] (y ∷ ys) h h' e = absurd (omega (arith, ap length e))
lists_back recording ignored (x ∷ xs) [] h h' e = absurd (omega (arith, ap length e))
lists_back recording ignored (x ∷ xs) (y ∷ ys) h h' e =
    let (long, none) = lists_back recording ignored xs ys h.1 h'.1 (ap rest_of e) in
    let same = slots_back recording ignored x y h.0 h'.0 (ap first_of e) in (
      ap suc long,
      pairs_cons (is_same ignored) x y xs ys ∙ ap (λ (b : Bool). cond (not b) 1 0 + different_places (is_same ignored) xs ys) same
          ∙ (let e' : 0 + different_places (is_same ignored) xs ys ≡ 0 = omega (arith, none) in e'),
    )
