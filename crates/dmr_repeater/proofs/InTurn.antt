-- The records that are offered in a frame are those that the file has for it.
use Rattle.std.proofs.Common.{◌≡◌, ℕ, zero, suc, ◌+◌, ◌<◌, ◌≤◌, eqb, Bool}
use Rattle.std.proofs.Common.{true, false, cond, List, [], ◌∷◌, ◌++◌, length, filter, Option}
use Rattle.std.proofs.Common.{inl, inr, refl, sym, ◌∙◌, ap, subst, arith, append_assoc, append-nil, option_to_list, ◌⊎◌, nat_le}
use Rattle.std.specs.List.{AllByRecursion}
use Rattle.std.proofs.KnownBytes.{Consumes-trans}
use Rattle.std.proofs.lemmas.Bool.{cases_lt}
use Rattle.std.proofs.lemmas.List.Elements.{filter-append}
use Rattle.dmr_record.specs.Head.{outgoing_magic}
use Rattle.dmr_record.specs.Head.{head_octets}
use Rattle.dmr_gateway.specs.GatewayRules.{IsSlot}
use Rattle.dmr_station.proofs.Exchanges.{offer_count}
use Rattle.dmr_repeater.specs.Files.{KnownOctets}
use Rattle.dmr_repeater.specs.Runs.{ReadsRecords, from_frame}
use Rattle.dmr_repeater.proofs.Records.{All-append, AreDue-later, Gives-same, Gives-trans}
use Rattle.std.specs.Io.KnownBytes.{Consumes}
use Rattle.dmr_record.specs.declared.outgoing.Outgoing.{Outgoing}
use Rattle.dmr_record.specs.Outgoing.{Sending, IsSending, AreInFrameOrder, sendings_octets}
use Rattle.dmr_station.specs.GatewayMeaning.{AreForSlots, by_frame}
use Rattle.dmr_record.specs.Outgoing.{IsReadOutgoing, AreReadFrom}
use Rattle.std.specs.List.{AllZip}
use Rattle.dmr_repeater.specs.Schedule.{ReadingProgress, unread, waiting, Gives, AreDue, GivesDue, IsPast}
use Rattle.dmr_record.specs.Outgoing.{last_frame}
use Rattle.dmr_repeater.specs.Schedule.{AreOfferedInTurn}

-- 1. Lists that go together, taken apart.

-- A list has a front that goes with one list, and a rest that goes with another.
pub record Apart {X Y : Type 0} (R : X → Y → Type 0) (xs ys : List X) (zs : List Y) : Type 0 where
  pub front : List Y
  pub rest : List Y
  pub whole : zs ≡ front ++ rest
  pub first : AllZip R xs front
  pub second : AllZip R ys rest

-- a list that goes with two others, one behind the other, has a front that goes with the first and a rest with the second
pub apart : {X Y : Type 0} (R : X → Y → Type 0) (xs ys : List X) (zs : List Y) → AllZip R (xs ++ ys) zs → Apart R xs ys zs
apart R [] ys zs p = record { front = []; rest = zs; whole = refl; first = tt; second = p }
apart R (x ∷ xs) ys [] p = absurd p
apart R (x ∷ xs) ys (z ∷ zs) p =
    let more = apart R xs ys zs p.1 in
    record {
      front = z ∷ more.front;
      rest = more.rest;
      whole = ap (λ l. z ∷ l) more.whole;
      first = (p.0, more.first);
      second = more.second;
    }

together : {X Y : Type 0} (R : X → Y → Type 0) (xs ys : List X) (us vs : List Y) → AllZip R xs us → AllZip R ys vs
    → AllZip R (xs ++ ys) (us ++ vs)
together R [] ys [] vs p q = q
together R [] ys (u ∷ us) vs p q = absurd p
together R (x ∷ xs) ys [] vs p q = absurd p
together R (x ∷ xs) ys (u ∷ us) vs p q = (p.0, together R xs ys us vs p.1 q)

-- 2. Records in the order of their frames.

-- each has this frame
abbrev AreOf : ℕ → List Sending → Type 0
AreOf frame ss = AllByRecursion (λ s. s.frame ≡ frame) ss

-- records in the order of frames from one frame on are so from an earlier frame on too
pub later : (f g : ℕ) (ss : List Sending) → g ≤ f → AreInFrameOrder f ss → AreInFrameOrder g ss
later f g [] h p = tt
later f g (s ∷ ss) h p = let first = p.0 in (omega (arith, first), p.1)

-- what is due in a frame, and was not due before it, is of that frame
due_now : (f : ℕ) (os : List Outgoing) (ss rest : List Sending) → AreReadFrom os ss → AreDue f os → AreInFrameOrder f (ss ++ rest)
    → AreOf f ss × AreInFrameOrder f rest
due_now f [] [] rest pairs due order = (tt, order)
due_now f [] (s ∷ ss) rest pairs due order = absurd pairs
due_now f (o ∷ os) [] rest pairs due order = absurd pairs
due_now f (o ∷ os) (s ∷ ss) rest pairs due order =
    let same : o.frame ≡ s.frame = ap (λ (x : Sending). x.frame) pairs.0.fields in
    let at_most = due.0 in
    let at_least = order.0 in
    let now : s.frame ≡ f = omega (arith, same, at_most, at_least) in
    let more = due_now f os ss rest pairs.1 due.1 (subst (λ n. AreInFrameOrder n (ss ++ rest)) now order.1) in
    ((now, more.0), more.1)

other_after : (m n : ℕ) → n < m → eqb m n ≡ false
other_after m n less = grind (arith, less)

other_before : (m n : ℕ) → m < n → eqb m n ≡ false
other_before m n less = grind (arith, less)

same_frame : (n : ℕ) → eqb n n ≡ true
same_frame n = grind arith

-- of later frames none is of this one
none_of : (f g : ℕ) (ss : List Sending) → f < g → AreInFrameOrder g ss → filter (λ (s : Sending). eqb s.frame f) ss ≡ []
none_of f g [] h order = refl
none_of f g (s ∷ ss) h order =
    let first = order.0 in
    let other : eqb s.frame f ≡ false = other_after s.frame f (omega (arith, h, first)) in
    ap (λ b. cond b (s ∷ filter (λ (x : Sending). eqb x.frame f) ss) (filter (λ (x : Sending). eqb x.frame f) ss)) other
    ∙ none_of f s.frame ss (omega (arith, h, first)) order.1

-- and the records of a frame are
all_of : (f : ℕ) (ss rest : List Sending) → AreOf f ss
    → filter (λ (s : Sending). eqb s.frame f) (ss ++ rest) ≡ ss ++ filter (λ (s : Sending). eqb s.frame f) rest
all_of f [] rest of = refl
all_of f (s ∷ ss) rest of =
    let same : eqb s.frame f ≡ true = rw of.0 (same_frame f) in
    ap (λ b. cond b (s ∷ filter (λ (x : Sending). eqb x.frame f) (ss ++ rest))
    (filter (λ (x : Sending). eqb x.frame f) (ss ++ rest))) same
    ∙ ap (λ l. s ∷ l) (all_of f ss rest of.1)

-- frames behind them have none of them
passed : (f g count : ℕ) (ss rest : List Sending) → f < g → AreOf f ss → by_frame g count (ss ++ rest) ≡ by_frame g count rest
passed f g zero ss rest h of = refl
passed f g (suc count) ss rest h of =
    let here = passed_in f g ss rest h of in
    let more = passed f (g + 1) count ss rest (omega (arith, h)) of in
    ap (λ l. l ∷ by_frame (g + 1) count (ss ++ rest)) here
    ∙ ap (λ l. filter (λ (s : Sending). eqb s.frame g) rest ∷ l) more
  where
    passed_in : (f g : ℕ) (ss rest : List Sending) → f < g → AreOf f ss
        → filter (λ (s : Sending). eqb s.frame g) (ss ++ rest) ≡ filter (λ (s : Sending). eqb s.frame g) rest
    passed_in f g [] rest h of = refl
    passed_in f g (s ∷ ss) rest h of =
        let other : eqb s.frame g ≡ false = rw of.0 (other_before f g h) in
        ap (λ b. cond b (s ∷ filter (λ (x : Sending). eqb x.frame g) (ss ++ rest))
        (filter (λ (x : Sending). eqb x.frame g) (ss ++ rest))) other
        ∙ passed_in f g ss rest h of.1

-- 3. Frame after frame.

-- what was read while records were offered in turn
abbrev pub read_in_turn : (f : ℕ) (offers : List (List Outgoing)) (p q : ReadingProgress) (a b : KnownOctets)
    → AreOfferedInTurn f offers p q a b
    → List Sending
read_in_turn f [] p q a b u = []
read_in_turn f (given ∷ more) p q a b u = u.3.sendings ++ read_in_turn (f + 1) more u.0 q u.1 b u.5

-- nothing is read behind the end
none_behind : (f : ℕ) (offers : List (List Outgoing)) (p q : ReadingProgress) (a b : KnownOctets)
    (u : AreOfferedInTurn f offers p q a b)
    (rest : List Sending) → (q.at_end ≡ true → rest ≡ []) → p.at_end ≡ true → read_in_turn f offers p q a b u ++ rest ≡ []
none_behind f [] p q a b u rest h e = h (ap (λ (x : ReadingProgress). x.at_end) u.0 ∙ e)
none_behind f (given ∷ more) p q a b u rest h e =
    let now = u.3.ended e in
    let behind = none_behind (f + 1) more u.0 q u.1 b u.5 rest h now.1 in
    ap (λ l. (l ++ read_in_turn (f + 1) more u.0 q u.1 b u.5) ++ rest) now.0 ∙ behind

-- what is left behind a frame is of later frames
next_waits : (f : ℕ) (o : Outgoing) (ws rest : List Sending) → AllZip IsReadOutgoing (o ∷ []) ws → f < o.frame
    → AreInFrameOrder f (ws ++ rest) → AreInFrameOrder (f + 1) (ws ++ rest)
next_waits f o [] rest pairs less order = absurd pairs
next_waits f o (s ∷ []) rest pairs less order =
    let same : o.frame ≡ s.frame = ap (λ (x : Sending). x.frame) pairs.0.fields in
    (omega (arith, same, less), order.1)
next_waits f o (s ∷ t ∷ ws) rest pairs less order = absurd pairs.1

none_waits : (f : ℕ) (ws rest : List Sending) → AllZip IsReadOutgoing [] ws → rest ≡ [] → AreInFrameOrder (f + 1) (ws ++ rest)
none_waits f [] rest pairs none = subst (AreInFrameOrder (f + 1)) (sym none) tt
none_waits f (s ∷ ws) rest pairs none = absurd pairs

left_behind : (f : ℕ) (p : ReadingProgress) (ws rest : List Sending) → IsPast f p → AllZip IsReadOutgoing (waiting p) ws
    → (p.at_end ≡ true → rest ≡ []) → AreInFrameOrder f (ws ++ rest) → AreInFrameOrder (f + 1) (ws ++ rest)
left_behind f p ws rest (inl past) pairs end order =
    next_waits f past.0 ws rest
    (subst (λ (x : Option Outgoing). AllZip IsReadOutgoing (option_to_list x) ws) past.1 pairs) past.3 order
left_behind f p ws rest (inr past) pairs end order =
    none_waits f ws rest (subst (λ (x : Option Outgoing). AllZip IsReadOutgoing (option_to_list x) ws) past.0 pairs) (end past.1)

-- one list, cut in two ways
regrouped : (w s t rest front behind : List Sending) → w ++ s ≡ front ++ behind
    → w ++ ((s ++ t) ++ rest) ≡ front ++ (behind ++ (t ++ rest))
regrouped w s t rest front behind e =
    ap (λ l. w ++ l) (append_assoc s t rest) ∙ sym (append_assoc w s (t ++ rest)) ∙ ap (λ l. l ++ (t ++ rest)) e
    ∙ append_assoc front behind (t ++ rest)

-- Where the records that wait and those that are read after them stand in the order of their frames, none of an earlier one, in
-- each frame those are offered that are of that frame.
pub in_turn : (f : ℕ) (offers : List (List Outgoing)) (p q : ReadingProgress) (a b : KnownOctets)
    (u : AreOfferedInTurn f offers p q a b)
    (waits rest : List Sending) → AllZip IsReadOutgoing (waiting p) waits → (q.at_end ≡ true → rest ≡ [])
    → AreInFrameOrder f (waits ++ (read_in_turn f offers p q a b u ++ rest))
    → AllZip AreReadFrom offers (by_frame f (length offers) (waits ++ (read_in_turn f offers p q a b u ++ rest)))
in_turn f [] p q a b u waits rest pairs end order = tt
in_turn f (given ∷ more) p q a b u waits rest pairs end order =
    let g : Gives p u.0 given [] a u.1 = u.3 in
    let behind : List Sending = read_in_turn (f + 1) more u.0 q u.1 b u.5 in
    let cut = apart IsReadOutgoing given (waiting u.0) (waits ++ g.sendings)
    (subst (λ l. AllZip IsReadOutgoing l (waits ++ g.sendings)) g.all
    (together IsReadOutgoing (waiting p) g.found waits g.sendings pairs g.kept)) in
    let left : List Sending = cut.rest ++ (behind ++ rest) in
    let whole : waits ++ ((g.sendings ++ behind) ++ rest) ≡ cut.front ++ left =
    regrouped waits g.sendings behind rest cut.front cut.rest cut.whole in
    let due = due_now f given cut.front left cut.first u.2 (subst (AreInFrameOrder f) whole order) in
    let ends : u.0.at_end ≡ true → behind ++ rest ≡ [] = none_behind (f + 1) more u.0 q u.1 b u.5 rest end in
    let next : AreInFrameOrder (f + 1) left = left_behind f u.0 cut.rest (behind ++ rest) u.4 cut.second ends due.1 in
    let now : filter (λ (s : Sending). eqb s.frame f) (cut.front ++ left) ≡ cut.front =
    all_of f cut.front left due.0 ∙ ap (λ l. cut.front ++ l) (none_of f (f + 1) left (omega arith) next) ∙ append-nil cut.front in
    subst (λ l. AllZip AreReadFrom (given ∷ more) (by_frame f (length (given ∷ more)) l)) (sym whole) (
      subst (λ l. AreReadFrom given l) (sym now) cut.first,
      subst (λ l. AllZip AreReadFrom more l) (sym (passed f (f + 1) (length more) cut.front left (omega arith) due.0))
          (in_turn (f + 1) more u.0 q u.1 b u.5 cut.rest rest cut.second end next),
    )

-- 4. What was read in all.

-- What was read for frame after frame is due up to a last frame, and is what was offered.
pub record ReadInTurn (f bound : ℕ) (offers : List (List Outgoing)) (p q : ReadingProgress) (a b : KnownOctets)
    (u : AreOfferedInTurn f offers p q a b) : Type 0 where
  pub due : GivesDue bound p q a b
  pub same : due.gives.sendings ≡ read_in_turn f offers p q a b u

-- what is given frame after frame is due in the last of the frames, and is of the records that were read
pub given_in_turn : (f bound : ℕ) (offers : List (List Outgoing)) (p q : ReadingProgress) (a b : KnownOctets)
    (u : AreOfferedInTurn f offers p q a b) → f + length offers ≤ bound + 1 → ReadInTurn f bound offers p q a b u
unfolding Gives-same Gives-trans
given_in_turn f bound [] p q a b u h = record {
  due = record {
    given = [];
    due = tt;
    gives = Gives-same p q a b (ap (λ (x : ReadingProgress). x.records) u.0) (ap (λ (x : ReadingProgress). x.last) u.0)
        (ap (λ (x : ReadingProgress). x.ahead) u.0) u.1 (λ end. ap (λ (x : ReadingProgress). x.at_end) u.0 ∙ end);
  };
  same = refl;
}
given_in_turn f bound (given ∷ more) p q a b u h =
    let rest = given_in_turn (f + 1) bound more u.0 q u.1 b u.5 (omega (arith, h)) in
    record {
      due = record {
        given = given ++ rest.due.given;
        due = All-append (λ o. o.frame ≤ bound) given rest.due.given
            (AreDue-later f bound given (omega (arith, h)) u.2) rest.due.due;
        gives = Gives-trans p u.0 q given rest.due.given [] a u.1 b u.3 rest.due.gives;
      };
      same = ap (λ l. u.3.sendings ++ l) rest.same;
    }

kept_slots : (b : Bool) (s : Sending) (ss : List Sending) → IsSlot s.slot → AreForSlots ss → AreForSlots (cond b (s ∷ ss) ss)
kept_slots true s ss first more = (first, more)
kept_slots false s ss first more = more

slots_of_frame : (f : ℕ) (ss : List Sending) → AllByRecursion IsSending ss
    → AreForSlots (filter (λ (s : Sending). eqb s.frame f) ss)
slots_of_frame f [] each = tt
slots_of_frame f (s ∷ ss) each =
    kept_slots (eqb s.frame f) s (filter (λ (x : Sending). eqb x.frame f) ss) each.0.slot (slots_of_frame f ss each.1)

-- the datagrams of each frame are for slot 1 or slot 2
pub slots_in_turn : (f count : ℕ) (ss : List Sending) → AllByRecursion IsSending ss
    → AllByRecursion AreForSlots (by_frame f count ss)
slots_in_turn f zero ss each = tt
slots_in_turn f (suc count) ss each = (slots_of_frame f ss each, slots_in_turn (f + 1) count ss each)

-- What was offered in turn, and what was read further, are records of the file.
pub record ReadInAll (offers : List (List Outgoing)) (r : ReadingProgress) (part : List ℕ) (o d : KnownOctets)
    (ss : List Sending) : Type 0
  where
    pub reads : ReadsRecords ss part o d
    pub pairs : AllZip AreReadFrom offers (by_frame 0 (length offers) ss)
    pub slots : AllByRecursion AreForSlots (by_frame 0 (length offers) ss)
    pub last : r.last ≡ last_frame 0 ss
    pub count : r.records ≡ length ss

-- what was offered in turn, and what was read further, are records of the outgoing file
pub read_in_all : (offers : List (List Outgoing)) (q r : ReadingProgress) (more : List Outgoing) (part : List ℕ)
    (o p b d : KnownOctets)
    → Consumes o p (head_octets outgoing_magic) → (u : AreOfferedInTurn 0 offers unread q p b) → (g : Gives q r more part b d)
    → ReadInAll offers r part o d (read_in_turn 0 offers unread q p b u ++ g.sendings)
unfolding Gives-trans
read_in_all offers q r more part o p b d head u g =
    let turn = given_in_turn 0 (length offers) offers unread q p b u (omega arith) in
    let ss : List Sending = read_in_turn 0 offers unread q p b u ++ g.sendings in
    let whole = Gives-trans unread q r turn.due.given more part p b d turn.due.gives g in
    let same : whole.sendings ≡ ss = ap (λ l. l ++ g.sendings) turn.same in
    let each : AllByRecursion IsSending ss = subst (AllByRecursion IsSending) same whole.each in
    let order : AreInFrameOrder 0 ss = subst (AreInFrameOrder 0) same whole.order in
    let read : Consumes p d (sendings_octets ss ++ part) = subst (λ l. Consumes p d (sendings_octets l ++ part)) same whole.read in
    let counted = whole.count in
    let long = ap length same in
    record {
      reads = record {
        each = each;
        order = order;
        few = let few = whole.few (omega arith) in omega (arith, few, counted, long);
        read = Consumes-trans o p d (head_octets outgoing_magic) (sendings_octets ss ++ part) head read;
      };
      pairs = in_turn 0 offers unread q p b u [] g.sendings tt (λ end. (g.ended end).0) order;
      slots = slots_in_turn 0 (length offers) ss each;
      last = whole.last ∙ ap (last_frame 0) same;
      count = omega (arith, counted, long);
    }

-- 5. A front of the file has all that its frames need.

-- records of later frames change nothing in what the frames before them have
pub by_frame_front : (f count : ℕ) (xs more : List Sending) → AreInFrameOrder (f + count) more
    → by_frame f count (xs ++ more) ≡ by_frame f count xs
by_frame_front f zero xs more order = refl
by_frame_front f (suc count) xs more order =
    let now : filter (λ (s : Sending). eqb s.frame f) (xs ++ more) ≡ filter (λ (s : Sending). eqb s.frame f) xs =
    filter-append (λ (s : Sending). eqb s.frame f) xs more
    ∙ ap (λ l. filter (λ (s : Sending). eqb s.frame f) xs ++ l) (none_of f (f + suc count) more (omega arith) order)
    ∙ append-nil (filter (λ (s : Sending). eqb s.frame f) xs) in
    let behind : AreInFrameOrder (f + 1 + count) more = later (f + suc count) (f + 1 + count) more (omega arith) order in
    ap (λ l. l ∷ by_frame (f + 1) count (xs ++ more)) now
    ∙ ap (λ l. filter (λ (s : Sending). eqb s.frame f) xs ∷ l) (by_frame_front (f + 1) count xs more behind)

-- 6. How many are offered, and how many are not.

abbrev total : List (List Sending) → ℕ
total [] = 0
total (ss ∷ more) = length ss + total more

counted_pairs : {X Y : Type 0} (R : X → Y → Type 0) (xs : List X) (ys : List Y) → AllZip R xs ys → length xs ≡ length ys
counted_pairs R [] [] u = refl
counted_pairs R [] (y ∷ ys) u = absurd u
counted_pairs R (x ∷ xs) [] u = absurd u
counted_pairs R (x ∷ xs) (y ∷ ys) u = let more = counted_pairs R xs ys u.1 in omega arith

counted_offers : (offers : List (List Outgoing)) (ss : List (List Sending)) → AllZip AreReadFrom offers ss
    → offer_count offers ≡ total ss
counted_offers [] [] u = refl
counted_offers [] (s ∷ ss) u = absurd u
counted_offers (o ∷ offers) [] u = absurd u
counted_offers (o ∷ offers) (s ∷ ss) u =
    let first = counted_pairs IsReadOutgoing o s u.0 in
    let more = counted_offers offers ss u.1 in
    omega (arith, first, more)

-- of a frame, or of a later one
abbrev Splits : (a b c : Bool) → Type 0
Splits a b c = cond a 1 0 ≡ cond b 1 0 + cond c 1 0

splits : (m f : ℕ) → Splits (nat_le f m) (eqb m f) (nat_le (f + 1) m)
splits m f = by_order (cases_lt m f) (cases_lt f m)
  where
    by_order : (m < f) ⊎ (f ≤ m) → (f < m) ⊎ (m ≤ f) → Splits (nat_le f m) (eqb m f) (nat_le (f + 1) m)
    by_order (inl less) other = grind (arith, less)
    by_order (inr least) (inl more) = grind (arith, more)
    by_order (inr least) (inr most) = let same : m ≡ f = omega (arith, least, most) in rw same (grind arith)

add_one : (a b c : Bool) (s : Sending) (xs ys zs : List Sending) → Splits a b c → length xs ≡ length ys + length zs
    → length (cond a (s ∷ xs) xs) ≡ length (cond b (s ∷ ys) ys) + length (cond c (s ∷ zs) zs)
add_one true true true s xs ys zs p e = absurd (omega (arith, p))
add_one true true false s xs ys zs p e = omega (arith, e)
add_one true false true s xs ys zs p e = omega (arith, e)
add_one true false false s xs ys zs p e = absurd (omega (arith, p))
add_one false true true s xs ys zs p e = absurd (omega (arith, p))
add_one false true false s xs ys zs p e = absurd (omega (arith, p))
add_one false false true s xs ys zs p e = absurd (omega (arith, p))
add_one false false false s xs ys zs p e = omega (arith, e)

of_frame : (f : ℕ) (ss : List Sending)
    → length (from_frame f ss) ≡ length (filter (λ (s : Sending). eqb s.frame f) ss) + length (from_frame (f + 1) ss)
of_frame f [] = refl
of_frame f (s ∷ ss) =
    add_one (nat_le f s.frame) (eqb s.frame f) (nat_le (f + 1) s.frame) s (from_frame f ss)
    (filter (λ (x : Sending). eqb x.frame f) ss) (from_frame (f + 1) ss) (splits s.frame f) (of_frame f ss)

parted : (f count : ℕ) (ss : List Sending)
    → length (from_frame f ss) ≡ total (by_frame f count ss) + length (from_frame (f + count) ss)
parted f zero ss =
    let here : f ≡ f + 0 = omega arith in
    let same = ap (λ (n : ℕ). length (from_frame n ss)) here in
    omega (arith, same)
parted f (suc count) ss =
    let first = of_frame f ss in
    let more = parted (f + 1) count ss in
    let far : length (from_frame (f + 1 + count) ss) ≡ length (from_frame (f + suc count) ss) =
    ap (λ (n : ℕ). length (from_frame n ss)) (omega arith) in
    omega (arith, first, more, far)

all_from_0 : (ss : List Sending) → length (from_frame 0 ss) ≡ length ss
all_from_0 [] = refl
all_from_0 (s ∷ ss) =
    let here = ap (λ b. length (cond b (s ∷ from_frame 0 ss) (from_frame 0 ss))) (from_the_first s.frame) in
    let more = all_from_0 ss in
    omega (arith, more, here)
  where
    from_the_first : (n : ℕ) → nat_le 0 n ≡ true
    from_the_first n = grind arith

-- those that are not offered are of frames that the run has not
pub unoffered_are : (offers : List (List Outgoing)) (frames : ℕ) (ss : List Sending) → length offers ≡ frames
    → AllZip AreReadFrom offers (by_frame 0 (length offers) ss)
    → length ss ≡ offer_count offers + length (from_frame frames ss)
unoffered_are offers frames ss e pairs =
    let all = all_from_0 ss in
    let parts = parted 0 (length offers) ss in
    let offered = counted_offers offers (by_frame 0 (length offers) ss) pairs in
    let far : length (from_frame (0 + length offers) ss) ≡ length (from_frame frames ss) = ap (λ (n : ℕ). length (from_frame n ss))
    (omega (arith, e)) in
    omega (arith, all, parts, offered, far)
