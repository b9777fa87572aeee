-- Each data try of what was sent in a slot, whose header counts its blocks, is told.
use Rattle.std.proofs.Common.{◌≡◌, ℕ, zero, suc, ◌+◌, ◌-◌, ◌<◌, ◌≤◌, ◌^◌, ◌⊎◌, inl, inr, Bool, true, false, cond, List, [], ◌∷◌}
use Rattle.std.proofs.Common.{◌++◌}
use Rattle.std.proofs.Common.{length, map, drop, replicate, Option, Some, None, option_to_list, option_map, is_some}
use Rattle.std.proofs.Common.{nat_lt}
use Rattle.std.proofs.Common.{refl, sym, ap, ◌∙◌, subst, arith, append_assoc, Contains, IfSome}
use Rattle.std.proofs.lemmas.List.{length-append}
use Rattle.std.proofs.lemmas.List.Elements.{Contains-append_right}
use Rattle.std.specs.List.{AllByRecursion}
use Rattle.std.proofs.lemmas.Bool.{lt-ltb}
use Rattle.dmr_data.specs.Header.{Fits, layout}
use Rattle.dmr_data.specs.declared.header.Header.{Header}
use Rattle.dmr_data.specs.declared.header.Header.TheVariants as header
use Rattle.dmr_hearing.specs.Slots.{Silent}
use Rattle.dmr_log.specs.Pieces.{AreFollowed, RepeatedFrame}
use Rattle.dmr_listing.specs.declared.contents.Contents.{Contents}
use Rattle.dmr_log.specs.Repeated.{counted_blocks, data_told}
use Rattle.dmr_log.specs.Transmissions.{IsStep, begun_in, begun_subject, belongs, ended_by, in_frame, is_burst, more_blocks}
use Rattle.dmr_log.specs.Transmissions.{packet_of, packet_with, plus_one, span_with, transmission_with, with}
use Rattle.dmr_log.specs.declared.checks.Checks.{Checks}
use Rattle.dmr_log.specs.declared.repeated.PacketHead.{PacketHead}
use Rattle.dmr_log.specs.declared.repeated.PacketHead.TheVariants.{Known}
use Rattle.dmr_log.specs.declared.repeated.Repeated.{Repeated}
use Rattle.dmr_log.specs.declared.repeated.Repeated.TheVariants as repeated
use Rattle.dmr_log.specs.declared.transmission.Ended.{Ended}
use Rattle.dmr_log.specs.declared.transmission.Packet.{Packet}
use Rattle.dmr_log.specs.declared.transmission.Span.{Span}
use Rattle.dmr_log.specs.declared.transmission.Subject.{Subject}
use Rattle.dmr_log.specs.declared.transmission.Subject.TheVariants as subject
use Rattle.dmr_log.specs.declared.transmission.Transmission.{Transmission as Entry}
use Rattle.dmr_log_laws.proofs.Calls.{in_two, none_behind, pause_is, quiet_behind, replicate_long, sent_from, shown_in_two}
use Rattle.dmr_log_laws.proofs.Decided.{AreShown, Shows}
use Rattle.dmr_log_laws.proofs.Growing.{IsQuiet, first_among, repeats_of}
use Rattle.dmr_log_laws.proofs.Headers.{header_shown}
use Rattle.dmr_log_laws.proofs.Shapes.{data_shown, unsaid_shown}
use Rattle.dmr_log_laws.proofs.Slots.{counted_cons}
use Rattle.dmr_log_laws.specs.TryEntries.{AreTriesTold, HoldsHeader, IsTryTold, TellsPacket, there_count}
use Rattle.dmr_voice.specs.CallMeaning.{Block, Cell, Transmission, VoiceCall, HeadersAlone, LateCall, Controls, DataTry}
use Rattle.dmr_voice.specs.CallMeaning.{ForeignParts, cells, data_cell, unsaid}
use Rattle.dmr_voice.specs.WellFormed.{IsTransmission, IsWellFormed}
use Rattle.dmr_voice.specs.declared.said.Role.TheVariants.{Other}

-- 1. Where a transmission stands that is open.

-- it has the frames up to this one
abbrev pub IsAt : ℕ → Option Entry → Type 0
IsAt n None = Unit {0}
IsAt n (Some t) = t.span.first + t.span.frames ≡ n

at_begun : (n : ℕ) (checks : Checks) (s : Option Subject) → IsAt (n + 1) (in_frame n checks s)
at_begun n checks None = tt
at_begun n checks (Some s) = refl

one_more_frame : (frames n first : ℕ) → first + frames ≡ n → n < 2 ^ 32 - 1 → plus_one true frames ≡ frames + 1
one_more_frame frames n first at below = omega (arith, at, below)

one_frame_more : (first frames n : ℕ) → first + frames ≡ n → n < 2 ^ 32 - 1 → first + plus_one true frames ≡ n + 1
one_frame_more first frames n at below = omega (arith, at, below)

at_either : (b : Bool) (t : Entry) (n : ℕ) (r : Repeated) (checks : Checks) (one : Option Ended) (next : Option Entry)
    → n < 2 ^ 32 - 1 → t.span.first + t.span.frames ≡ n
    → ◌≡◌ {A = Option Ended × Option Entry} (one, next) (cond b (None, Some (transmission_with t r checks))
    (Some (record { transmission = t; by = ended_by r }), begun_in n r checks)) → IsAt (n + 1) next
at_either true t n r checks one next below at step =
    subst (IsAt (n + 1)) (sym (ap (λ (q : Option Ended × Option Entry). q.1) step))
    (one_frame_more t.span.first t.span.frames n at below)
at_either false t n r checks one next below at step =
    subst (IsAt (n + 1)) (sym (ap (λ (q : Option Ended × Option Entry). q.1) step)) (at_begun n checks (begun_subject r))

at_step : (current : Option Entry) (n : ℕ) (r : Repeated) (checks : Checks) (one : Option Ended) (next : Option Entry)
    → n < 2 ^ 32 - 1 → IsAt n current → IsStep current n r checks one next → IsAt (n + 1) next
at_step None n r checks one next below at step =
    subst (IsAt (n + 1)) (sym step.1) (at_begun n checks (begun_subject r))
at_step (Some t) n r checks one next below at (same, so, step) =
    at_either (belongs same t.subject r) t n r checks one next below at step

-- behind frames, a transmission that is open has them
pub at_frames : (current : Option Entry) (n m : ℕ) (frames : List RepeatedFrame) (ended : List Entry) (last : Option Entry)
    → m ≡ n + length frames → m < 2 ^ 32 → IsAt n current → AreFollowed current n frames ended last → IsAt m last
at_frames current n m [] ended last place below at (none, same) =
    let here : n ≡ m = omega (arith, place) in subst (IsAt m) (sym same) (subst (λ (k : ℕ). IsAt k current) here at)
at_frames current n m (f ∷ fs) ended last place below at (one, next, rest, step, told, later) =
    at_frames next (n + 1) m fs rest last (omega (arith, place)) below
    (at_step current n f.0 f.1 one next (omega (arith, place, below)) at step) later

-- 2. The header.

-- a packet is open behind its header
record IsHeaded (n : ℕ) (head : PacketHead) (next : Option Entry) : Type 0 where
  span : Span
  is : next ≡ Some (record { span = span; subject = packet_of head })
  begins : span.first ≤ n
  at : span.first + span.frames ≡ n + 1

headed_anew : (n : ℕ) (head : PacketHead) (checks : Checks) (next : Option Entry)
    → next ≡ begun_in n (repeated.DataHeader head) checks → IsHeaded n head next
headed_anew n head checks next is = record { span = _; is = is; begins = omega arith; at = refl }

headed_or_not : (b : Bool) (span : Span) (s : Subject) (n : ℕ) (head : PacketHead) (checks : Checks) (one : Option Ended)
    (next : Option Entry) → n < 2 ^ 32 - 1 → span.first + span.frames ≡ n → with s (repeated.DataHeader head) ≡ packet_of head
    → ◌≡◌ {A = Option Ended × Option Entry} (one, next) (cond b
    (None, Some (transmission_with (record { span = span; subject = s }) (repeated.DataHeader head) checks)) (
      Some (record { transmission = record { span = span; subject = s }; by = ended_by (repeated.DataHeader head) }),
      begun_in n (repeated.DataHeader head) checks,
    )) → IsHeaded n head next
headed_or_not false span s n head checks one next below at so step =
    headed_anew n head checks next (ap (λ (q : Option Ended × Option Entry). q.1) step)
headed_or_not true span s n head checks one next below at so step = record {
  span = span_with span (repeated.DataHeader head) checks;
  is = ap (λ (q : Option Ended × Option Entry). q.1) step
      ∙ ap (λ (x : Subject). let e : Entry = record { span = span_with span (repeated.DataHeader head) checks; subject = x } in
      Some e) so;
  begins = omega (arith, at);
  at = one_frame_more span.first span.frames n at below;
}

headed_behind : (span : Span) (s : Subject) (n : ℕ) (head : PacketHead) (checks : Checks) (one : Option Ended)
    (next : Option Entry) → n < 2 ^ 32 - 1 → span.first + span.frames ≡ n
    → IsStep (Some (record { span = span; subject = s })) n (repeated.DataHeader head) checks one next → IsHeaded n head next
headed_behind span (subject.Call c) n head checks one next below at (same, so, step) =
    headed_anew n head checks next (ap (λ (q : Option Ended × Option Entry). q.1) step)
headed_behind span (subject.Packet p) n head checks one next below at (same, so, step) =
    headed_anew n head checks next (ap (λ (q : Option Ended × Option Entry). q.1) step)
headed_behind span (subject.Controls k) n head checks one next below at (same, so, step) =
    headed_or_not same span (subject.Controls k) n head checks one next below at refl step

headed : (current : Option Entry) (n : ℕ) (head : PacketHead) (checks : Checks) (one : Option Ended) (next : Option Entry)
    → n < 2 ^ 32 - 1 → IsAt n current → IsStep current n (repeated.DataHeader head) checks one next → IsHeaded n head next
headed None n head checks one next below at step = headed_anew n head checks next step.1
headed (Some t) n head checks one next below at step = headed_behind t.span t.subject n head checks one next below at step

-- 3. The blocks.

-- the cells of blocks
abbrev block_cells : ℕ → List Bool → List (Option Block) → List Cell
block_cells colour header blocks = drop 1 (cells colour (DataTry [] header blocks))

-- what a block is told as
abbrev IsBlockOr : Option Block → Repeated → Type 0
IsBlockOr None r = r ≡ repeated.Nothing
IsBlockOr (Some d) r = r ≡ repeated.Block d.kind

kind_told : (kind : ℕ) (contents : Option Contents) → Contains (7 ∷ 8 ∷ 10 ∷ []) kind
    → data_told kind None contents ≡ repeated.Block kind
kind_told kind contents (zero, below, is) =
    subst (λ (k : ℕ). data_told k None contents ≡ repeated.Block k) is refl
kind_told kind contents (suc zero, below, is) =
    subst (λ (k : ℕ). data_told k None contents ≡ repeated.Block k) is refl
kind_told kind contents (suc (suc zero), below, is) =
    subst (λ (k : ℕ). data_told k None contents ≡ repeated.Block k) is refl
kind_told kind contents (suc (suc (suc k)), below, is) = absurd (omega (arith, below))

-- a packet that is told
record IsPacketTold (t : Entry) (p : Packet) (blocks : ℕ) (told : List Entry) : Type 0 where
  entry : Entry
  among : Contains told entry
  begins : entry.span.first ≡ t.span.first
  frames : t.span.frames ≤ entry.span.frames
  packet : Packet
  tells : entry.subject ≡ subject.Packet packet
  head : packet.head ≡ p.head
  there : packet.there ≡ p.there + blocks

abbrev packet_entry : Span → Packet → Entry
packet_entry span p = record { span = span; subject = subject.Packet p }

lift_packet : (t : Entry) (p : Packet) (n : ℕ) (xs ys : List Entry) → xs ≡ ys → IsPacketTold t p n xs → IsPacketTold t p n ys
lift_packet t p n xs ys e told = subst (IsPacketTold t p n) e told

itself_told : (span : Span) (p : Packet) (more : List Entry) → IsPacketTold (packet_entry span p) p 0 (packet_entry span p ∷ more)
itself_told span p more = record {
  entry = packet_entry span p;
  among = first_among (packet_entry span p) more;
  begins = refl;
  frames = omega arith;
  packet = p;
  tells = refl;
  head = refl;
  there = omega arith;
}

last_told : (span : Span) (p : Packet) (n : ℕ) (ended : List Entry) (last : Option Entry)
    → AreFollowed (Some (packet_entry span p)) n [] ended last
    → IsPacketTold (packet_entry span p) p 0 (ended ++ option_to_list last)
last_told span p n ended last (none, same) =
    subst (λ (l : List Entry). IsPacketTold (packet_entry span p) p 0 (l ++ option_to_list last)) (sym none)
    (subst (λ (x : Option Entry). IsPacketTold (packet_entry span p) p 0 (option_to_list x)) (sym same) (itself_told span p []))

pair_false : {A B : Type 0} (b : Bool) (x y u : A) (v w z : B) → b ≡ false
    → ◌≡◌ {A = A × B} (x, v) (cond b (u, w) (y, z)) → (x ≡ y) × (v ≡ z)
pair_false {A = A} {B = B} false x y u v w z e p = (ap (λ (q : A × B). q.0) p, ap (λ (q : A × B). q.1) p)
pair_false {A = A} {B = B} true x y u v w z e p = cc

pair_true : {A B : Type 0} (b : Bool) (x y u : A) (v w z : B) → b ≡ true
    → ◌≡◌ {A = A × B} (x, v) (cond b (y, w) (u, z)) → (x ≡ y) × (v ≡ w)
pair_true {A = A} {B = B} true x y u v w z e p = (ap (λ (q : A × B). q.0) p, ap (λ (q : A × B). q.1) p)
pair_true {A = A} {B = B} false x y u v w z e p = cc

-- a packet of which all blocks came ends where nothing is repeated
ends_quietly : (span : Span) (p : Packet) (n : ℕ) (fs : List RepeatedFrame) (ended : List Entry) (last : Option Entry)
    → p.left ≡ 0 → IsQuiet fs → AreFollowed (Some (packet_entry span p)) n fs ended last
    → IsPacketTold (packet_entry span p) p 0 (ended ++ option_to_list last)
ends_quietly span p n [] ended last all quiet followed = last_told span p n ended last followed
ends_quietly span p n (f ∷ fs) ended last all quiet (one, next, rest, step, told, later) =
    let quiet_step = subst (λ (r : Repeated). IsStep (Some (packet_entry span p)) n r f.1 one next) quiet step in
    let over : nat_lt 0 p.left ≡ false = ap (nat_lt 0) all in
    let is : one ≡ Some (record { transmission = packet_entry span p; by = ended_by repeated.Nothing }) =
    (pair_false (nat_lt 0 p.left) one (Some (record { transmission = packet_entry span p; by = ended_by repeated.Nothing })) None
    next (Some (transmission_with (packet_entry span p) repeated.Nothing f.1)) (begun_in n repeated.Nothing f.1) over
    quiet_step.2).0 in
    let ended_is : ended ≡ packet_entry span p ∷ rest =
    told ∙ ap (λ (x : Option Ended). option_to_list (option_map (λ (e : Ended). e.transmission) x) ++ rest) is in
    subst (λ (l : List Entry). IsPacketTold (packet_entry span p) p 0 (l ++ option_to_list last)) (sym ended_is)
    (itself_told span p (rest ++ option_to_list last))

silent_blocks : (colour : ℕ) (header : List Bool) (blocks : List (Option Block)) (ds : List Cell)
    → AreShown colour (block_cells colour header blocks ++ ds) [] → there_count blocks ≡ 0
silent_blocks colour header [] ds shown = refl
silent_blocks colour header (None ∷ bs) ds shown =
    counted_cons is_some None bs ∙ ap (λ (n : ℕ). 0 + n) (silent_blocks colour header bs ds shown.1) ∙ omega arith
silent_blocks colour header (Some d ∷ bs) ds shown = let silent = shown.0 in cc

one_block_more : (b : Bool) (n k : ℕ) → n + (k + 1) ≤ 255 → more_blocks b n ≡ n + cond b 1 0
one_block_more true n k below = omega arith
one_block_more false n k below = omega arith

at_most_one : (b : Bool) → cond b 1 0 ≤ 1
at_most_one true = omega arith
at_most_one false = omega arith

-- a block more, there or absent
block_more : (b : Option Block) (bs : List (Option Block)) (r : Repeated) (f : RepeatedFrame) (fs : List RepeatedFrame)
    (span : Span) (p : Packet) (n : ℕ) (ended : List Entry) (last : Option Entry) → f.0 ≡ r
    → ((same : Bool) → belongs same (subject.Packet p) r ≡ nat_lt 0 p.left) → is_burst r ≡ is_some b
    → p.left ≡ 1 + length bs → p.there + (length bs + 1) ≤ 255 → span.first + span.frames ≡ n
    → n + (length fs + 1) < 2 ^ 32
    → ((s : Span) (q : Packet) (es : List Entry) → q.left ≡ length bs → q.there + length bs ≤ 255
    → s.first + s.frames ≡ n + 1 → AreFollowed (Some (packet_entry s q)) (n + 1) fs es last
    → IsPacketTold (packet_entry s q) q (there_count bs) (es ++ option_to_list last))
    → AreFollowed (Some (packet_entry span p)) n (f ∷ fs) ended last
    → IsPacketTold (packet_entry span p) p (there_count (b ∷ bs)) (ended ++ option_to_list last)
block_more b bs r f fs span p n ended last is belong burst left there at below more
    (one, next, rest, (same, so, step), told, later) =
    let step_is = subst (λ (x : Repeated). ◌≡◌ {A = Option Ended × Option Entry} (one, next)
    (cond (belongs same (subject.Packet p) x) (None, Some (transmission_with (packet_entry span p) x f.1))
    (Some (record { transmission = packet_entry span p; by = ended_by x }), begun_in n x f.1))) is step in
    let going : nat_lt 0 p.left ≡ true = lt-ltb 0 p.left (omega (arith, left)) in
    let pair = pair_true (belongs same (subject.Packet p) r) one None
    (Some (record { transmission = packet_entry span p; by = ended_by r })) next
    (Some (transmission_with (packet_entry span p) r f.1)) (begun_in n r f.1) (belong same ∙ going) step_is in
    let ended_is : ended ≡ rest =
    told ∙ ap (λ (x : Option Ended). option_to_list (option_map (λ (e : Ended). e.transmission) x) ++ rest) pair.0 in
    let q : Packet = packet_with p r in
    let counted : q.there ≡ p.there + cond (is_some b) 1 0 =
    ap (λ (x : Bool). more_blocks x p.there) burst ∙ one_block_more (is_some b) p.there (length bs) there in
    let few = at_most_one (is_some b) in
    let t = more (span_with span r f.1) q rest (omega (arith, left)) (omega (arith, counted, few, there))
    (one_frame_more span.first span.frames n at (omega (arith, below)))
    (subst (λ (x : Option Entry). AreFollowed x (n + 1) fs rest last) pair.1 later) in
    let all = counted_cons is_some b bs in
    let frames : plus_one true span.frames ≡ span.frames + 1 = one_more_frame span.frames n span.first at (omega (arith, below)) in
    let longer = t.frames in
    let count = t.there in
    record {
      entry = t.entry;
      among = subst (λ (l : List Entry). Contains (l ++ option_to_list last) t.entry) (sym ended_is) t.among;
      begins = t.begins;
      frames = omega (arith, frames, longer);
      packet = t.packet;
      tells = t.tells;
      head = t.head;
      there = count ∙ ap (λ (x : ℕ). x + there_count bs) counted
          ∙ omega (arith, all);
    }

blocks_told : (colour : ℕ) (header : List Bool) (blocks : List (Option Block)) (ds : List Cell) (span : Span) (p : Packet) (n : ℕ)
    (fs : List RepeatedFrame) (ended : List Entry) (last : Option Entry)
    → AllByRecursion (λ block. IfSome block (λ (d : Block). Contains (7 ∷ 8 ∷ 10 ∷ []) d.kind)) blocks
    → p.left ≡ length blocks → p.there + length blocks ≤ 255 → span.first + span.frames ≡ n → n + length fs < 2 ^ 32
    → AreShown colour (block_cells colour header blocks ++ unsaid Silent ∷ ds) (repeats_of fs)
    → AreFollowed (Some (packet_entry span p)) n fs ended last
    → IsPacketTold (packet_entry span p) p (there_count blocks) (ended ++ option_to_list last)
blocks_told colour header [] ds span p n fs ended last kinds left there at below shown followed =
    ends_quietly span p n fs ended last left (quiet_behind colour ds fs shown) followed
blocks_told colour header (b ∷ bs) ds span p n [] ended last kinds left there at below shown followed =
    subst (λ (k : ℕ). IsPacketTold (packet_entry span p) p k (ended ++ option_to_list last))
    (sym (silent_blocks colour header (b ∷ bs) (unsaid Silent ∷ ds) shown)) (last_told span p n ended last followed)
blocks_told colour header (None ∷ bs) ds span p n (f ∷ fs) ended last kinds left there at below shown followed =
    block_more None bs repeated.Nothing f fs span p n ended last (unsaid_shown colour Silent f.0 shown.0) (λ same. refl) refl
    (omega (arith, left)) (omega (arith, there)) at (omega (arith, below))
    (λ s q es left' there' at' followed'. blocks_told colour header bs ds s q (n + 1) fs es last kinds.1 left' there' at'
    (omega (arith, below)) shown.1 followed')
    followed
blocks_told colour header (Some d ∷ bs) ds span p n (f ∷ fs) ended last kinds left there at below shown followed =
    block_more (Some d) bs (repeated.Block d.kind) f fs span p n ended last
    (data_shown colour d.kind d.information Other (data_cell d.kind d.information None Other).sent f.0 shown.0
    ∙ kind_told d.kind _ kinds.0)
    (λ same. refl) refl (omega (arith, left)) (omega (arith, there)) at (omega (arith, below))
    (λ s q es left' there' at' followed'. blocks_told colour header bs ds s q (n + 1) fs es last kinds.1 left' there' at'
    (omega (arith, below)) shown.1 followed')
    followed

-- 4. One try.

-- a header counts less than 128 blocks
few_blocks : (h : Header) → Fits (layout h) → counted_blocks (Known h) < 128
few_blocks (header.Response r) fit = let blocks = fit.1.1.1.1.0 in omega (arith, blocks)
few_blocks (header.Unconfirmed u) fit = let blocks = fit.1.1.1.1.1.1.0 in omega (arith, blocks)
few_blocks (header.Confirmed c) fit = let blocks = fit.1.1.1.1.1.1.0 in omega (arith, blocks)
few_blocks (header.ShortData s) fit = let blocks = fit.0 in omega (arith, blocks)
few_blocks (header.Status s) fit = omega arith

-- what a packet is behind its header
abbrev new_packet : Header → Packet
new_packet h = record { head = Known h; left = counted_blocks (Known h); there = 0 }

more_packets : (before es : List Entry) (frame : ℕ) (h : Header) (blocks : ℕ) → TellsPacket es frame h blocks
    → TellsPacket (before ++ es) frame h blocks
more_packets before es frame h blocks t = record {
  entry = t.entry;
  among = Contains-append_right before es t.entry t.among;
  begins = t.begins;
  goes_on = t.goes_on;
  packet = t.packet;
  tells = t.tells;
  head = t.head;
  there = t.there;
}

lifted : (one : Option Ended) (ended rest : List Entry) (last : Option Entry) (frame : ℕ) (h : Header) (blocks : ℕ)
    → ended ≡ option_to_list (option_map (λ (e : Ended). e.transmission) one) ++ rest
    → TellsPacket (rest ++ option_to_list last) frame h blocks → TellsPacket (ended ++ option_to_list last) frame h blocks
lifted one ended rest last frame h blocks told t =
    let head = option_to_list (option_map (λ (e : Ended). e.transmission) one) in
    let all : head ++ (rest ++ option_to_list last) ≡ ended ++ option_to_list last =
    sym (append_assoc head rest (option_to_list last)) ∙ ap (λ (l : List Entry). l ++ option_to_list last) (sym told) in
    subst (λ (l : List Entry). TellsPacket l frame h blocks) all (more_packets head _ frame h blocks t)

header_told_so : (colour : ℕ) (information : List Bool) (h : Header) (blocks : List (Option Block)) (ds : List Cell) (n : ℕ)
    (f : RepeatedFrame) (fs : List RepeatedFrame) (current : Option Entry) (ended : List Entry) (last : Option Entry)
    → HoldsHeader information h → counted_blocks (Known h) ≡ length blocks
    → AllByRecursion (λ block. IfSome block (λ (d : Block). Contains (7 ∷ 8 ∷ 10 ∷ []) d.kind)) blocks
    → IsAt n current → n + length (f ∷ fs) < 2 ^ 32 → Shows colour (data_cell 6 information None Other) f.0
    → AreShown colour (block_cells colour information blocks ++ unsaid Silent ∷ ds) (repeats_of fs)
    → AreFollowed current n (f ∷ fs) ended last
    → TellsPacket (ended ++ option_to_list last) n h (there_count blocks)
header_told_so colour information h blocks ds n f fs current ended last holds counts kinds at below shows shown
    (one, next, rest, step, told, later) =
    let is = header_shown colour information h f.0 holds shows in
    let head = headed current n (Known h) f.1 one next (omega (arith, below)) at
    (subst (λ (r : Repeated). IsStep current n r f.1 one next) is step) in
    let few = few_blocks h holds.2.fit in
    let t = blocks_told colour information blocks ds head.span (new_packet h) (n + 1) fs rest last kinds counts
    (omega (arith, few, counts)) head.at (omega (arith, below)) shown
    (subst (λ (x : Option Entry). AreFollowed x (n + 1) fs rest last) head.is later) in
    let begins = t.begins in
    let early = head.begins in
    let place = head.at in
    let frames = t.frames in
    let count = t.there in
    lifted one ended rest last n h (there_count blocks) told (record {
      entry = t.entry;
      among = t.among;
      begins = omega (arith, begins, early);
      goes_on = omega (arith, begins, place, frames);
      packet = t.packet;
      tells = t.tells;
      head = t.head;
      there = count ∙ omega arith;
    })

abbrev csbk_cells : List (List Bool) → List Cell
csbk_cells csbks = map (λ (csbk : List Bool). data_cell 3 csbk None Other) csbks

try_told : (colour : ℕ) (csbks : List (List Bool)) (information : List Bool) (h : Header) (blocks : List (Option Block))
    (ds : List Cell) (n : ℕ) (frames : List RepeatedFrame) (current : Option Entry) (ended : List Entry) (last : Option Entry)
    → HoldsHeader information h → counted_blocks (Known h) ≡ length blocks
    → AllByRecursion (λ block. IfSome block (λ (d : Block). Contains (7 ∷ 8 ∷ 10 ∷ []) d.kind)) blocks
    → IsAt n current → n + length frames < 2 ^ 32
    → AreShown colour (csbk_cells csbks ++ (data_cell 6 information None Other ∷ (block_cells colour information blocks
    ++ unsaid Silent ∷ ds))) (repeats_of frames)
    → AreFollowed current n frames ended last
    → TellsPacket (ended ++ option_to_list last) (n + length csbks) h (there_count blocks)
try_told colour [] information h blocks ds n [] current ended last holds counts kinds at below shown followed =
    let silent = shown.0 in cc
try_told colour [] information h blocks ds n (f ∷ fs) current ended last holds counts kinds at below shown followed =
    let here : n ≡ n + 0 = omega arith in
    subst (λ (m : ℕ). TellsPacket (ended ++ option_to_list last) m h (there_count blocks)) here
    (header_told_so colour information h blocks ds n f fs current ended last holds counts kinds at below shown.0 shown.1 followed)
try_told colour (x ∷ csbks) information h blocks ds n [] current ended last holds counts kinds at below shown followed =
    let silent = shown.0 in cc
try_told colour (x ∷ csbks) information h blocks ds n (f ∷ fs) current ended last holds counts kinds at below shown
    (one, next, rest, step, told, later) =
    let here : n + 1 + length csbks ≡ n + length (x ∷ csbks) = omega arith in
    subst (λ (m : ℕ). TellsPacket (ended ++ option_to_list last) m h (there_count blocks)) here
    (lifted one ended rest last (n + 1 + length csbks) h (there_count blocks) told
    (try_told colour csbks information h blocks ds (n + 1) fs next rest last holds counts kinds
    (at_step current n f.0 f.1 one next (omega (arith, below)) at step) (omega (arith, below)) shown.1 later))

no_try : (colour : ℕ) (csbks : List (List Bool)) (information : List Bool) (more : List Cell)
    → AreShown colour (csbk_cells csbks ++ (data_cell 6 information None Other ∷ more)) [] → ⊥
no_try colour [] information more shown = let silent = shown.0 in cc
no_try colour (x ∷ csbks) information more shown = let silent = shown.0 in cc

-- 5. All transmissions.

-- a transmission, where it may be a try
due_of_one : (colour n k : ℕ) (t : Transmission) (ds : List Cell) (frames : List RepeatedFrame) (current : Option Entry)
    (ended : List Entry) (last : Option Entry) → IsTransmission colour t → IsAt n current → n + length frames < 2 ^ 32
    → AreShown colour (cells colour t ++ (unsaid Silent ∷ ds)) (repeats_of frames) → AreFollowed current n frames ended last
    → IsTryTold n t (ended ++ option_to_list last)
due_of_one colour n k (DataTry csbks information blocks) ds frames current ended last is at below shown followed =
    λ h holds counts.
    try_told colour csbks information h blocks ds n frames current ended last holds counts is at below
    (subst (λ (l : List Cell). AreShown colour l (repeats_of frames))
    (append_assoc (csbk_cells csbks) (data_cell 6 information None Other ∷ block_cells colour information blocks)
    (unsaid Silent ∷ ds)) shown)
    followed
due_of_one colour n k (VoiceCall lc header leads gap ss ending) ds frames current ended last is at below shown followed = tt
due_of_one colour n k (HeadersAlone lc header leads ending) ds frames current ended last is at below shown followed = tt
due_of_one colour n k (LateCall lc tail ss ending) ds frames current ended last is at below shown followed = tt
due_of_one colour n k (Controls bursts) ds frames current ended last is at below shown followed = tt
due_of_one colour n k (ForeignParts parts) ds frames current ended last is at below shown followed = tt

none_of_one : (colour n : ℕ) (t : Transmission) (es : List Entry) → AreShown colour (cells colour t) [] → IsTryTold n t es
none_of_one colour n (DataTry csbks information blocks) es shown =
    absurd (no_try colour csbks information (block_cells colour information blocks) shown)
none_of_one colour n (VoiceCall lc header leads gap ss ending) es shown = tt
none_of_one colour n (HeadersAlone lc header leads ending) es shown = tt
none_of_one colour n (LateCall lc tail ss ending) es shown = tt
none_of_one colour n (Controls bursts) es shown = tt
none_of_one colour n (ForeignParts parts) es shown = tt

-- where no frame is left, no try is due
pub no_tries_left : (colour n : ℕ) (ts : List (Transmission × ℕ)) (es : List Entry) → AreShown colour (sent_from colour ts) []
    → AreTriesTold colour n ts es
no_tries_left colour n [] es shown = tt
no_tries_left colour n (t ∷ ts) es shown =
    let parts = none_behind colour (cells colour t.0 ++ replicate t.1 (unsaid Silent)) (sent_from colour ts) shown in
    let first = none_behind colour (cells colour t.0) (replicate t.1 (unsaid Silent)) parts.0 in
    (none_of_one colour n t.0 es first.0, no_tries_left colour (n + length (cells colour t.0) + t.1) ts es parts.1)

more_of_one : (n : ℕ) (t : Transmission) (before es : List Entry) → IsTryTold n t es → IsTryTold n t (before ++ es)
more_of_one n (DataTry csbks information blocks) before es told =
    λ h holds counts. more_packets before es (n + length csbks) h (there_count blocks) (told h holds counts)
more_of_one n (VoiceCall lc header leads gap ss ending) before es told = tt
more_of_one n (HeadersAlone lc header leads ending) before es told = tt
more_of_one n (LateCall lc tail ss ending) before es told = tt
more_of_one n (Controls bursts) before es told = tt
more_of_one n (ForeignParts parts) before es told = tt

-- tries among entries are so among more
pub more_tries : (colour n : ℕ) (ts : List (Transmission × ℕ)) (before es : List Entry) → AreTriesTold colour n ts es
    → AreTriesTold colour n ts (before ++ es)
more_tries colour n [] before es told = tt
more_tries colour n (t ∷ ts) before es told = (
  more_of_one n t.0 before es told.0,
  more_tries colour (n + length (cells colour t.0) + t.1) ts before es told.1,
)

abbrev TriesTold : ℕ → List (Transmission × ℕ) → Type 0
TriesTold colour ts =
    (n : ℕ) (frames : List RepeatedFrame) (current : Option Entry) (ended : List Entry) (last : Option Entry)
    → AreShown colour (sent_from colour ts) (repeats_of frames) → IsAt n current → n + length frames < 2 ^ 32
    → AreFollowed current n frames ended last → AreTriesTold colour n ts (ended ++ option_to_list last)

rest_told : (colour n k : ℕ) (t : Transmission) (ts : List (Transmission × ℕ)) (front rest : List RepeatedFrame)
    (after : List Entry) (going last : Option Entry) → TriesTold colour ts
    → AreShown colour (sent_from colour ts) (repeats_of rest) → IsAt (n + length front) going
    → n + length front + length rest < 2 ^ 32 → AreFollowed going (n + length front) rest after last
    → (length front ≡ length (cells colour t ++ replicate k (unsaid Silent))) ⊎ (rest ≡ [])
    → AreTriesTold colour (n + length (cells colour t) + k) ts (after ++ option_to_list last)
rest_told colour n k t ts front rest after going last all behind at below followed (inr none) =
    no_tries_left colour _ ts _
    (subst (λ (l : List RepeatedFrame). AreShown colour (sent_from colour ts) (repeats_of l)) none behind)
rest_told colour n k t ts front rest after going last all behind at below followed (inl whole) =
    let long = length-append (cells colour t) (replicate k (unsaid Silent)) in
    let pause = replicate_long k (unsaid Silent) in
    let place : n + length front ≡ n + length (cells colour t) + k = omega (arith, whole, long, pause) in
    subst (λ (m : ℕ). AreTriesTold colour m ts (after ++ option_to_list last)) place
    (all (n + length front) rest going after last behind at below followed)

tries_behind : (colour : ℕ) (t : Transmission) (k : ℕ) (ts : List (Transmission × ℕ)) → IsTransmission colour t → 1 ≤ k
    → TriesTold colour ts → TriesTold colour ((t, k) ∷ ts)
tries_behind colour t zero ts is some all n frames current ended last shown at below followed = absurd (omega (arith, some))
tries_behind colour t (suc k) ts is some all n frames current ended last shown at below followed =
    let pause = replicate (suc k) (unsaid Silent) in
    let regrouped = subst (λ (l : List Cell). AreShown colour l (repeats_of frames))
    (append_assoc (cells colour t) pause (sent_from colour ts)) shown in
    let part = shown_in_two colour (cells colour t ++ pause) (sent_from colour ts) frames shown in
    let two = in_two current n part.front part.rest ended last
    (subst (λ (l : List RepeatedFrame). AreFollowed current n l ended last) part.split followed) in
    let long : length frames ≡ length part.front + length part.rest =
    ap length part.split ∙ length-append part.front part.rest in
    let stands = at_frames current n (n + length part.front) part.front two.before two.going refl (omega (arith, below, long)) at
    two.first in
    let rest = rest_told colour n (suc k) t ts part.front part.rest two.after two.going last all part.behind stands
    (omega (arith, below, long)) two.second part.whole in
    let all_are : two.before ++ (two.after ++ option_to_list last) ≡ ended ++ option_to_list last =
    sym (append_assoc two.before two.after (option_to_list last))
    ∙ ap (λ (l : List Entry). l ++ option_to_list last) (sym two.all) in (
      due_of_one colour n (suc k) t (replicate k (unsaid Silent) ++ sent_from colour ts) frames current ended last is at below
          regrouped followed,
      subst (AreTriesTold colour (n + length (cells colour t) + suc k) ts) all_are
          (more_tries colour (n + length (cells colour t) + suc k) ts two.before _ rest),
    )

-- the tries of well-formed transmissions are told
pub tries_told : (colour : ℕ) (ts : List (Transmission × ℕ)) → IsWellFormed colour ts
    → (n : ℕ) (frames : List RepeatedFrame) (current : Option Entry) (ended : List Entry) (last : Option Entry)
    → AreShown colour (sent_from colour ts) (repeats_of frames) → IsAt n current → n + length frames < 2 ^ 32
    → AreFollowed current n frames ended last → AreTriesTold colour n ts (ended ++ option_to_list last)
tries_told colour [] well n frames current ended last shown at below followed = tt
tries_told colour (t ∷ ts) well n frames current ended last shown at below followed =
    tries_behind colour t.0 t.1 ts well.0 (pause_is t.0 t.1 ts well.1) (tries_told colour ts well.2) n frames current ended last
    shown at below followed
