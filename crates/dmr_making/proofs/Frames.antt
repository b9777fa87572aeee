-- What is written of both slots, frame by frame.
use Rattle.std.proofs.Common.{◌≡◌, ℕ, suc, ◌+◌, ◌-◌, ◌≤◌, List, [], ◌∷◌, ◌++◌, length, Option, None, slice_index_or, append_assoc}
use Rattle.std.proofs.Common.{arith, ap, refl, sym}
use Rattle.std.proofs.Common.{◌∙◌, subst, Result, Ok, Err}
use Rattle.std.specs.Result.{OnErr}
use Rattle.std.proofs.KnownBytes.{Appends-trans}
use Rattle.std.proofs.lemmas.Grind.{flat_map-append}
use Rattle.std.proofs.lemmas.List.Sums.{sum_by-append}
use Rattle.std.proofs.lemmas.List.{append-nil, length-append}
use Rattle.std.specs.Io.KnownBytes.{Appends}
use Rattle.dmr_making.proofs.Seen.{all_append}
use Rattle.dmr_making.proofs.Standing.{stands_right}
use Rattle.dmr_making.specs.Playing.{AreFramesMade, IsFrameMade, IsLineOfSlot, IsLineStep, IsMadeAt, IsMadeIn, IsPlayed, IsReady}
use Rattle.dmr_making.specs.Playing.{SlotFrames}
use Rattle.dmr_making.specs.Playing.{AreBurstsCounted, PlaysFrame, burst_count}
use Rattle.dmr_making.specs.Playing.{StandsInLine, WritesFrames, TearsFrames, TearsRecording, WritesRecording, still_placed}
use Rattle.dmr_making.specs.declared.playing.PlacedTransmission.{PlacedTransmission}
use Rattle.dmr_making.specs.declared.playing.Player.{Player}
use Rattle.dmr_making.specs.declared.recording.BurstsMade.{BurstsMade}
use Rattle.dmr_script.specs.declared.statement.NumberedStatement.{NumberedStatement}
use Rattle.dmr_record.proofs.Torn.{Tears_after, Tears_more}
use Rattle.dmr_record.specs.Devices.{Tears}
use Rattle.dmr_record.specs.Head.{head_octets, uplink_magic}
use Rattle.dmr_record.specs.Uplink.{IsFrame, UplinkSlots, frame_octets, frames_octets}

-- one frame more
made_more : (from : ℕ) (one two : SlotFrames) (frames : List UplinkSlots) (slots : UplinkSlots) (at : ℕ) → at ≡ from + length frames
    → AreFramesMade from one two frames → IsFrameMade at one two slots → AreFramesMade from one two (frames ++ slots ∷ [])
made_more from one two [] slots at e p q =
    let same : at ≡ from = omega arith in (subst (λ (n : ℕ). IsFrameMade n one two slots) same q, tt)
made_more from one two (f ∷ frames) slots at e p q = (p.0, made_more (suc from) one two frames slots at (omega arith) p.1 q)

-- a player that has played a frame
stands_more : (now next : Player) (frame : ℕ) (made : Option (List ℕ)) (line : SlotFrames) → now.from ≤ frame
    → IsPlayed now next frame made → StandsInLine now line → IsMadeAt frame made line frame × StandsInLine next line
stands_more now next frame made line le played s =
    let before : SlotFrames = s.0 in
    let rest : SlotFrames = s.1 in
    let split : line ≡ before ++ rest = s.2 in
    let long : length before ≡ now.from = s.3 in
    let step : IsLineStep now next frame made rest = played.step rest s.4 in
    let holds : IsMadeAt frame made (before ++ rest) frame =
    stands_right (IsMadeIn frame made) (made ≡ None) before rest (frame - now.from) frame (omega (arith, long, le)) step.holds in
    let all = length-append before step.before in
    let count = step.count in
    let on : IsLineOfSlot next.own next.statements.now next.from (still_placed next) step.rest =
    subst (λ (n : ℕ). IsLineOfSlot n next.statements.now next.from (still_placed next) step.rest) (sym played.own)
    (subst (λ st. IsLineOfSlot now.own st next.from (still_placed next) step.rest) (sym played.statements) step.goes_on) in (
      subst (λ (l : SlotFrames). IsMadeAt frame made l frame) (sym split) holds,
      (
        before ++ step.before,
        step.rest,
        split ∙ ap (λ (l : SlotFrames). before ++ l) step.split ∙ sym (append_assoc before step.before step.rest),
        omega (arith, all, long, count),
        on,
      ),
    )

-- nothing is written yet
pub writes_none : (first second : Player) (held : Option (List ℕ)) → first.from ≡ 0 → second.from ≡ 0 → Appends held held []
    → WritesFrames first first second second 0 (record { first = 0; second = 0 }) held held
writes_none first second held e f none = record {
  frames = [];
  many = refl;
  counted = record { first = refl; second = refl };
  each = tt;
  made = λ one two p q. (tt, ([], one, refl, sym e, p), ([], two, refl, sym f, q));
  written = none;
}

-- the bursts of one frame more
counted_more : (counts more : BurstsMade) (frames : List UplinkSlots) (slots : UplinkSlots) → AreBurstsCounted counts frames
    → AreBurstsCounted more (slots ∷ [])
    → AreBurstsCounted (record { first = counts.first + more.first; second = counts.second + more.second })
    (frames ++ slots ∷ [])
counted_more counts more frames slots p q = record {
  first =
      let a = p.first in
      let b = q.first in
      let all = sum_by-append (λ (s : UplinkSlots). burst_count (slice_index_or s 0 None)) frames (slots ∷ []) in
      omega (arith, a, b, all);
  second =
      let a = p.second in
      let b = q.second in
      let all = sum_by-append (λ (s : UplinkSlots). burst_count (slice_index_or s 1 None)) frames (slots ∷ []) in
      omega (arith, a, b, all);
}

-- one frame more is written
pub writes_more : (first first_now first_next second second_now second_next : Player) (count : ℕ)
    → (counts more : BurstsMade) (old mid new : Option (List ℕ)) → IsReady first_now count → IsReady second_now count
    → WritesFrames first first_now second second_now count counts old mid
    → PlaysFrame first_now first_next second_now second_next count more mid new
    → WritesFrames first first_next second second_next (count + 1)
    (record { first = counts.first + more.first; second = counts.second + more.second }) old new
writes_more first first_now first_next second second_now second_next count counts more old mid new ready other w p =
    let slots : UplinkSlots = p.one ∷ p.two ∷ [] in
    let many = w.many in
    let all = length-append w.frames (slots ∷ []) in
    let octets : frames_octets w.frames ++ frame_octets slots ≡ frames_octets (w.frames ++ slots ∷ []) =
    ap (λ (l : List ℕ). frames_octets w.frames ++ l) (sym (append-nil (frame_octets slots)))
    ∙ sym (flat_map-append frame_octets w.frames (slots ∷ [])) in
    record {
      frames = w.frames ++ slots ∷ [];
      many = omega (arith, many, all);
      counted = counted_more counts more w.frames slots w.counted p.counted;
      each = all_append IsFrame w.frames (slots ∷ []) w.each (p.is, tt);
      made = λ one two u v.
          let so_far = w.made one two u v in
          let a = stands_more first_now first_next count p.one one ready.front.begins p.first_is so_far.1 in
          let b = stands_more second_now second_next count p.two two other.front.begins p.second_is so_far.2 in
          (made_more 0 one two w.frames slots count (omega (arith, many)) so_far.0 (p.one, p.two, refl, a.0, b.0), a.1, b.1);
      written = subst (Appends old new) octets
          (Appends-trans old mid new (frames_octets w.frames) (frame_octets slots) w.written p.written);
    }

-- the file of these frames is its head, and then they
pub writes_file : (own : ℕ) (statements : List NumberedStatement) (first second : List PlacedTransmission) (count : ℕ)
    → (one one_now two two_now : Player) (counts : BurstsMade) (old mid new : Option (List ℕ))
    → ((line : SlotFrames) → IsLineOfSlot own statements 0 first line
    → IsLineOfSlot one.own one.statements.now one.from (still_placed one) line)
    → ((line : SlotFrames) → IsLineOfSlot own statements 0 second line
    → IsLineOfSlot two.own two.statements.now two.from (still_placed two) line)
    → Appends old mid (head_octets uplink_magic) → WritesFrames one one_now two two_now count counts mid new
    → WritesRecording own statements first second count counts old new
writes_file own statements first second count one one_now two two_now counts old mid new p q head w = record {
  frames = w.frames;
  many = w.many;
  counted = w.counted;
  each = w.each;
  made = λ a b u v. (w.made a b (p a u) (q b v)).0;
  written = Appends-trans old mid new (head_octets uplink_magic) (frames_octets w.frames) head w.written;
}

-- the head is torn
pub tears_head : (own : ℕ) (statements : List NumberedStatement) (first second : List PlacedTransmission)
    → (old new : Option (List ℕ))
    → Tears old new (head_octets uplink_magic) → TearsRecording own statements first second old new
tears_head own statements first second old new torn = record {
  frames = [];
  each = tt;
  made = λ a b u v. tt;
  torn = Tears_more old new (head_octets uplink_magic) [] torn;
}

-- a frame behind it is torn
pub tears_file : (own : ℕ) (statements : List NumberedStatement) (first second : List PlacedTransmission) (one two : Player)
    → (old mid new : Option (List ℕ))
    → ((line : SlotFrames) → IsLineOfSlot own statements 0 first line
    → IsLineOfSlot one.own one.statements.now one.from (still_placed one) line)
    → ((line : SlotFrames) → IsLineOfSlot own statements 0 second line
    → IsLineOfSlot two.own two.statements.now two.from (still_placed two) line)
    → Appends old mid (head_octets uplink_magic) → TearsFrames one two mid new → TearsRecording own statements first second old new
tears_file own statements first second one two old mid new p q head t =
    let w = t.whole in
    let slots : UplinkSlots = t.part.one ∷ t.part.two ∷ [] in
    let magic : List ℕ = head_octets uplink_magic in
    let many = w.many in
    let octets : (magic ++ frames_octets w.frames) ++ frame_octets slots ≡ magic ++ frames_octets (w.frames ++ slots ∷ []) =
    append_assoc magic (frames_octets w.frames) (frame_octets slots)
    ∙ ap (λ (l : List ℕ). magic ++ l) (ap (λ (l : List ℕ). frames_octets w.frames ++ l) (sym (append-nil (frame_octets slots)))
    ∙ sym (flat_map-append frame_octets w.frames (slots ∷ []))) in
    record {
      frames = w.frames ++ slots ∷ [];
      each = all_append IsFrame w.frames (slots ∷ []) w.each (t.part.is, tt);
      made = λ a b u v.
          let so_far = w.made a b (p a u) (q b v) in
          let x = stands_more t.first_now t.first_next t.count t.part.one a t.first_ready.front.begins t.part.first_is so_far.1 in
          let y = stands_more t.second_now t.second_next t.count t.part.two b t.second_ready.front.begins t.part.second_is
          so_far.2 in
          made_more 0 a b w.frames slots t.count (omega (arith, many)) so_far.0 (t.part.one, t.part.two, refl, x.0, y.0);
      torn = subst (Tears old new) octets
          (Tears_after old t.middle new (magic ++ frames_octets w.frames) (frame_octets slots)
          (Appends-trans old mid t.middle magic (frames_octets w.frames) head w.written) t.part.torn);
    }

-- where there is an error, this holds
pub at_error : {T E : Type 0} (r : Result T E) (P : Type 0) → P → OnErr r P
at_error (Ok x) P p = tt
at_error (Err e) P p = p

-- a player in front of the first frame has the line of all that is placed
pub as_placed : (p : Player) (own : ℕ) (statements : List NumberedStatement) (placed : List PlacedTransmission) → p.own ≡ own
    → p.statements.now ≡ statements → still_placed p ≡ placed → p.from ≡ 0 → (line : SlotFrames)
    → IsLineOfSlot own statements 0 placed line → IsLineOfSlot p.own p.statements.now p.from (still_placed p) line
as_placed p own statements placed a b c d line l =
    subst (λ (x : ℕ). IsLineOfSlot x p.statements.now p.from (still_placed p) line) (sym a)
    (subst (λ (x : List NumberedStatement). IsLineOfSlot own x p.from (still_placed p) line) (sym b)
    (subst (λ (x : ℕ). IsLineOfSlot own statements x (still_placed p) line) (sym d)
    (subst (λ (x : List PlacedTransmission). IsLineOfSlot own statements 0 x line) (sym c) l)))
