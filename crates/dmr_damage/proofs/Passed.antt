-- Frames that were passed: given to what damages them, and those that were decided written and counted.
use Rattle.std.proofs.Common.{◌≡◌, ℕ, zero, suc, ◌+◌, ◌<◌, ◌≤◌, List, [], ◌∷◌, ◌++◌, Option, None, length, get_or, replicate}
use Rattle.std.proofs.Common.{refl, sym, ◌∙◌, ap, subst, arith, append_assoc, length-append}
use Rattle.std.specs.Prelude.{Result, Ok, Err, IfErr, OnErr}
use Rattle.std.specs.Io.KnownBytes.{Appends, Consumes}
use Rattle.std.specs.List.{AllByRecursion}
use Rattle.std.proofs.KnownBytes.{Appends-trans, Consumes-trans}
use Rattle.std.proofs.Common.{inl, inr}
use Rattle.std.proofs.lemmas.Bool.{cases_lt}
use Rattle.std.proofs.lemmas.List.{append-nil, map-append, replicate-append-replicate, flat_map_more}
use Rattle.dmr_record.proofs.Torn.{Tears_after}
use Rattle.dmr_record.specs.Devices.{Tears}
use Rattle.dmr_record.specs.Head.{head_octets, uplink_magic}
use Rattle.dmr_record.specs.Uplink.{IsFrame, UplinkSlots, frame_octets, frames_octets, slot_octets, uplink_file}
use Rattle.dmr_recording.specs.declared.fault_line.FaultLine.{FaultLine}
use Rattle.dmr_damage.specs.Counts.{counted_frame, counted_frames, damage_counts, none_damaged_yet}
use Rattle.dmr_damage.specs.Frames.{AreDamagedBy, WasGiven, rest_of, each_slot}
use Rattle.dmr_damage.specs.LimitedSlots.{fresh_memory}
use Rattle.dmr_damage.specs.Passing.{IsBehindHead, IsFaultInFrames, IsFrontTorn, ArePassed, IsPassedTorn, IsReached, IsTornBehind}
use Rattle.dmr_damage.specs.Passing.{IsWholeBehind, silence_in_both}
use Rattle.dmr_damage.specs.Recordings.{AreWritten, IfRecording, IsFaultOfRecording, IsAtFrameFault, IsDamagedWhole}
use Rattle.dmr_damage.specs.Recordings.{IsFrameFault, IsTorn}
use Rattle.dmr_damage.specs.declared.recording.DamageEnd.{DamageEnd}
use Rattle.dmr_damage.specs.declared.recording.DamageEnd.TheVariants as why
use Rattle.dmr_damage.specs.declared.recording.PassEnd.{PassEnd}
use Rattle.dmr_damage.specs.declared.recording.PassEnd.TheVariants.{End, Fault}
use Rattle.dmr_damage.specs.Settings.{Settled}
use Rattle.dmr_damage.specs.declared.counts.Damaged.{Damaged}
use Rattle.dmr_damage.specs.declared.frames.Damager.{Damager}
use Rattle.dmr_damage.specs.declared.frames.Damager.TheVariants.{Limits, Rate}
use Rattle.dmr_damage.specs.declared.settings.Damage.{Damage}
use Rattle.dmr_damage.specs.declared.settings.Damage.TheVariants.{WithinLimits, AtRate}
use Rattle.dmr_damage.proofs.Behind.{all_more, rate_as_many}
use Rattle.dmr_damage.proofs.Running.{line_ended}

-- ---- counts
nothing_more : (counts : Damaged) (frames : List UplinkSlots) → counted_frames counts frames [] ≡ counts
nothing_more counts [] = refl
nothing_more counts (f ∷ frames) = refl

-- more frames than were written count for nothing
pub counted_more : (counts : Damaged) (frames outs more : List UplinkSlots) → length outs ≤ length frames
    → counted_frames counts (frames ++ more) outs ≡ counted_frames counts frames outs
counted_more counts [] [] more h = nothing_more counts more
counted_more counts [] (o ∷ outs) more h = absurd (omega arith)
counted_more counts (f ∷ frames) [] more h = refl
counted_more counts (f ∷ frames) (o ∷ outs) more h = counted_more (counted_frame counts f o) frames outs more (omega arith)

-- one more is written
pub counted_next : (counts : Damaged) (frames outs : List UplinkSlots) (out : UplinkSlots) → length outs < length frames
    → counted_frames counts frames (outs ++ out ∷ [])
    ≡ counted_frame (counted_frames counts frames outs) (get_or frames (length outs) []) out
counted_next counts [] outs out h = absurd (omega arith)
counted_next counts (f ∷ frames) [] out h = nothing_more (counted_frame counts f out) frames
counted_next counts (f ∷ frames) (o ∷ outs) out h = counted_next (counted_frame counts f o) frames outs out (omega arith)

-- ---- files
-- the file of one more frame
pub file_more : (outs : List UplinkSlots) (out : UplinkSlots)
    → uplink_file outs ++ frame_octets out ≡ uplink_file (outs ++ out ∷ [])
file_more outs out =
    append_assoc (head_octets uplink_magic) (frames_octets outs) (frame_octets out)
    ∙ ap (λ l. head_octets uplink_magic ++ l) (flat_map_more frame_octets [] outs out)

-- the frames of a file, and one more
pub frames_more : (frames : List UplinkSlots) (frame : UplinkSlots)
    → frames_octets frames ++ frame_octets frame ≡ frames_octets (frames ++ frame ∷ [])
frames_more frames frame = flat_map_more frame_octets [] frames frame

-- a frame is its two slots, one behind the other
pub frame_split : (frame : UplinkSlots) → length frame ≡ 2
    → slot_octets (get_or frame 0 None) ++ slot_octets (get_or frame 1 None) ≡ frame_octets frame
frame_split [] e = absurd (omega arith)
frame_split (a ∷ []) e = absurd (omega arith)
frame_split (a ∷ b ∷ []) e = ap (λ l. slot_octets a ++ l) (sym (append-nil (slot_octets b)))
frame_split (a ∷ b ∷ c ∷ more) e = absurd (omega arith)

-- an error of the second write is one of both
pub second_torn : {X E : Type 0} (r : Result X E) (a b c : Option (List ℕ)) (xs ys : List ℕ) → Appends a b xs
    → OnErr r (Tears b c ys) → OnErr r (Tears a c (xs ++ ys))
second_torn (Ok x) a b c xs ys first torn = tt
second_torn (Err e) a b c xs ys first torn = Tears_after a b c xs ys first torn

-- ---- one frame
-- it waits
pub passed_waits : (damage : Damage) (old new : Damager) (counts : Damaged) (frames outs : List UplinkSlots) (frame : UplinkSlots)
    (held held' : Option (List ℕ)) → ArePassed damage old counts frames outs held held'
    → WasGiven damage new (frames ++ frame ∷ []) outs → ArePassed damage new counts (frames ++ frame ∷ []) outs held held'
passed_waits damage old new counts frames outs frame held held' is behind = record {
  behind = behind;
  whole = is.whole;
  fewer = omega (arith, is.fewer, length-append frames (frame ∷ []));
  counted = is.counted ∙ sym (counted_more none_damaged_yet frames outs (frame ∷ []) is.fewer);
  as_many = is.as_many;
  written = is.written;
}

-- one is decided
pub passed_decided : (damage : Damage) (old new : Damager) (counts counts' : Damaged) (frames outs : List UplinkSlots)
    (frame was out : UplinkSlots) (held mid held' : Option (List ℕ)) → ArePassed damage old counts frames outs held mid
    → WasGiven damage new (frames ++ frame ∷ []) (outs ++ out ∷ []) → was ≡ get_or (frames ++ frame ∷ []) (length outs) []
    → IsFrame out → counts' ≡ counted_frame counts was out → counts'.frames ≡ counts.frames + 1
    → Appends mid held' (frame_octets out) → ArePassed damage new counts' (frames ++ frame ∷ []) (outs ++ out ∷ []) held held'
passed_decided damage old new counts counts' frames outs frame was out held mid held' is behind e whole count one written = record {
  behind = behind;
  whole = all_more IsFrame outs out is.whole whole;
  fewer = omega (arith, is.fewer, length-append frames (frame ∷ []), length-append outs (out ∷ []));
  counted = count ∙ ap (λ c. counted_frame c was out) (is.counted
      ∙ sym (counted_more none_damaged_yet frames outs (frame ∷ []) is.fewer))
      ∙ ap (λ w. counted_frame (damage_counts (frames ++ frame ∷ []) outs) w out) e
      ∙ sym (counted_next none_damaged_yet (frames ++ frame ∷ []) outs out
      (omega (arith, is.fewer, length-append frames (frame ∷ []))));
  as_many = one ∙ (omega (arith, is.as_many, length-append outs (out ∷ [])));
  written = subst (Appends held held') (file_more outs out)
      (Appends-trans held mid held' (uplink_file outs) (frame_octets out) is.written written);
}

-- it isn't written whole
pub passed_torn : (damage : Damage) (old new : Damager) (counts : Damaged) (frames outs : List UplinkSlots)
    (frame out : UplinkSlots) (held mid held' : Option (List ℕ)) → ArePassed damage old counts frames outs held mid
    → WasGiven damage new (frames ++ frame ∷ []) (outs ++ out ∷ []) → Tears mid held' (frame_octets out)
    → IsPassedTorn damage new (frames ++ frame ∷ []) held held'
passed_torn damage old new counts frames outs frame out held mid held' is behind torn = record {
  outs = outs ++ out ∷ [];
  behind = behind;
  written = subst (Tears held held') (file_more outs out)
      (Tears_after held mid held' (uplink_file outs) (frame_octets out) is.written torn);
}

-- ---- the begin
pub none_passed : (damage : Damage) (damager : Damager) (counts : Damaged) (held held' : Option (List ℕ))
    → WasGiven damage damager [] [] → counts ≡ none_damaged_yet → IsBehindHead held held'
    → ArePassed damage damager counts [] [] held held'
none_passed damage damager counts held held' behind e head = record {
  behind = behind;
  whole = tt;
  fewer = omega arith;
  counted = e;
  as_many = ap (λ (c : Damaged). c.frames) e;
  written = subst (Appends held held') (sym (append-nil (head_octets uplink_magic))) head;
}

-- ---- the end
silent_slots : (number : ℕ) (silent : ℕ) → get_or silence_in_both number None ≡ None
    → each_slot number (replicate silent silence_in_both) ≡ replicate silent None
silent_slots number zero e = refl
silent_slots number (suc n) e =
    ap (λ s. s ∷ each_slot number (replicate n silence_in_both)) e ∙ ap (λ l. None ∷ l) (silent_slots number n e)

ended_slots : (number silent : ℕ) (frames : List UplinkSlots) → get_or silence_in_both number None ≡ None
    → each_slot number (frames ++ replicate silent silence_in_both) ≡ each_slot number frames ++ replicate silent None
ended_slots number silent frames e =
    map-append (λ f. get_or f number None) frames (replicate silent silence_in_both)
    ∙ ap (λ l. each_slot number frames ++ l) (silent_slots number silent e)

no_silence : (silent : ℕ) (frames : List UplinkSlots) → silent ≤ 0 → frames ++ replicate silent silence_in_both ≡ frames
no_silence zero frames h = append-nil frames
no_silence (suc n) frames h = absurd (omega arith)

-- what was decided before the end is what the frames are written as
pub ended : (damage : Damage) (damager : Damager) (silent : ℕ) (frames outs : List UplinkSlots) → silent ≤ rest_of damager
    → WasGiven damage damager (frames ++ replicate silent silence_in_both) outs → AreDamagedBy damage frames outs
ended (WithinLimits colour) (Limits lines) silent frames outs few is = (
  line_ended colour lines.waiting silent lines.first (each_slot 0 frames) (each_slot 0 outs) few
      (rw (← ended_slots 0 silent frames refl) is.first),
  line_ended colour lines.waiting silent lines.second (each_slot 1 frames) (each_slot 1 outs) few
      (rw (← ended_slots 1 silent frames refl) is.second),
)
ended (WithinLimits colour) (Rate e l f s) silent frames outs few is = absurd is
ended (AtRate errors loss) (Limits lines) silent frames outs few is = absurd is
ended (AtRate errors loss) (Rate e l f s) silent frames outs few is =
    subst (λ fs. AreDamagedBy (AtRate errors loss) fs outs) (no_silence silent frames few) is.2

-- there are as many
pub ended_as_many : (damage : Damage) (damager : Damager) (frames outs : List UplinkSlots)
    → WasGiven damage damager (frames ++ replicate (rest_of damager) silence_in_both) outs → length outs ≡ length frames
ended_as_many (WithinLimits colour) (Limits lines) frames outs is =
    omega (arith, is.count, length-append frames (replicate 5 silence_in_both), full)
  where
    nothing : lines.waiting < 5 → length outs ≡ 0
    nothing h = ap length (is.begin h)

    full : lines.waiting ≡ 5
    full =
        elim (cases_lt lines.waiting 5) [
          | inl h ↦ absurd (omega (arith, nothing h, is.count, length-append frames (replicate 5 silence_in_both), h))
          | inr h ↦ omega (arith, h, is.few)
        ]
ended_as_many (WithinLimits colour) (Rate e l f s) frames outs is = absurd is
ended_as_many (AtRate errors loss) (Limits lines) frames outs is = absurd is
ended_as_many (AtRate errors loss) (Rate e l f s) frames outs is =
    sym (rate_as_many errors loss (frames ++ []) outs is.2) ∙ ap length (append-nil frames)

-- the whole of it
pub ended_written : (settled : Settled) (damager : Damager) (counts : Damaged) (frames outs : List UplinkSlots)
    (held held' : Option (List ℕ))
    → ArePassed settled.damage damager counts (frames ++ replicate (rest_of damager) silence_in_both) outs held held'
    → AreWritten settled frames outs held held' × (counts ≡ damage_counts frames outs)
ended_written settled damager counts frames outs held held' is = (
  record {
    damaged = ended settled.damage damager (rest_of damager) frames outs (omega arith) is.behind;
    as_many = many;
    whole = is.whole;
    written = is.written;
  },
  is.counted ∙ counted_more none_damaged_yet frames outs (replicate (rest_of damager) silence_in_both) (omega (arith, many)),
)
  where
    many : length outs ≡ length frames
    many = ended_as_many settled.damage damager frames outs is.behind

-- of what was read before the end a front was written
pub front_torn : (settled : Settled) (damager : Damager) (held held' left left' : Option (List ℕ))
    → IsFrontTorn settled.damage damager held held' left left' → IsTornBehind settled left left' held held'
front_torn settled damager held held' left left' is = record {
  frames = is.frames;
  outs = is.torn.outs;
  whole = is.whole;
  part = [];
  read = subst (Consumes left left') (sym (append-nil (frames_octets is.frames))) is.read;
  damaged = ended settled.damage damager 0 is.frames is.torn.outs (omega arith)
      (subst (λ fs. WasGiven settled.damage damager fs is.torn.outs) (sym (append-nil is.frames)) is.torn.behind);
  written = is.torn.written;
}

-- at the end or at a fault, these frames were read and what is behind them
pub reached_part : (reached : PassEnd) (frames : List UplinkSlots) (left left' : Option (List ℕ))
    → IsReached reached frames left left' → (part : List ℕ) × Consumes left left' (frames_octets frames ++ part)
reached_part End frames left left' is = ([], subst (Consumes left left') (sym (append-nil (frames_octets frames))) is.0)
reached_part (Fault fault) frames left left' is = (is.0, is.1)

-- of what was read to the end a front was written
pub rest_torn : (settled : Settled) (damager : Damager) (reached : PassEnd) (silent : ℕ) (frames : List UplinkSlots)
    (held held' left left' : Option (List ℕ)) → AllByRecursion IsFrame frames → IsReached reached frames left left'
    → silent ≤ rest_of damager
    → IsPassedTorn settled.damage damager (frames ++ replicate silent silence_in_both) held held'
    → IsTornBehind settled left left' held held'
rest_torn settled damager reached silent frames held held' left left' whole is few torn =
    let read = reached_part reached frames left left' is in
    record {
      frames = frames;
      outs = torn.outs;
      whole = whole;
      part = read.0;
      read = read.1;
      damaged = ended settled.damage damager silent frames torn.outs few torn.behind;
      written = torn.written;
    }

-- one more silent frame
pub one_more_silent : (frames : List UplinkSlots) (n : ℕ)
    → (frames ++ replicate n silence_in_both) ++ silence_in_both ∷ [] ≡ frames ++ replicate (n + 1) silence_in_both
one_more_silent frames n =
    append_assoc frames (replicate n silence_in_both) (silence_in_both ∷ [])
    ∙ ap (λ l. frames ++ l) (replicate-append-replicate n 1 silence_in_both)

-- no frames are damaged in any way
pub none_damaged : (damage : Damage) → AreDamagedBy damage [] []
none_damaged (WithinLimits colour) =
    ((fresh_memory, replicate 5 None, (refl, refl)), (fresh_memory, replicate 5 None, (refl, refl)))
none_damaged (AtRate errors loss) = tt

-- ---- with the head
pub file_read : (a b c : Option (List ℕ)) (frames : List UplinkSlots) → Consumes a b (head_octets uplink_magic)
    → Consumes b c (frames_octets frames) → Consumes a c (uplink_file frames)
file_read a b c frames head rest = Consumes-trans a b c (head_octets uplink_magic) (frames_octets frames) head rest

pub part_read : (a b c : Option (List ℕ)) (frames : List UplinkSlots) (part : List ℕ) → Consumes a b (head_octets uplink_magic)
    → Consumes b c (frames_octets frames ++ part) → Consumes a c (uplink_file frames ++ part)
part_read a b c frames part head rest =
    subst (Consumes a c) (sym (append_assoc (head_octets uplink_magic) (frames_octets frames) part))
    (Consumes-trans a b c (head_octets uplink_magic) (frames_octets frames ++ part) head rest)

pub whole_with_head : (settled : Settled) (counts : Damaged) (a b c held held' : Option (List ℕ))
    → Consumes a b (head_octets uplink_magic) → IsWholeBehind settled counts b c held held'
    → IsDamagedWhole settled counts a c held held'
whole_with_head settled counts a b c held held' head is = record {
  frames = is.frames;
  outs = is.outs;
  whole = is.whole;
  read = file_read a b c is.frames head is.read;
  end = is.end;
  written = is.written;
  counted = is.counted;
}

pub fault_with_head : (settled : Settled) (fault : FaultLine) (a b c held held' : Option (List ℕ))
    → Consumes a b (head_octets uplink_magic) → IsFaultInFrames settled fault b c held held'
    → IsAtFrameFault settled fault a c held held'
fault_with_head settled fault a b c held held' head is = record {
  frames = is.frames;
  outs = is.outs;
  whole = is.whole;
  part = is.part;
  read = part_read a b c is.frames is.part head is.read;
  shown = subst (λ n. IsFrameFault (length is.frames) n fault is.part)
      (sym (length-append (head_octets uplink_magic) (frames_octets is.frames))) is.shown;
  written = is.written;
}

pub torn_with_head : (settled : Settled) (a b c held held' : Option (List ℕ)) → Consumes a b (head_octets uplink_magic)
    → IsTornBehind settled b c held held' → IsTorn settled a c held held'
torn_with_head settled a b c held held' head is = record {
  frames = is.frames;
  outs = is.outs;
  whole = is.whole;
  part = is.part;
  read = part_read a b c is.frames is.part head is.read;
  damaged = is.damaged;
  written = is.written;
}

-- a fault behind the head, however it ended
pub faults_with_head : (settled : Settled) (r : Result Damaged DamageEnd) (a b c held mid held' : Option (List ℕ))
    → Consumes a b (head_octets uplink_magic) → IsBehindHead held mid
    → IfErr r (λ e. IfRecording e (λ fault. (from : Option (List ℕ)) → IsBehindHead from mid
    → IsFaultInFrames settled fault b c from held'))
    → IfErr r (λ e. IfRecording e (λ fault. IsFaultOfRecording settled fault a c held held'))
faults_with_head settled (Ok counts) a b c held mid held' head begun is = tt
faults_with_head settled (Err (why.File fault)) a b c held mid held' head begun is =
    inr (fault_with_head settled fault a b c held held' head (is held begun))
faults_with_head settled (Err why.NotUplink) a b c held mid held' head begun is = tt
faults_with_head settled (Err why.Output) a b c held mid held' head begun is = tt
