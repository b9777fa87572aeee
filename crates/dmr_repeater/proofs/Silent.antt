-- Silent frames, one after the other.
use Rattle.std.proofs.Common.{◌≡◌, ℕ, zero, suc, ◌+◌, ◌*◌, ◌<◌, ◌≤◌, List, [], ◌∷◌, ◌++◌, None, replicate}
use Rattle.std.proofs.Common.{refl, sym, ap, ◌∙◌, subst}
use Rattle.std.proofs.Common.{◌⊎◌, inl, inr, arith, append-nil, append_assoc}
use Rattle.std.proofs.lemmas.List.{length-replicate, replicate_more}
use Rattle.std.proofs.lemmas.List.Concat.{flat_map-append}
use Rattle.std.specs.List.{AllByRecursion}
use Rattle.std.specs.Io.KnownBytes.{Appends, Consumes}
use Rattle.std.proofs.KnownBytes.{Appends-nil, Consumes-nil, Consumes-trans}
use Rattle.dmr_record.specs.Downlink.{downlink_octets}
use Rattle.dmr_record.specs.Silence.{silence_octets}
use Rattle.dmr_record.specs.Uplink.{UplinkSlots, IsFrame, frame_octets, frames_octets}
use Rattle.dmr_station.specs.DownlinkRules.{silent_frame}
use Rattle.dmr_station.proofs.Exchanges.{all_offered, offer_count}
use Rattle.dmr_station.specs.Station.{State, AreExchanged, records_of}
use Rattle.dmr_repeater.specs.Files.{KnownOctets}
use Rattle.dmr_repeater.specs.Frames.{ReadsFrames, SendsSilence, moment}
use Rattle.dmr_repeater.specs.Schedule.{ReadingProgress, AreOfferedInTurn, IsPast, OffersDue}
use Rattle.dmr_repeater.proofs.Records.{All-append, Gives-same}
use Rattle.dmr_repeater.proofs.Transcripts.{Reads-none, Sends-none, lengths, receipts_octets}

-- 1. No record is due.

-- Where no more is due in a frame, none is in an earlier one.
pub past_before : (f g : ℕ) (p : ReadingProgress) → f ≤ g → IsPast g p → IsPast f p
past_before f g p h (inl past) = let later = past.3 in inl (past.0, past.1, past.2, omega (arith, h, later), past.4)
past_before f g p h (inr past) = inr past

-- In a frame in which none is due, none is offered,
pub none_due : (frame : ℕ) (p : ReadingProgress) (s : State) (a : KnownOctets) → OffersDue frame p p s s a a
none_due frame p s a = record {
  given = [];
  due = tt;
  gives = Gives-same p p a a refl refl refl (Consumes-nil a) (λ end. end);
  offered = refl;
}

-- nor in frames one after the other.
none_in_turn : (n f : ℕ) (p : ReadingProgress) (a : KnownOctets) → ((k : ℕ) → k < n → IsPast (f + k) p)
    → AreOfferedInTurn f (replicate n []) p p a a
none_in_turn zero f p a past = (refl, Consumes-nil a)
none_in_turn (suc n) f p a past = (
  p,
  a,
  tt,
  Gives-same p p a a refl refl refl (Consumes-nil a) (λ end. end),
  subst (λ (g : ℕ). IsPast g p) (omega arith) (past 0 (omega arith)),
  none_in_turn n (f + 1) p a (λ k less. subst (λ (g : ℕ). IsPast g p) (omega arith) (past (k + 1) (omega (arith, less)))),
)

-- 2. Their octets.

two_more : (n : ℕ) → 0 ∷ 0 ∷ silence_octets n ≡ silence_octets (suc n)
two_more n =
    let two : suc (suc (2 * n)) ≡ 2 * suc n = omega arith in
    ap (λ m. replicate m 0) two

-- in an uplink file,
uplink_silence : (n : ℕ) → frames_octets (replicate n silent_frame) ≡ silence_octets n
uplink_silence zero = refl
uplink_silence (suc n) = ap (λ l. 0 ∷ 0 ∷ l) (uplink_silence n) ∙ two_more n

-- in a downlink file,
downlink_silence : (n : ℕ) → downlink_octets (records_of (replicate n (None ∷ None ∷ []))) ≡ silence_octets n
downlink_silence zero = refl
downlink_silence (suc n) = ap (λ l. 0 ∷ 0 ∷ l) (downlink_silence n) ∙ two_more n

-- and in a received file
received_silence : (n f : ℕ) → receipts_octets f (replicate n []) ≡ []
received_silence zero f = refl
received_silence (suc n) f = received_silence n (f + 1)

-- 3. They are read and sent.

are_frames : (n : ℕ) → AllByRecursion IsFrame (replicate n silent_frame)
are_frames zero = tt
are_frames (suc n) = ((refl, (tt, (tt, tt))), are_frames n)

reads_silence : (n : ℕ) (a b : KnownOctets) → Consumes a b (silence_octets n) → ReadsFrames (replicate n silent_frame) [] a b
reads_silence n a b read = record {
  each = are_frames n;
  read = subst (Consumes a b) (sym (append-nil (frames_octets (replicate n silent_frame)) ∙ uplink_silence n)) read;
}

-- a station that exchanged frames of silence sends silence
pub sends_silence : (n : ℕ) (before after : State) (p : ReadingProgress) (a b held_old held_new : KnownOctets)
    → n ≤ 32 → IsPast (before.frames + 32) p
    → AreExchanged before (replicate n []) (replicate n silent_frame) (replicate n (None ∷ None ∷ [])) (replicate n []) after
    → Consumes a b (silence_octets n) → Appends held_old held_new (silence_octets n)
    → SendsSilence n before p a b held_old held_new after
sends_silence n before after p a b held_old held_new few past exchanged read written = record {
  reads = reads_silence n a b read;
  sends = λ outgoing received. record {
    offers = replicate n [];
    offered = none_in_turn n before.frames p outgoing
        (λ k less. past_before (before.frames + k) (before.frames + 32) p (omega (arith, less, few)) past);
    records = replicate n (None ∷ None ∷ []);
    received = replicate n [];
    exchanged = exchanged;
    written = subst (Appends held_old held_new) (sym (downlink_silence n)) written;
    receipts = subst (Appends received received) (sym (received_silence n before.frames)) (Appends-nil received);
  };
}

-- no frames are
pub sends_no_silence : (before : State) (p : ReadingProgress) (a held : KnownOctets) → SendsSilence 0 before p a a held held before
sends_no_silence before p a held = record {
  reads = Reads-none a;
  sends = λ outgoing received. Sends-none (moment before p outgoing held received);
}

-- 4. What they count.

-- as many frames
pub counted_silence : (n : ℕ) (before after : State)
    → AreExchanged before (replicate n []) (replicate n silent_frame) (replicate n (None ∷ None ∷ [])) (replicate n []) after
    → after.frames ≡ before.frames + n
counted_silence n before after exchanged =
    let all = (lengths before after (replicate n []) (replicate n silent_frame) (replicate n (None ∷ None ∷ [])) (replicate n [])
    exchanged).after in
    omega (arith, all, length-replicate n silent_frame)

-- and no datagram
pub none_offered : (n : ℕ) (before after : State)
    → AreExchanged before (replicate n []) (replicate n silent_frame) (replicate n (None ∷ None ∷ [])) (replicate n []) after
    → after.offered ≡ before.offered
none_offered n before after exchanged =
    let all = all_offered before (replicate n []) (replicate n silent_frame) (replicate n (None ∷ None ∷ [])) (replicate n [])
    after exchanged in
    omega (arith, all, none n)
  where
    none : (n : ℕ) → offer_count (replicate n []) ≡ 0
    none zero = refl
    none (suc n) = omega (arith, none n)

-- 5. Behind other frames.

-- frames that were read behind others
pub Reads-trans : (xs ys : List UplinkSlots) (a b c : KnownOctets) → ReadsFrames xs [] a b → ReadsFrames ys [] b c
    → ReadsFrames (xs ++ ys) [] a c
Reads-trans xs ys a b c first second = record {
  each = All-append IsFrame xs ys first.each second.each;
  read = subst (Consumes a c)
      (sym (append_assoc (frames_octets xs) (frames_octets ys) [])
      ∙ ap (λ l. l ++ []) (sym (flat_map-append frame_octets xs ys)))
      (Consumes-trans a b c (frames_octets xs) (frames_octets ys ++ [])
      (subst (Consumes a b) (append-nil (frames_octets xs)) first.read) second.read);
}

-- The frame that was read last stays the last behind silent ones, where it is silent.
pub last_stays : (n : ℕ) (frames given : List UplinkSlots) (last : UplinkSlots) → (n ≡ 0) ⊎ (last ≡ silent_frame)
    → silent_frame ∷ frames ≡ given ++ last ∷ []
    → silent_frame ∷ (frames ++ replicate n silent_frame) ≡ (given ++ replicate n silent_frame) ++ last ∷ []
last_stays n frames given last (inl none) split =
    subst (λ (k : ℕ). silent_frame ∷ (frames ++ replicate k silent_frame) ≡ (given ++ replicate k silent_frame) ++ last ∷ [])
    (sym none)
    (ap (λ l. silent_frame ∷ l) (append-nil frames) ∙ split ∙ ap (λ l. l ++ last ∷ []) (sym (append-nil given)))
last_stays n frames given last (inr silent) split =
    let run : List UplinkSlots = replicate n silent_frame in
    ap (λ l. l ++ run) split ∙ append_assoc given (last ∷ []) run
    ∙ ap (λ (x : UplinkSlots). given ++ x ∷ run) silent
    ∙ ap (λ l. given ++ l) (sym (replicate_more n silent_frame ∙ ap (λ (k : ℕ). replicate k silent_frame) more))
    ∙ ap (λ (x : UplinkSlots). given ++ (run ++ x ∷ [])) (sym silent)
    ∙ sym (append_assoc given run (last ∷ []))
  where
    more : n + 1 ≡ suc n
    more = omega arith

-- No more is due in the last of them.
pub past_last : (n before last : ℕ) (p : ReadingProgress) → IsPast before p
    → ((frame : ℕ) → 0 < n → before + 1 + n ≡ frame + 1 → IsPast frame p) → before + 1 + n ≡ last + 1 → IsPast last p
past_last zero before last p past behind e = let same : before ≡ last = omega (arith, e) in subst (λ (f : ℕ). IsPast f p) same past
past_last (suc n) before last p past behind e = behind last (omega arith) e
