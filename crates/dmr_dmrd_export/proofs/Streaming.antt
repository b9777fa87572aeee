-- Slots are streamed one after another, each four frames behind it.
use Rattle.std.proofs.Common.{◌≡◌, ◌⊎◌, inl, inr, ℕ, ◌≤◌, ◌<◌, List, [], ◌∷◌, ◌++◌, length, get_or, replicate, take, drop}
use Rattle.std.proofs.Common.{Option, None}
use Rattle.std.proofs.Common.{option_to_list, refl, sym, ap, ◌∙◌, subst, arith, append_assoc, append-nil}
use Rattle.std.proofs.lemmas.List.{get_or_append_left, length-append, take_at, drop_at}
use Rattle.std.proofs.Math.Seq.{get_or-append_seam}
use Rattle.dmr_link.specs.declared.full_lc.FullLc.{FullLc}
use Rattle.dmr_dmrd_export.specs.Deciding.{AreDecided, AreMoreDecided, nothing_exported}
use Rattle.dmr_dmrd_export.specs.Repeats.{carried_with}
use Rattle.dmr_dmrd_export.specs.Streams.{AreStreamed, IsSlotStreamed, carried_behind, no_streams}
use Rattle.dmr_dmrd_export.specs.declared.burst.RepeatedBurst.{RepeatedBurst}
use Rattle.dmr_dmrd_export.specs.declared.packet.BurstPacket.{BurstPacket}
use Rattle.dmr_dmrd_export.specs.declared.state.ExportState.{ExportState}
use Rattle.dmr_dmrd_export.specs.declared.streams.BothStreams.{BothStreams}

-- 1. What the four frames behind a slot carry.

-- a slot more behind eight changes nothing
carried_same : (slots : List (Option RepeatedBurst)) (newest : Option RepeatedBurst) → 8 ≤ length slots
    → carried_behind (slots ++ newest ∷ []) ≡ carried_behind slots
carried_same slots newest long = ap carried_with (get_or_append_left slots (newest ∷ []) None 7 (omega arith))

-- the eighth is the one that counts
carried_last : (slots : List (Option RepeatedBurst)) (newest : Option RepeatedBurst) → length slots ≡ 7
    → carried_behind (slots ++ newest ∷ []) ≡ carried_with newest
carried_last slots newest seven =
    ap carried_with (subst (λ (n : ℕ). get_or (slots ++ newest ∷ []) n None ≡ newest) seven
    (get_or-append_seam slots newest [] None))

-- 2. A slot more is decided.

regrouped : (decided : List (Option RepeatedBurst)) (oldest newest : Option RepeatedBurst) (rest : List (Option RepeatedBurst))
    → (decided ++ oldest ∷ []) ++ (rest ++ newest ∷ []) ≡ (decided ++ oldest ∷ rest) ++ newest ∷ []
regrouped decided oldest newest rest =
    append_assoc decided (oldest ∷ []) (rest ++ newest ∷ []) ∙ sym (append_assoc decided (oldest ∷ rest) (newest ∷ []))

streamed_more : (decided : List (Option RepeatedBurst)) (oldest newest : Option RepeatedBurst)
    (rest : List (Option RepeatedBurst)) (packets : List BurstPacket) (one : Option BurstPacket) (turn mid end : BothStreams)
    → length rest ≡ 7 → AreStreamed turn decided (oldest ∷ rest) packets mid
    → IsSlotStreamed mid oldest (carried_with newest) one end
    → AreStreamed turn (decided ++ oldest ∷ []) (rest ++ newest ∷ []) (packets ++ option_to_list one) end
streamed_more [] oldest newest rest packets one turn mid end seven (none, same) last =
    let here = subst (λ (s : BothStreams). IsSlotStreamed s oldest (carried_with newest) one end) same last in (
      one,
      end,
      [],
      subst (λ (lc : Option FullLc). IsSlotStreamed turn oldest lc one end) (sym (carried_last rest newest seven)) here,
      ap (λ (l : List BurstPacket). l ++ option_to_list one) none ∙ sym (append-nil (option_to_list one)),
      (refl, refl),
    )
streamed_more (burst ∷ decided) oldest newest rest packets one turn mid end seven (first, next, more, step, split, later) last =
    let long = length-append decided (oldest ∷ rest) in
    let same : carried_behind ((decided ++ oldest ∷ []) ++ (rest ++ newest ∷ [])) ≡ carried_behind (decided ++ oldest ∷ rest) =
    ap carried_behind (regrouped decided oldest newest rest)
    ∙ carried_same (decided ++ oldest ∷ rest) newest (omega (arith, long, seven)) in (
      first,
      next,
      more ++ option_to_list one,
      subst (λ (lc : Option FullLc). IsSlotStreamed turn burst lc first next) (sym same) step,
      ap (λ (l : List BurstPacket). l ++ option_to_list one) split
          ∙ append_assoc (option_to_list first) more (option_to_list one),
      streamed_more decided oldest newest rest more one next mid end seven later last,
    )

-- 3. What is decided goes on.

-- nothing is decided before anything came
pub none_decided : AreDecided [] [] nothing_exported
none_decided = record { decided = []; split = refl; few = omega arith; full = inl refl; streamed = (refl, refl) }

-- a slot more waits, where eight don't
pub waits_more : (before after : ExportState) (newest : Option RepeatedBurst) → length before.waiting < 8
    → after.waiting ≡ before.waiting ++ newest ∷ [] → after.streams ≡ before.streams
    → AreMoreDecided before (newest ∷ []) [] after
waits_more before after newest few waits same = record {
  go_on = λ came packets d.
      let none : d.decided ≡ [] = elim d.full [ inl none ↦ none | inr eight ↦ absurd (omega (arith, few, eight)) ] in
      let all : came ≡ before.waiting = d.split ∙ ap (λ (l : List (Option RepeatedBurst)). l ++ before.waiting) none in
      let streamed = subst (λ (l : List (Option RepeatedBurst)). AreStreamed no_streams l before.waiting packets before.streams)
      none d.streamed in
      let long = length-append before.waiting (newest ∷ []) in
      let waiting = ap length waits in
      record {
        decided = [];
        split = ap (λ (l : List (Option RepeatedBurst)). l ++ newest ∷ []) all ∙ sym waits;
        few = omega (arith, few, long, waiting);
        full = inl refl;
        streamed = (append-nil packets ∙ streamed.0, same ∙ streamed.1);
      };
}

-- it is decided on the oldest of eight
pub decides_more : (before after : ExportState) (oldest newest : Option RepeatedBurst) (rest : List (Option RepeatedBurst))
    (one : Option BurstPacket) → before.waiting ≡ oldest ∷ rest → length rest ≡ 7 → after.waiting ≡ rest ++ newest ∷ []
    → IsSlotStreamed before.streams oldest (carried_with newest) one after.streams
    → AreMoreDecided before (newest ∷ []) (option_to_list one) after
decides_more before after oldest newest rest one front seven waits streamed = record {
  go_on = λ came packets d.
      let so_far = subst (λ (l : List (Option RepeatedBurst)). AreStreamed no_streams d.decided l packets before.streams) front
      d.streamed in
      let more = streamed_more d.decided oldest newest rest packets one no_streams before.streams after.streams seven so_far
      streamed in
      let all : came ++ newest ∷ [] ≡ (d.decided ++ oldest ∷ rest) ++ newest ∷ [] =
      ap (λ (l : List (Option RepeatedBurst)). l ++ newest ∷ []) (d.split
      ∙ ap (λ (l : List (Option RepeatedBurst)). d.decided ++ l) front) in
      let long = length-append rest (newest ∷ []) in
      let waiting = ap length waits in
      let eight : length after.waiting ≡ 8 = omega (arith, seven, long, waiting) in
      record {
        decided = d.decided ++ oldest ∷ [];
        split = all ∙ sym (regrouped d.decided oldest newest rest)
            ∙ ap (λ (l : List (Option RepeatedBurst)). (d.decided ++ oldest ∷ []) ++ l) (sym waits);
        few = omega (arith, eight);
        full = inr eight;
        streamed = subst (λ (l : List (Option RepeatedBurst)). AreStreamed no_streams (d.decided ++ oldest ∷ []) l
            (packets ++ option_to_list one) after.streams) (sym waits) more;
      };
}

-- where nothing came, nothing more is decided
pub more_none : (state : ExportState) → AreMoreDecided state [] [] state
more_none state = record {
  go_on = λ came packets d.
      subst (λ (l : List (Option RepeatedBurst)). AreDecided l (packets ++ []) state) (sym (append-nil came))
      (subst (λ (l : List BurstPacket). AreDecided came l state) (sym (append-nil packets)) d);
}

-- what is decided in two steps, one behind the other
pub more_then : (a b c : ExportState) (xs ys : List (Option RepeatedBurst)) (ps qs : List BurstPacket)
    → AreMoreDecided a xs ps b → AreMoreDecided b ys qs c → AreMoreDecided a (xs ++ ys) (ps ++ qs) c
more_then a b c xs ys ps qs first second = record {
  go_on = λ came packets d.
      subst (λ (l : List (Option RepeatedBurst)). AreDecided l (packets ++ (ps ++ qs)) c) (append_assoc came xs ys)
      (subst (λ (l : List BurstPacket). AreDecided ((came ++ xs) ++ ys) l c) (append_assoc packets ps qs)
      (second.go_on (came ++ xs) (packets ++ ps) (first.go_on came packets d)));
}

-- 4. All is decided where four frames of silence follow.

decided_long : (bursts decided waiting : List (Option RepeatedBurst)) → bursts ++ replicate 8 None ≡ decided ++ waiting
    → length waiting ≤ 8 → (decided ≡ []) ⊎ (length waiting ≡ 8) → length decided ≡ length bursts
decided_long bursts decided waiting split few (inl none) =
    let all = ap length split in
    let no = ap length none in
    omega (arith, all, no, few, length-append bursts (replicate 8 None), length-append decided waiting)
decided_long bursts decided waiting split few (inr eight) =
    let all = ap length split in
    omega (arith, all, eight, length-append bursts (replicate 8 None), length-append decided waiting)

-- where eight slots of silence came behind some bursts, all of these are decided
pub all_decided : (bursts : List (Option RepeatedBurst)) (packets : List BurstPacket) (state : ExportState)
    → AreDecided (bursts ++ replicate 8 None) packets state
    → AreStreamed no_streams bursts (replicate 8 None) packets state.streams
all_decided bursts packets state d =
    let long = decided_long bursts d.decided state.waiting d.split d.few d.full in
    let same : d.decided ≡ bursts =
    sym (take_at d.decided state.waiting (length bursts) long)
    ∙ ap (take (length bursts)) (sym d.split)
    ∙ take_at bursts (replicate 8 None) (length bursts) refl in
    let rest : state.waiting ≡ replicate 8 None =
    sym (drop_at d.decided state.waiting (length bursts) long)
    ∙ ap (drop (length bursts)) (sym d.split)
    ∙ drop_at bursts (replicate 8 None) (length bursts) refl in
    subst (λ (l : List (Option RepeatedBurst)). AreStreamed no_streams l (replicate 8 None) packets state.streams) same
    (subst (λ (l : List (Option RepeatedBurst)). AreStreamed no_streams d.decided l packets state.streams) rest d.streamed)
