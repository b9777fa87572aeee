-- What is written to both places of a frame.
use Rattle.std.proofs.Common.{◌≡◌, ◌+◌, ◌∷◌, [], List, ℕ, Option, length, map, refl, set, slice_index_or, arith, sym, subst}
use Rattle.std.proofs.lemmas.List.Elements.{All-nil, All-cons}
use Rattle.std.specs.Prelude.{All}
use Rattle.dmr_burst.specs.declared.burst.Burst.{Burst}
use Rattle.dmr_slot.specs.declared.line.SlotOut.{SlotOut}
use Rattle.dmr_record.specs.Downlink.{Sent}
use Rattle.dmr_station.specs.Sent.{AreSentAs, IsSentAs}
use Rattle.dmr_station.specs.StationRules.{marked, marked_slots}
use Rattle.dmr_station.specs.declared.announcing.Message.{Message}

-- both places of two set are all of them
pub both_set : {A : Type 0} (l : List A) (a b : A) → length l ≡ 2 → set (set l 0 a) 1 b ≡ a ∷ b ∷ []
both_set (x ∷ y ∷ []) a b e = refl
both_set [] a b e = absurd (omega (arith, e))
both_set (x ∷ []) a b e = absurd (omega (arith, e))
both_set (x ∷ y ∷ z ∷ l) a b e = absurd (omega (arith, e))

-- what holds of both, holds of all of them
pub both_hold : {A : Type 0} (P : A → Type 0) (l : List A) (a b : A) → length l ≡ 2 → P a → P b → All P (set (set l 0 a) 1 b)
both_hold P l a b e p q =
    subst (All P) (sym (both_set l a b e)) (All-cons P a (b ∷ []) p (All-cons P b [] q (All-nil P)))

-- what both slots send is what the frame sends
pub both_sent : {X : Type 0} (copied : X → Option Burst) (place : ℕ) (message : Message) (outs : List SlotOut) (bursts : List X)
    (a b : Sent) (first second : SlotOut) (one two : X) → length outs ≡ 2 → length bursts ≡ 2
    → first ≡ slice_index_or outs 0 first → second ≡ slice_index_or outs 1 second
    → one ≡ slice_index_or bursts 0 one → two ≡ slice_index_or bursts 1 two
    → IsSentAs place (marked message first (copied one)) a → IsSentAs (place + 1) (marked message second (copied two)) b
    → AreSentAs place (marked_slots message outs (map copied bursts)) (a ∷ b ∷ [])
both_sent copied place message (x ∷ y ∷ []) (u ∷ v ∷ []) a b first second one two p q f s o t sent sent-2 = (
  rw (f, o) at sent,
  (rw (s, t) at sent-2, tt),
)
both_sent copied place message [] bursts a b first second one two p q f s o t sent sent-2 = absurd (omega (arith, p))
both_sent copied place message (x ∷ []) bursts a b first second one two p q f s o t sent sent-2 = absurd (omega (arith, p))
both_sent copied place message (x ∷ y ∷ z ∷ l) bursts a b first second one two p q f s o t sent sent-2 =
    absurd (omega (arith, p))
both_sent copied place message (x ∷ y ∷ []) [] a b first second one two p q f s o t sent sent-2 = absurd (omega (arith, q))
both_sent copied place message (x ∷ y ∷ []) (u ∷ []) a b first second one two p q f s o t sent sent-2 =
    absurd (omega (arith, q))
both_sent copied place message (x ∷ y ∷ []) (u ∷ v ∷ w ∷ l) a b first second one two p q f s o t sent sent-2 =
    absurd (omega (arith, q))
