-- What a slot may be written as at a rate, in 10,000.
use Rattle.std.specs.Prelude.{◌≡◌, ◌≢◌, ℕ, ◌≤◌, List, [], ◌∷◌, Some, None, IfSome, length, slice_index_or}
use Rattle.dmr_record.specs.Uplink.{UplinkSlot, UplinkSlots}

-- A burst is left out, or its bits are turned. Where none is to be left out it stays, and where all are, it doesn't. Where no bit
-- is to be turned, it stays octet for octet.
pub record IsBurstAtRate (errors loss : ℕ) (burst : List ℕ) (out : UplinkSlot) : Type 0 where
  pub kept : loss ≡ 0 → out ≢ None
  pub lost : 10000 ≤ loss → out ≡ None
  pub whole : IfSome out (λ damaged. length damaged ≡ 33)
  pub same : errors ≡ 0 → IfSome out (λ damaged. damaged ≡ burst)

-- Silence stays silence.
abbrev pub IsSlotAtRate : (errors loss : ℕ) → UplinkSlot → UplinkSlot → Type 0
IsSlotAtRate errors loss None out = out ≡ None
IsSlotAtRate errors loss (Some burst) out = IsBurstAtRate errors loss burst out

-- both slots of a frame
pub record IsFrameAtRate (errors loss : ℕ) (frame out : UplinkSlots) : Type 0 where
  pub first : IsSlotAtRate errors loss (slice_index_or frame 0 None) (slice_index_or out 0 None)
  pub second : IsSlotAtRate errors loss (slice_index_or frame 1 None) (slice_index_or out 1 None)

-- frame by frame
abbrev pub AreAtRate : (errors loss : ℕ) → (frames outs : List UplinkSlots) → Type 0
AreAtRate errors loss [] [] = Unit {0}
AreAtRate errors loss (frame ∷ frames) (out ∷ outs) = IsFrameAtRate errors loss frame out × AreAtRate errors loss frames outs
AreAtRate errors loss [] (out ∷ outs) = ⊥
AreAtRate errors loss (frame ∷ frames) [] = ⊥
