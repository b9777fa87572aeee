-- The silences between the transmissions that a plan places in a slot.
use Rattle.std.specs.Prelude.{◌≡◌, ℕ, ◌+◌, ◌-◌, List, [], ◌∷◌, Some}
use Rattle.dmr_making.specs.Playing.{transmit_in}
use Rattle.dmr_making.specs.declared.playing.PlacedTransmission.{PlacedTransmission}
use Rattle.dmr_planning.specs.Pauses.{IsEnoughBetween}
use Rattle.dmr_script.specs.declared.statement.NumberedStatement.{NumberedStatement}
use Rattle.dmr_script.specs.declared.statement.Transmit.{Transmit}

-- Enough silences stand between one placed transmission and the next.
abbrev pub IsPausedBetween : List NumberedStatement → ℕ → PlacedTransmission → PlacedTransmission → Type 0
IsPausedBetween all own p q =
    (t next : Transmit) → transmit_in all p.statement ≡ Some t → transmit_in all q.statement ≡ Some next
    → IsEnoughBetween own t next (q.start - (p.start + p.length))

-- They stand between each of them and the next.
abbrev pub ArePausedBetween : List NumberedStatement → ℕ → List PlacedTransmission → Type 0
ArePausedBetween all own [] = Unit {0}
ArePausedBetween all own (p ∷ []) = Unit {0}
ArePausedBetween all own (p ∷ q ∷ placed) = IsPausedBetween all own p q × ArePausedBetween all own (q ∷ placed)
