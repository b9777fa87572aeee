-- What holds of each transmission that is placed.
use Rattle.std.proofs.Common.{◌≡◌, ℕ, List, Option, Some}
use Rattle.dmr_making.specs.Playing.{packet_in, transmit_in}
use Rattle.dmr_making.specs.Senders.{IsSendable}
use Rattle.dmr_making.specs.declared.playing.PlacedTransmission.{PlacedTransmission}
use Rattle.dmr_making_laws.proofs.OtherColours.{IsOtherThan}
use Rattle.dmr_planning.specs.Counting.{slot_count}
use Rattle.dmr_script.specs.Fits.{FitsTransmit}
use Rattle.dmr_script.specs.declared.packet.PacketTry.{PacketTry}
use Rattle.dmr_script.specs.declared.statement.NumberedStatement.{NumberedStatement}
use Rattle.dmr_script.specs.declared.statement.Transmit.{Transmit}

-- A transmission fits, may be sent, has another colour code or is the own station's, and has as many slots as are counted.
pub record IsWellSaid (own : ℕ) (last : Option PacketTry) (p : PlacedTransmission) (t : Transmit) : Type 0 where
  pub fits : FitsTransmit t
  pub sendable : IsSendable last t.transmission
  pub other : IsOtherThan own t.sender
  pub count : p.length ≡ slot_count t.transmission last

-- whichever is placed
abbrev pub IsWellPlaced : ℕ → List NumberedStatement → PlacedTransmission → Type 0
IsWellPlaced own all p =
    (t : Transmit) → transmit_in all p.statement ≡ Some t → IsWellSaid own (packet_in all p.packet) p t
