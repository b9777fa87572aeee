-- What a slot of the gateway sends.
use Rattle.std.specs.Prelude.{ℕ}
use Rattle.dmr_arq.specs.declared.sender.GateBurst.{GateBurst}
use Rattle.dmr_gateway.specs.declared.answers.Due.{Due}

-- A burst of a slot, by what it is of.
pub data SlotBurst : Type 0 where
  -- an answer: its burst with this number, from 0, which are its header and the blocks of its flags
  Answer : Due → ℕ → SlotBurst
  -- a try
  Try : GateBurst → SlotBurst
