-- What a place gives to a slot of the gateway.
use Rattle.std.specs.Prelude.{Option}
use Rattle.dmr_arq.specs.declared.received.Joined.{Joined}
use Rattle.dmr_gateway.specs.declared.answers.Due.{Due}
use Rattle.dmr_gateway.specs.declared.answers.HeardAnswer.{HeardAnswer}

-- An answer that is heard, a packet that is completed, and an answer that is due.
pub record InboxOut : Type 0 where
  pub answer : Option HeardAnswer
  pub delivered : Option Joined
  pub due : Option Due
