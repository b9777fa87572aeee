-- What a transmission says of the slots that are sent of it.
use Rattle.std.specs.Prelude.{◌≡◌, ℕ}
use Rattle.std.specs.List.{AllZip, AllByRecursion}
use Rattle.dmr_burst.specs.declared.emb.Emb.{Emb}
use Rattle.dmr_hearing.specs.Damage.{IsSentSlot}
use Rattle.dmr_hearing.specs.Slots.{SentSlot, Voice, CutOff}
use Rattle.dmr_making.specs.Calls.{slots_sent}
use Rattle.dmr_making.specs.Sends.{Transmitted}

-- A slot is seen as what is sent in it, but for a voice burst in front of the first A of a late call, of which a transmission says
-- that a burst is there.
abbrev pub IsSeenAs : SentSlot → SentSlot → Type 0
IsSeenAs CutOff slot = (emb : Emb) × (embedded : ℕ) × (slot ≡ Voice emb embedded)
IsSeenAs said slot = slot ≡ said

-- The slots that are sent are those of the transmission, each may be sent with this colour code, and there are as many.
pub record AreSeenAs (colour : ℕ) (sent : Transmitted) : Type 0 where
  pub seen : AllZip IsSeenAs (slots_sent colour sent.transmission) sent.slots
  pub may_be_sent : AllByRecursion (IsSentSlot colour) sent.slots
