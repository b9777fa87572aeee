-- The transmissions that a slot sends in a channel of the own colour code, each with the silences behind it.
use Rattle.std.specs.Prelude.{◌≡◌, ℕ, zero, suc, ◌+◌, ◌-◌, List, [], ◌∷◌, ◌++◌, Option, Some, None}
use Rattle.dmr_hearing.specs.Slots.{SentSlot, Silent, Data, VoiceSync, Voice, ForeignVoice, ForeignData, CutOff}
use Rattle.dmr_making.specs.Playing.{packet_in, transmit_in}
use Rattle.dmr_making.specs.Senders.{colour_of}
use Rattle.dmr_making.specs.Sends.{Transmitted, SendsSaid}
use Rattle.dmr_making.specs.declared.playing.PlacedTransmission.{PlacedTransmission}
use Rattle.dmr_planning.specs.declared.plan.Plan.{Plan}
use Rattle.dmr_script.specs.declared.statement.NumberedStatement.{NumberedStatement}
use Rattle.dmr_script.specs.declared.statement.Sender.{Sender}
use Rattle.dmr_script.specs.declared.statement.Sender.TheVariants as sender
use Rattle.dmr_script.specs.declared.statement.Transmit.{Transmit}
use Rattle.dmr_voice.specs.CallMeaning.{Foreign, DataBurst, Absence, VoiceBurst, SyncBurst}
use Rattle.dmr_voice.specs.CallMeaning.{Transmission, Controls, ForeignParts}

-- 1. One transmission.

-- The parts that another colour code sends in these slots. A voice sync waits for the EMB behind it, over so many silences.
abbrev pub parts_from : Option ℕ → List SentSlot → List Foreign
parts_from waits [] = []
parts_from None (Silent ∷ slots) = Absence ∷ parts_from None slots
parts_from (Some silences) (Silent ∷ slots) = parts_from (Some (suc silences)) slots
parts_from None (Voice emb embedded ∷ slots) = VoiceBurst emb ∷ parts_from None slots
parts_from (Some silences) (Voice emb embedded ∷ slots) = SyncBurst silences emb ∷ parts_from None slots
parts_from waits (VoiceSync ∷ slots) = parts_from (Some 0) slots
parts_from waits (Data kind information lc ∷ slots) = DataBurst ∷ parts_from None slots
parts_from waits (ForeignVoice emb ∷ slots) = parts_from waits slots
parts_from waits (ForeignData ∷ slots) = parts_from waits slots
parts_from waits (CutOff ∷ slots) = parts_from waits slots

-- Which transmission of the channel a transmission is: the own station's is itself, and of another colour code its parts are heard.
abbrev pub heard_by : Sender → Transmitted → Transmission
heard_by sender.Own sent = sent.transmission
heard_by (sender.Foreign colour) sent = ForeignParts (parts_from None sent.slots)

-- A placed transmission of a script is this one of the channel.
pub record IsInChannel (own : ℕ) (statements : List NumberedStatement) (p : PlacedTransmission) (t : Transmission) : Type 0 where
  pub transmit : Transmit
  pub there : transmit_in statements p.statement ≡ Some transmit
  pub sent : Transmitted
  pub sends : SendsSaid (colour_of own transmit.sender) (packet_in statements p.packet) transmit.transmission sent
  pub is : t ≡ heard_by transmit.sender sent

-- 2. A slot.

-- A transmission with so many silences behind it stands in front of others. Data bursts with none between them are one row, and so
-- are the parts of another colour code.
abbrev pub in_front_of : Transmission → ℕ → List (Transmission × ℕ) → List (Transmission × ℕ)
in_front_of (Controls some) zero ((Controls more, silences) ∷ list) = (Controls (some ++ more), silences) ∷ list
in_front_of (ForeignParts some) zero ((ForeignParts more, silences) ∷ list) = (ForeignParts (some ++ more), silences) ∷ list
in_front_of t silences list = (t, silences) ∷ list

-- The transmissions that are placed in a slot of so many frames are these, each with the silences up to the next. Behind the last
-- stand those up to the end of the recording, and six more, with which anything ends.
abbrev pub IsListOf : ℕ → List NumberedStatement → ℕ → List PlacedTransmission → List (Transmission × ℕ) → Type 0
IsListOf own statements frames [] list = list ≡ []
IsListOf own statements frames (p ∷ []) list =
    (t : Transmission) × IsInChannel own statements p t × (list ≡ (t, frames - (p.start + p.length) + 6) ∷ [])
IsListOf own statements frames (p ∷ q ∷ placed) list =
    (t : Transmission) × (rest : List (Transmission × ℕ)) × IsInChannel own statements p t
    × IsListOf own statements frames (q ∷ placed) rest × (list ≡ in_front_of t (q.start - (p.start + p.length)) rest)

-- how many silences stand in front of the first of them: all frames of a slot in which none is
abbrev pub silences_in_front : ℕ → List PlacedTransmission → ℕ
silences_in_front frames [] = frames
silences_in_front frames (p ∷ placed) = p.start

-- 3. Both slots.

-- The transmissions of both slots of a plan are these.
pub record AreListsOf (p : Plan) (first second : List (Transmission × ℕ)) : Type 0 where
  pub first_slot : IsListOf p.own p.statements.now p.frames p.first.items first
  pub second_slot : IsListOf p.own p.statements.now p.frames p.second.items second

-- There are such lists.
pub record HasLists (p : Plan) : Type 0 where
  pub first : List (Transmission × ℕ)
  pub second : List (Transmission × ℕ)
  pub are : AreListsOf p first second
