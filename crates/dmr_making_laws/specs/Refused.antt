-- What holds of scripts that are refused.
use Rattle.std.specs.Prelude.{ℕ, ◌<◌, Bool, All, List, ◌∷◌, Option, Some}
use Rattle.dmr_making.specs.Senders.{colour_of}
use Rattle.dmr_making.specs.Sends.{SendsSaid, Transmitted}
use Rattle.dmr_making_laws.specs.Lists.{IsListOf, heard_by}
use Rattle.dmr_planning.specs.Pauses.{before_behind, begins_with_data, needed_behind}
use Rattle.dmr_planning.specs.Planning.{ArePlanned, Planned, own_colour}
use Rattle.dmr_script.specs.Fits.{FitsNumbered}
use Rattle.dmr_script.specs.Order.{MayStandBehind, said_nothing}
use Rattle.dmr_script.specs.declared.packet.PacketTry.{PacketTry}
use Rattle.dmr_script.specs.declared.script.Script.{Script}
use Rattle.dmr_script.specs.declared.statement.NumberedStatement.{NumberedStatement}
use Rattle.dmr_script.specs.declared.statement.Transmit.{Transmit}
use Rattle.dmr_voice.specs.CallMeaning.{Transmission}
use Rattle.dmr_voice.specs.WellFormed.{IsWellFormed}

-- 1. What stands in front of the line that is refused.

-- The transmissions that are planned so far have lists in both slots of a recording of so many frames, and these are well formed.
pub record HasWellFormedLists (own : ℕ) (all : List NumberedStatement) (frames : ℕ) (p : Planned) : Type 0 where
  pub first : List (Transmission × ℕ)
  pub second : List (Transmission × ℕ)
  pub first_slot : IsListOf own all frames p.first.placed first
  pub second_slot : IsListOf own all frames p.second.placed second
  pub first_well : IsWellFormed own first
  pub second_well : IsWellFormed own second

-- What the statements in front of any line plan has such lists, be that line refused or not.
abbrev pub FrontsAreWellFormed : Type 0
FrontsAreWellFormed =
    (script : Script) (taken : Bool) (at frames : ℕ) (planned : Planned) →
    All FitsNumbered script.statements.items → MayStandBehind said_nothing script.statements.items →
    ArePlanned script.statements.items (own_colour script.statements.items) taken at planned →
    HasWellFormedLists (own_colour script.statements.items) script.statements.items frames planned

-- 2. Too few silences.

-- A script that names so many silences between two transmissions is refused for them.
abbrev pub AreTooFew : ℕ → Transmit → Transmit → ℕ → Type 0
AreTooFew own t next silences =
    silences < needed_behind (before_behind own t) (Some silences) (begins_with_data next) (before_behind own next)

-- Then no list is well formed in which both stand so.
abbrev pub FewSilencesAreNoPause : Type 0
FewSilencesAreNoPause =
    (own silences behind : ℕ) (t next : Transmit) (last later : Option PacketTry) (sent following : Transmitted) →
    (list : List (Transmission × ℕ)) →
    SendsSaid (colour_of own t.sender) last t.transmission sent →
    SendsSaid (colour_of own next.sender) later next.transmission following →
    AreTooFew own t next silences →
    IsWellFormed own ((heard_by t.sender sent, silences) ∷ (heard_by next.sender following, behind) ∷ list) → ⊥
