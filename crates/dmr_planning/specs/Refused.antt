-- Why there is no plan of a script.
use Rattle.std.specs.Prelude.{◌≡◌, ◌⊎◌, Bool, length, Some, None, Err}
use Rattle.dmr_planning.specs.Planning.{ArePlanned, IsLineUnplanned, Planned, told_frames, own_colour, sent_frames}
use Rattle.dmr_script.specs.declared.fault.RefusedLine.{RefusedLine}
use Rattle.dmr_script.specs.declared.script.Script.{Script}

-- All statements that were read are planned.
abbrev pub AreAllPlanned : Script → Bool → Planned → Type 0
AreAllPlanned script taken p =
    ArePlanned script.statements.items (own_colour script.statements.items) taken (length script.statements.items) p

-- A line shows that there is no plan: it can't be planned, or it was refused when the script was read, or behind all of them it
-- tells too few frames.
abbrev pub IsPlanRefused : Script → Bool → RefusedLine → Type 0
IsPlanRefused script taken refused =
    IsLineUnplanned script.statements.items (own_colour script.statements.items) taken refused
    ⊎ ((planned : Planned) × AreAllPlanned script taken planned × (script.refused ≡ Some refused))
    ⊎ ((planned : Planned) × AreAllPlanned script taken planned × (script.refused ≡ None)
    × (told_frames planned.told (sent_frames planned) ≡ Err refused))
