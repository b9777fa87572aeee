-- Which settings a run takes.
use Rattle.std.specs.Prelude.{ℕ, ◌^◌, Option, Some, None, nat_le, nat_lt, if◌then◌else◌}
use Rattle.dmr_settings.specs.declared.config.ConfigFault.{ConfigFault}
use Rattle.dmr_settings.specs.declared.config.ConfigFault.TheVariants.{Colour, Llid, Hang, Queue}

-- the first setting that is out of its range, where there is one
abbrev pub setting_fault : (colour llid call_hang channel_hang queue : ℕ) → Option ConfigFault
setting_fault colour llid call_hang channel_hang queue =
    if nat_le 16 colour then Some Colour else
    (if nat_lt llid 1 then Some Llid else
    (if nat_le (2 ^ 24) llid then Some Llid else
    (if nat_lt channel_hang call_hang then Some Hang else
    (if nat_lt queue 1 then Some Queue else
    (if nat_lt 64 queue then Some Queue else None)))))
