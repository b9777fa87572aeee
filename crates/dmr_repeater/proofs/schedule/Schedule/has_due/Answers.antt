use Rattle.std.proofs.Common.{◌≡◌, Bool, true, false, refl}
use Rattle.std.specs.Prelude.{not}
use Rattle.dmr_repeater.proofs.schedule.Schedule.has_due.Goals as goal

is_false : (b : Bool) → not b ≡ true → b ≡ false
is_false true e = (cc)
is_false false e = refl

pub returns-clause-due : goal.returns-clause-due
returns-clause-due g c e = c.is_past.ensures.due (is_false c.is_past.result e) c.in_default.ensures.ready
