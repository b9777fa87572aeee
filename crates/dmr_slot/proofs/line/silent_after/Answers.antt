use Rattle.std.proofs.Common.{◌+◌, ap, subst, sym}
use Rattle.std.specs.Prelude.{option_copied}
use Rattle.dmr_hearing.specs.declared.heard.Heard.{Heard}
use Rattle.dmr_slot.specs.LineRules.{EndsSilent, moved}
use Rattle.dmr_slot.proofs.Quiet.{ends_none, ends_more}
use Rattle.dmr_slot.proofs.line.silent_after.Goals as goal

pub returns-in-Some : goal.returns-in-Some
returns-in-Some c = record { silent = λ window heard e h. ends_none c.args.before window heard e }

pub returns-in-None : goal.returns-in-None
returns-in-None c = record {
  silent = λ window heard e h.
      subst (λ (one : Heard). EndsSilent (c.args.before + 1) (moved window one)) (sym (h (ap option_copied c.in-None.is)))
      (ends_more c.args.before window c.if-before-lt-DELAY.true e);
}
