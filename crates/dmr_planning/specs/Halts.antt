-- Why planning stops at a statement.
use Rattle.dmr_planning.specs.declared.halt.Halt.{Halt}
use Rattle.dmr_planning.specs.declared.halt.Halt.TheVariants as halt
use Rattle.dmr_script.specs.declared.fault.Refusal.{Refusal}

-- where the statement is refused, this holds of why
abbrev pub IfHaltRefused : Halt → (Refusal → Type 0) → Type 0
IfHaltRefused (halt.Refused refusal) P = P refusal
IfHaltRefused halt.Memory P = Unit {0}
