-- What a line keeps of the call hang beside what it remembers.
use Rattle.std.specs.Prelude.{ℕ, Option, IfSome}
use Rattle.dmr_burst.specs.Burst.{IsBurst}
use Rattle.dmr_burst.specs.declared.burst.Burst.{Burst}
use Rattle.dmr_link.specs.declared.full_lc.FullLc.{FullLc}
use Rattle.dmr_slot.specs.Bursts.{IsHeldBy}

-- A kept burst, where there is one, is what holds the slot after a call with this link control.
abbrev pub IsKept : ℕ → Option FullLc → Option Burst → Type 0
IsKept colour lc kept = IfSome kept (λ b. IsHeldBy colour lc b × IsBurst b)
