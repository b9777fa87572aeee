-- What is told of an open try.
use Rattle.std.specs.Prelude.{ℕ, Option, Some, None}
use Rattle.dmr_arq.specs.declared.open_try.OpenTry.{OpenTry}
use Rattle.dmr_arq.specs.declared.open_try.OpenTry.TheVariants as try

-- the number of blocks that a confirmed try speaks of
abbrev pub blocks_of_try : OpenTry → Option ℕ
blocks_of_try try.Unconfirmed = None
blocks_of_try (try.Confirmed blocks) = Some blocks
