-- A write by whether it failed.
use Rattle.std.proofs.Common.{◌≡◌, true, false, Result, Ok, Err}
use Rattle.std.specs.Prelude.{OnErr, OnOk}
use Rattle.std.specs.Result.{is_err}

-- what holds where it failed, holds
pub failed_holds : {E : Type 0} (result : Result Unit E) (Holds : Type 0) → is_err result ≡ true → OnErr result Holds → Holds
failed_holds (Ok x) Holds failed holds = cc failed
failed_holds (Err e) Holds failed holds = holds

-- what holds where it didn't, holds
pub well_holds : {E : Type 0} (result : Result Unit E) (Holds : Type 0) → is_err result ≡ false → OnOk result Holds → Holds
well_holds (Ok x) Holds well holds = holds
well_holds (Err e) Holds well holds = cc well
