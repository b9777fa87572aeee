-- A line that was put, or torn.
use Rattle.std.proofs.Common.{◌≡◌, Bool, true, false, ℕ, List, Option, Result, Ok, Err, subst}
use Rattle.std.specs.Prelude.{OnErr, OnOk}
use Rattle.std.specs.Io.KnownBytes.{Appends}
use Rattle.std.specs.Result.{is_err}
use Rattle.dmr_record.specs.Devices.{Tears}

-- where a write failed and tore its octets, it tore the line that they are
pub line_torn : {E : Type 0} (result : Result Unit E) (old new : Option (List ℕ)) (piece line : List ℕ) → is_err result ≡ true
    → OnErr result (Tears old new piece) → piece ≡ line → Tears old new line
line_torn (Ok x) old new piece line failed torn same = cc failed
line_torn (Err e) old new piece line failed torn same = subst (Tears old new) same torn

-- where a write succeeded and put them, it put that line
pub line_put : {E : Type 0} (result : Result Unit E) (old new : Option (List ℕ)) (piece line : List ℕ) → is_err result ≡ false
    → OnOk result (Appends old new piece) → piece ≡ line → Appends old new line
line_put (Ok x) old new piece line well put same = subst (Appends old new) same put
line_put (Err e) old new piece line well put same = cc well

-- a write that succeeded left the sink with no failure
pub line_well : {E : Type 0} (result : Result Unit E) (has_failed : Bool) → is_err result ≡ false
    → OnOk result (has_failed ≡ false) → has_failed ≡ false
line_well (Ok x) has_failed ok well = well
line_well (Err e) has_failed ok well = cc ok
