-- What is known of a sink once a line was printed to it.
use Rattle.std.proofs.Common.{◌≡◌, ℕ, Bool, true, false, refl, arith}

-- it hasn't failed where the status is that of success, since a failure has another
pub printed_well : (has_failed : Bool) (status : ℕ) → (has_failed ≡ true → status ≡ 1) → status ≡ 0 → has_failed ≡ false
printed_well false status failed is = refl
printed_well true status failed is = let one = failed refl in absurd (omega arith)
