-- What is read for one use of the bits of octets, told of the numbers that they cross as.
use Rattle.std.proofs.Common.{◌≡◌, Bool, List, sym, subst}
use Rattle.std.specs.Prelude.{Result, Ok, Err}
use Rattle.dmr_bptc.specs.Decoding.{IsDamaged}
use Rattle.dmr_link.specs.Sealed.{IsLc, IsReadLc, IsSealedLc, ShowsLcFault}
use Rattle.dmr_link.specs.declared.fault.LcFault.{LcFault}
use Rattle.dmr_link.specs.declared.full_lc.FullLc.{FullLc}
use Rattle.dmr_link.specs.declared.sealing.LcUse.{LcUse}

-- a link control that is read of what the numbers tell is read of the bits
pub read_by : (lc_use told : LcUse) (bits given : List Bool) (lc : FullLc) → lc_use ≡ told → bits ≡ given
    → IsReadLc told given lc → IsReadLc lc_use bits lc
read_by lc_use told bits given lc same are read =
    subst (λ u. IsReadLc u bits lc) (sym same) (subst (λ b. IsReadLc told b lc) (sym are) read)

-- a fault that the bits show is shown by what the numbers tell
pub shown_by : (lc_use told : LcUse) (bits given : List Bool) (fault is : LcFault) → lc_use ≡ told → bits ≡ given → fault ≡ is
    → ShowsLcFault lc_use fault bits → ShowsLcFault told is given
shown_by lc_use told bits given fault is same are named shown =
    subst (λ u. ShowsLcFault u is given) same (subst (λ b. ShowsLcFault lc_use is b) are
    (subst (λ f. ShowsLcFault lc_use f bits) named shown))

-- damage to what the numbers tell is damage to the bits
pub damaged_by : (word bits given : List Bool) → bits ≡ given → IsDamaged word given → IsDamaged word bits
damaged_by word bits given are damaged = subst (IsDamaged word) (sym are) damaged

-- what is sealed for the use that a number tells is sealed for that use
pub sealed_by : (lc_use told : LcUse) (message : List Bool) → lc_use ≡ told → IsSealedLc told message → IsSealedLc lc_use message
sealed_by lc_use told message same sealed = subst (λ u. IsSealedLc u message) (sym same) sealed

-- a message that has a link control has it by the use that a number tells
pub is_by : (lc_use told : LcUse) (found lc : FullLc) (message : List Bool) → lc_use ≡ told → lc ≡ found → IsLc lc_use found message
    → IsLc told lc message
is_by lc_use told found lc message same one is =
    subst (λ u. IsLc u lc message) same (subst (λ l. IsLc lc_use l message) (sym one) is)

-- one result has one value, and no fault beside it
pub one_value : (a b : FullLc) → ◌≡◌ {A = Result FullLc LcFault} (Ok a) (Ok b) → a ≡ b
one_value a b same = cc

-- and a fault is no value
pub no_value : (fault : LcFault) (b : FullLc) → ◌≡◌ {A = Result FullLc LcFault} (Err fault) (Ok b) → ⊥
no_value fault b same = cc
