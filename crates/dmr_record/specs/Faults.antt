-- What faults say of the device and of the text.
use Rattle.std.specs.Prelude.{◌≡◌, ℕ, List, [], ◌++◌, Bool, true, false}
use Rattle.dmr_record.specs.declared.fault.RecordFault.{RecordFault}
use Rattle.dmr_record.specs.declared.fault.RecordFault.TheVariants.{CutRecord, HalfFrame, Read}

-- the faults that show only where no octet follows
abbrev pub is_of_end : RecordFault → Bool
is_of_end CutRecord = true
is_of_end HalfFrame = true
is_of_end e = false

-- the one fault of a reading call that is the device's and not the text's
abbrev pub is_device_fault : RecordFault → Bool
is_device_fault Read = true
is_device_fault e = false

-- A text has this fault: it begins with octets that show it, and ends with them where it is a fault of the end.
pub record HasFault (Shows : RecordFault → List ℕ → Type 0) (text : List ℕ) (fault : RecordFault) : Type 0 where
  pub taken : List ℕ
  pub rest : List ℕ
  pub split : taken ++ rest ≡ text
  pub shown : Shows fault taken
  pub end : is_of_end fault ≡ true → rest ≡ []
