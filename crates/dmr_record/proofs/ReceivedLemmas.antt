-- What is taken of a record of the received file.
use Rattle.std.proofs.Common.{◌≡◌, ◌≢◌, ℕ, ◌<◌, ◌⊎◌, inl, inr, List, [], Option, arith}
use Rattle.dmr_record.specs.declared.fault.RecordFault.{RecordFault}
use Rattle.dmr_record.specs.declared.fault.RecordFault.TheVariants.{CutRecord, Read}
use Rattle.dmr_record.specs.declared.received.ReceivedKind.{ReceivedKind}
use Rattle.dmr_record.specs.declared.received.ReceivedKind.TheVariants.{Datagram, ShortData, Status}
use Rattle.dmr_record.specs.Received.{ReceivedFields, kind_octet, IsPartOfReceipt, ShowsReceivedFault}

-- the octet of a kind is below three
pub kind_octet-low : (kind : ReceivedKind) → kind_octet kind < 3
kind_octet-low Datagram = omega arith
kind_octet-low ShortData = omega arith
kind_octet-low Status = omega arith

-- a record that stops short
pub ShowsReceivedFault-part : (limit before : ℕ) (last : Option ReceivedFields) (e : RecordFault) (octets : List ℕ)
    → before < limit →
    octets ≢ []
    → (e ≡ CutRecord) ⊎ (e ≡ Read) → IsPartOfReceipt last octets → ShowsReceivedFault limit before last e octets
ShowsReceivedFault-part limit before last e octets h some (inl cut) part = rw cut (h, some, part)
ShowsReceivedFault-part limit before last e octets h some (inr read) part = rw read ((λ past. absurd (omega arith)), part)
