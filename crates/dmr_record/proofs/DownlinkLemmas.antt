-- What is taken of a slot of the downlink file.
use Rattle.std.proofs.Common.{◌≡◌, ◌≢◌, ℕ, ◌<◌, ◌⊎◌, inl, inr, List, [], arith}
use Rattle.dmr_record.specs.declared.fault.RecordFault.{RecordFault}
use Rattle.dmr_record.specs.declared.fault.RecordFault.TheVariants.{CutRecord, Read}
use Rattle.dmr_record.specs.Downlink.{IsPartOfSent, ShowsDownlinkFault}

-- a slot that stops short
pub ShowsDownlinkFault-part : (limit before : ℕ) (e : RecordFault) (octets : List ℕ) → before < limit → octets ≢ []
    → (e ≡ CutRecord) ⊎ (e ≡ Read) → IsPartOfSent octets → ShowsDownlinkFault limit before e octets
ShowsDownlinkFault-part limit before e octets h some (inl cut) part = rw cut (h, some, part)
ShowsDownlinkFault-part limit before e octets h some (inr read) part = rw read ((λ past. absurd (omega arith)), part)
