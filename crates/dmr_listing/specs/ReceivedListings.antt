-- What a listing of a received list shows: a line for each record, in order, each once.
use Rattle.std.specs.Prelude.{◌≡◌, ℕ, List, ◌++◌, Option, None, length}
use Rattle.std.specs.Io.KnownBytes.{Consumes}
use Rattle.std.specs.List.{AllByRecursion}
use Rattle.dmr_record.specs.Received.{FollowEachOther, IsReadable, Receipt, ShowsReceivedFault}
use Rattle.dmr_record.specs.Received.{last_fields, received_limit}
use Rattle.dmr_record.specs.Received.{receipt_octets, receipts_octets}
use Rattle.dmr_recording.specs.Places.{octet_behind}
use Rattle.dmr_listing.specs.ListingRules.{GivenInTurn, IsRefusedBehind}
use Rattle.dmr_recording.specs.declared.fault_line.FaultLine.{FaultLine}

-- These records of the list were read behind its head, and these octets of the next one.
pub record AreReceiptsRead (receipts : List Receipt) (part : List ℕ) (left_old left_new : Option (List ℕ)) : Type 0 where
  pub each : AllByRecursion IsReadable receipts
  pub order : FollowEachOther None receipts
  pub octets : Consumes left_old left_new (receipts_octets receipts ++ part)

-- The list was read up to a record that shows this fault, whose octet is the one at which that begins.
pub record AreReceiptsReadUpToFault (receipts : List Receipt) (fault : FaultLine) (left_old left_new : Option (List ℕ))
    : Type 0 where
  pub part : List ℕ
  pub before : AreReceiptsRead receipts part left_old left_new
  pub shown : ShowsReceivedFault received_limit (length receipts) (last_fields None receipts) fault.fault part
  pub octet : fault.octet ≡ octet_behind receipt_octets receipts
  pub place : fault.place ≡ None

-- These records of the list were read behind its head, and these octets of the next one, and a taker was given the records.
pub record AreReceiptsListed {L : Type 0} (Takes : L → Receipt → L → Type 0) (receipts : List Receipt) (part : List ℕ)
    (left_old left_new : Option (List ℕ)) (old new : L) : Type 0 where
  pub read : AreReceiptsRead receipts part left_old left_new
  pub given : GivenInTurn Takes old receipts new

-- The list was read up to a record that shows this fault, and a taker was given the records before it.
pub record AreReceiptsListedUpToFault {L : Type 0} (Takes : L → Receipt → L → Type 0) (fault : FaultLine)
    (left_old left_new : Option (List ℕ)) (old new : L) : Type 0 where
  pub receipts : List Receipt
  pub read : AreReceiptsReadUpToFault receipts fault left_old left_new
  pub given : GivenInTurn Takes old receipts new

-- The list was read up to a record that a taker refused, behind the records before it.
pub record AreReceiptsListedUpToLine {L : Type 0} (Takes Refuses : L → Receipt → L → Type 0)
    (left_old left_new : Option (List ℕ)) (old new : L) : Type 0 where
  pub receipts : List Receipt
  pub next : Receipt
  pub read : AreReceiptsRead receipts (receipt_octets next) left_old left_new
  pub given : IsRefusedBehind Takes Refuses old receipts next new
