-- What a listing of an outgoing list shows: a line for each record, in order, each once.
use Rattle.std.specs.Prelude.{◌≡◌, ℕ, List, ◌++◌, Option, None, length}
use Rattle.std.specs.Io.KnownBytes.{Consumes}
use Rattle.std.specs.List.{AllByRecursion}
use Rattle.dmr_record.specs.Outgoing.{AreInFrameOrder, AreReadFrom, IsReadOutgoing, IsSending, Sending, ShowsOutgoingFault}
use Rattle.dmr_record.specs.Outgoing.{last_frame, sending_octets, sendings_octets}
use Rattle.dmr_record.specs.declared.outgoing.Outgoing.{Outgoing}
use Rattle.dmr_record.specs.Head.{record_limit}
use Rattle.dmr_recording.specs.Places.{octet_behind}
use Rattle.dmr_listing.specs.ListingRules.{GivenInTurn}
use Rattle.dmr_recording.specs.declared.fault_line.FaultLine.{FaultLine}

-- These records of the list were read behind its head, and these octets of the next one.
pub record AreSendingsRead (sendings : List Sending) (part : List ℕ) (left_old left_new : Option (List ℕ)) : Type 0 where
  pub each : AllByRecursion IsSending sendings
  pub order : AreInFrameOrder 0 sendings
  pub octets : Consumes left_old left_new (sendings_octets sendings ++ part)

-- The list was read up to a record that shows this fault, whose octet is the one at which that begins.
pub record AreSendingsReadUpToFault (sendings : List Sending) (fault : FaultLine) (left_old left_new : Option (List ℕ))
    : Type 0 where
  pub part : List ℕ
  pub before : AreSendingsRead sendings part left_old left_new
  pub shown : ShowsOutgoingFault record_limit (length sendings) (last_frame 0 sendings) fault.fault part
  pub octet : fault.octet ≡ octet_behind sending_octets sendings
  pub place : fault.place ≡ None

-- A taker was given these records as they were read, each once.
pub record AreSendingsGiven {L : Type 0} (Takes : L → Outgoing → L → Type 0) (sendings : List Sending) (old new : L) : Type 0 where
  pub reads : List Outgoing
  pub listed : AreReadFrom reads sendings
  pub given : GivenInTurn Takes old reads new

-- These records of the list were read behind its head, and these octets of the next one, and a taker was given the records.
pub record AreSendingsListed {L : Type 0} (Takes : L → Outgoing → L → Type 0) (sendings : List Sending) (part : List ℕ)
    (left_old left_new : Option (List ℕ)) (old new : L) : Type 0 where
  pub read : AreSendingsRead sendings part left_old left_new
  pub given : AreSendingsGiven Takes sendings old new

-- The list was read up to a record that shows this fault, and a taker was given the records before it.
pub record AreSendingsListedUpToFault {L : Type 0} (Takes : L → Outgoing → L → Type 0) (fault : FaultLine)
    (left_old left_new : Option (List ℕ)) (old new : L) : Type 0 where
  pub sendings : List Sending
  pub read : AreSendingsReadUpToFault sendings fault left_old left_new
  pub given : AreSendingsGiven Takes sendings old new

-- The list was read up to a record that a taker refused, behind the records before it.
pub record AreSendingsListedUpToLine {L : Type 0} (Takes Refuses : L → Outgoing → L → Type 0)
    (left_old left_new : Option (List ℕ)) (old new : L) : Type 0 where
  pub sendings : List Sending
  pub next : Sending
  pub read : AreSendingsRead sendings (sending_octets next) left_old left_new
  pub between : L
  pub given : AreSendingsGiven Takes sendings old between
  pub refused : Outgoing
  pub same : IsReadOutgoing refused next
  pub last : Refuses between refused new
