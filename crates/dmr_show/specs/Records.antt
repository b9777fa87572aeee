-- What was read of a file behind its head, and where it stands.
use Rattle.std.specs.Prelude.{List, map}
use Rattle.dmr_recording.specs.Places.{entries}
use Rattle.dmr_recording.specs.Recordings.{RecordedSlot}
use Rattle.dmr_listing.specs.declared.burst_line.BurstLine.{BurstLine}
use Rattle.dmr_recording.specs.declared.place.Place.{Place}
use Rattle.dmr_recording.specs.declared.recording.RecordedBurst.{RecordedBurst}
use Rattle.dmr_record.specs.Outgoing.{Sending}
use Rattle.dmr_record.specs.Received.{Receipt}
use Rattle.dmr_record.specs.declared.outgoing.Outgoing.{Outgoing}

-- What was read of a file: the slots of a recording, with the lines of its bursts, or the records of a list.
pub data Records : Type 0 where
  Slots : List RecordedSlot → List BurstLine → Records
  Sendings : List Sending → Records
  Receipts : List Receipt → Records

-- where a record of an outgoing list stands
abbrev pub place_of_sending : Sending → Place
place_of_sending sending = record { frame = sending.frame; slot = sending.slot }

-- where such a record stands as it was read
abbrev pub place_of_outgoing : Outgoing → Place
place_of_outgoing outgoing = record { frame = outgoing.frame; slot = outgoing.slot }

-- where a record of a received list stands
abbrev pub place_of_receipt : Receipt → Place
place_of_receipt receipt = record { frame = receipt.frame; slot = receipt.slot }

-- where the bursts or the records stand, in their order
abbrev pub places_of : Records → List Place
places_of (Slots slots lines) = map (λ (entry : Place × RecordedBurst). entry.0) (entries 0 slots)
places_of (Sendings sendings) = map place_of_sending sendings
places_of (Receipts receipts) = map place_of_receipt receipts
