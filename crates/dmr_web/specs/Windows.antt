-- What a window of a file holds: a line for each of its bursts or records from one of them on, each once.
use Rattle.std.specs.Prelude.{◌≡◌, ℕ, List, [], ◌++◌, Option, Some, drop, length, replicate, take}
use Rattle.std.specs.Io.KnownBytes.{Consumes}
use Rattle.dmr_listing.specs.ListingRules as recording
use Rattle.dmr_listing.specs.ListingRules.{GivenInTurn}
use Rattle.dmr_listing.specs.OutgoingListings as outgoing
use Rattle.dmr_listing.specs.ReceivedListings as received
use Rattle.dmr_record.specs.Head.{head_octets, magic_of}
use Rattle.dmr_record.specs.declared.head.FileFormat.{FileFormat}
use Rattle.dmr_record.specs.declared.head.FileFormat.TheVariants.{Uplink, Downlink, Outgoing, Received}
use Rattle.dmr_recording.specs.declared.fault_line.FaultLine.{FaultLine}
use Rattle.dmr_recording.specs.declared.recording.Recording.TheVariants as kind
use Rattle.dmr_show.specs.Records.{Records, Slots, Sendings, Receipts, places_of}
use Rattle.dmr_show.specs.Showing.{IsFileReadUpToFault}
use Rattle.dmr_web.specs.Heads.{PutsHeadedLine, heads_of}
use Rattle.dmr_web.specs.declared.window.WrittenAs.{WrittenAs}

-- the first so many octets of a text
abbrev pub front_held : List ℕ → ℕ → Option (List ℕ)
front_held text count = Some (take count text)

-- The head of a file of this format was read.
pub record IsHeadRead (format : FileFormat) (left_old left_new : Option (List ℕ)) : Type 0 where
  pub octets : Consumes left_old left_new (head_octets (magic_of format))

-- These records of a file of this format were read behind its head, and maybe octets of the next one.
abbrev pub IsFrontRead : FileFormat → Records → Option (List ℕ) → Option (List ℕ) → Type 0
IsFrontRead Uplink (Slots slots lines) old new =
    (part : List ℕ) × (end : recording.ListingTurn) × recording.IsRead kind.Uplink slots lines part end old new
IsFrontRead Downlink (Slots slots lines) old new =
    (part : List ℕ) × (end : recording.ListingTurn) × recording.IsRead kind.Downlink slots lines part end old new
IsFrontRead Outgoing (Sendings sendings) old new = (part : List ℕ) × outgoing.AreSendingsRead sendings part old new
IsFrontRead Received (Receipts receipts) old new = (part : List ℕ) × received.AreReceiptsRead receipts part old new
IsFrontRead format records old new = ⊥

-- These are all that stands behind the head of a file of this format.
abbrev pub IsAllRead : FileFormat → Records → Option (List ℕ) → Option (List ℕ) → Type 0
IsAllRead Uplink (Slots slots lines) old new =
    (end : recording.ListingTurn) × recording.IsRead kind.Uplink slots lines [] end old new
IsAllRead Downlink (Slots slots lines) old new =
    (end : recording.ListingTurn) × recording.IsRead kind.Downlink slots lines [] end old new
IsAllRead Outgoing (Sendings sendings) old new = outgoing.AreSendingsRead sendings [] old new
IsAllRead Received (Receipts receipts) old new = received.AreReceiptsRead receipts [] old new
IsAllRead format records old new = ⊥

-- how many bursts or records there are
abbrev pub entry_count : Records → ℕ
entry_count records = length (places_of records)

-- All that stands behind the head of a file was read, and the text holds the lines of its bursts or records but for the first so
-- many, each once and in order, each with its head, and others behind them. The first frame has this number.
pub record IsListedToEnd (format : FileFormat) (notation : WrittenAs) (frame from next others : ℕ)
    (left_old left_new held_old held_new : Option (List ℕ)) : Type 0 where
  pub records : Records
  pub read : IsAllRead format records left_old left_new
  pub many : next ≡ entry_count records
  pub put : GivenInTurn PutsHeadedLine held_old (drop from (heads_of notation frame records) ++ replicate others []) held_new

-- The same up to a record that shows this fault.
pub record IsListedToFault (format : FileFormat) (notation : WrittenAs) (frame from next others : ℕ) (fault : FaultLine)
    (left_old left_new held_old held_new : Option (List ℕ)) : Type 0 where
  pub records : Records
  pub read : IsFileReadUpToFault format records fault left_old left_new
  pub many : next ≡ entry_count records
  pub put : GivenInTurn PutsHeadedLine held_old (drop from (heads_of notation frame records) ++ replicate others []) held_new

-- The same up to a line for which there was no room: so many bursts or records were gone by.
pub record IsListedInPart (format : FileFormat) (notation : WrittenAs) (frame from next : ℕ)
    (left_old left_new held_old held_new : Option (List ℕ)) : Type 0 where
  pub records : Records
  pub read : IsFrontRead format records left_old left_new
  pub many : next ≡ entry_count records
  pub put : GivenInTurn PutsHeadedLine held_old (drop from (heads_of notation frame records)) held_new
