-- The objects of a file, of a record of either list, and of the end of a listing.
use Rattle.std.specs.Prelude.{ℕ, ◌*◌, Bool, true, false, List, [], ◌∷◌, codes}
use Rattle.dmr_json.specs.Values.{hex, keyed, keyed_number, keys, object, quoted, truth}
use Rattle.dmr_record.specs.declared.head.FileFormat.{FileFormat}
use Rattle.dmr_record.specs.declared.head.FileFormat.TheVariants as format
use Rattle.dmr_record.specs.declared.outgoing.Outgoing.{Outgoing}
use Rattle.dmr_record.specs.declared.received.Received.{Received}
use Rattle.dmr_record.specs.declared.received.ReceivedKind.{ReceivedKind}
use Rattle.dmr_record.specs.declared.received.ReceivedKind.TheVariants as kind
use Rattle.dmr_recording.specs.Places.{milliseconds}
use Rattle.dmr_recording.specs.declared.place.Place.{Place}

-- frame, slot and milliseconds
unfoldable pub place_keys : Place → List ℕ
place_keys place = keys (keyed_number (codes "frame") place.frame ∷ keyed_number (codes "slot") place.slot
    ∷ keyed_number (codes "ms") (milliseconds place) ∷ [])

-- the rate of the blocks of a packet
abbrev pub rate_text : Bool → List ℕ
rate_text true = codes "1"
rate_text false = codes "1/2"

-- how a datagram is to be sent
unfoldable pub mode_keys : Bool → Bool → List ℕ
mode_keys confirmed full = keys (keyed (codes "confirmed") (truth confirmed) ∷ keyed (codes "rate") (quoted (rate_text full)) ∷ [])

-- a record of an outgoing list, with those of its octets that are kept
abbrev pub outgoing_object : Outgoing → List ℕ
outgoing_object r = object (place_keys (record { frame = r.frame; slot = r.slot }) ∷ mode_keys r.confirmed r.full
    ∷ keyed_number (codes "length") r.length ∷ keyed (codes "octets") (hex r.octets) ∷ [])

-- what came
abbrev pub kind_text : ReceivedKind → List ℕ
kind_text kind.Datagram = codes "datagram"
kind_text kind.ShortData = codes "short data"
kind_text kind.Status = codes "status"

-- a record of a received list, with its octets
abbrev pub received_object : Received → List ℕ → List ℕ
received_object r octets = object (place_keys (record { frame = r.frame; slot = r.slot })
    ∷ keyed (codes "kind") (quoted (kind_text r.kind)) ∷ keyed_number (codes "source") r.source
    ∷ keyed (codes "octets") (hex octets) ∷ [])

-- what each file is called
abbrev pub file_name : FileFormat → List ℕ
file_name format.Uplink = codes "uplink"
file_name format.Downlink = codes "downlink"
file_name format.Outgoing = codes "outgoing"
file_name format.Received = codes "received"

-- a file
abbrev pub file_object : FileFormat → List ℕ
file_object f = object (keyed (codes "file") (quoted (file_name f)) ∷ codes "\"version\":1" ∷ [])

-- the last one of a recording, each frame of which has the records of two slots
abbrev pub recording_end : ℕ → List ℕ
recording_end frames = object (keyed_number (codes "frames") frames ∷ keyed_number (codes "records") (2 * frames) ∷ [])

-- the last one of a list
abbrev pub list_end : ℕ → List ℕ
list_end records = object (keyed_number (codes "records") records ∷ [])
