-- The lines of the text of a file.
use Rattle.std.specs.Prelude.{ℕ, Bool, true, false, List, [], ◌∷◌, ◌++◌, Option, Some, None, codes, decimal}
use Rattle.std.specs.List.{join_with_byte}
use Rattle.hex.specs.Hex.{encode_upper}
use Rattle.dmr_recording.specs.declared.place.Place.{Place}
use Rattle.dmr_recording.specs.declared.recording.RecordedBurst.{RecordedBurst}
use Rattle.dmr_record.specs.Outgoing.{Sending}
use Rattle.dmr_record.specs.Received.{Receipt}
use Rattle.dmr_record.specs.declared.head.FileFormat.{FileFormat}
use Rattle.dmr_record.specs.declared.head.FileFormat.TheVariants.{Uplink, Downlink, Outgoing, Received}
use Rattle.dmr_record.specs.declared.received.ReceivedKind.{ReceivedKind}
use Rattle.dmr_record.specs.declared.received.ReceivedKind.TheVariants.{Datagram, ShortData, Status}

-- a line: its words with a space between each two, and a line feed
abbrev pub line_of : List (List ℕ) → List ℕ
line_of words = join_with_byte 32 words ++ 10 ∷ []

-- octets as a word: two capital hexadecimal digits for each, and a hyphen for none
abbrev pub octets_word : List ℕ → List ℕ
octets_word [] = codes "-"
octets_word (octet ∷ rest) = encode_upper (octet ∷ rest)

-- what the first line calls a file of this format
abbrev pub format_word : FileFormat → List ℕ
format_word Uplink = codes "uplink"
format_word Downlink = codes "downlink"
format_word Outgoing = codes "outgoing"
format_word Received = codes "received"

-- `dmrgate`, the format, and the version of the text, which is 1
abbrev pub title_words : FileFormat → List (List ℕ)
title_words format = codes "dmrgate" ∷ format_word format ∷ codes "1" ∷ []

-- the CACH of a burst, on the downlink, as a word
abbrev pub cach_words : Option (List ℕ) → List (List ℕ)
cach_words None = []
cach_words (Some cach) = octets_word cach ∷ []

-- a burst: its frame, its slot, its CACH on the downlink, and its octets
abbrev pub burst_words : Place → RecordedBurst → List (List ℕ)
burst_words place b = decimal place.frame ∷ decimal place.slot ∷ (cach_words b.cach ++ octets_word b.burst ∷ [])

-- how a datagram is to be sent: as a confirmed packet or not
abbrev pub confirmed_word : Bool → List ℕ
confirmed_word true = codes "confirmed"
confirmed_word false = codes "unconfirmed"

-- and at rate 1, or at rate 1/2
abbrev pub rate_word : Bool → List ℕ
rate_word true = codes "full"
rate_word false = codes "half"

-- a record of the outgoing list: its frame, its slot, its mode, and its octets
abbrev pub sending_words : Sending → List (List ℕ)
sending_words s =
    decimal s.frame ∷ decimal s.slot ∷ confirmed_word s.confirmed ∷ rate_word s.full ∷ octets_word s.datagram ∷ []

-- what the octets of a received record are
abbrev pub kind_word : ReceivedKind → List ℕ
kind_word Datagram = codes "datagram"
kind_word ShortData = codes "short-data"
kind_word Status = codes "status"

-- a record of the received list: its frame, its slot, its kind, its source, and its octets
abbrev pub receipt_words : Receipt → List (List ℕ)
receipt_words r = decimal r.frame ∷ decimal r.slot ∷ kind_word r.kind ∷ decimal r.source ∷ octets_word r.octets ∷ []

-- how many frames a recording has, and how many records a list
abbrev pub frames_words : ℕ → List (List ℕ)
frames_words frames = codes "frames" ∷ decimal frames ∷ []

abbrev pub records_words : ℕ → List (List ℕ)
records_words records = codes "records" ∷ decimal records ∷ []

-- the lines of these words
abbrev pub title_line : FileFormat → List ℕ
title_line format = line_of (title_words format)

abbrev pub burst_line : Place → RecordedBurst → List ℕ
burst_line place b = line_of (burst_words place b)

abbrev pub sending_line : Sending → List ℕ
sending_line s = line_of (sending_words s)

abbrev pub receipt_line : Receipt → List ℕ
receipt_line r = line_of (receipt_words r)

abbrev pub frames_line : ℕ → List ℕ
frames_line frames = line_of (frames_words frames)

abbrev pub records_line : ℕ → List ℕ
records_line records = line_of (records_words records)
