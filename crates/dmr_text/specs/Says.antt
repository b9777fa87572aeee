-- What a text says: which words stand for a record, and which lines for a file.
use Rattle.std.specs.Prelude.{◌≡◌, ◌≢◌, ℕ, ◌≤◌, ◌⊎◌, List, [], ◌∷◌, Some, None, Ok, codes, decimal}
use Rattle.std.specs.Prelude.{length, map}
use Rattle.std.specs.List.{AllZip}
use Rattle.hex.specs.Hex.{decode_of, decode_sized}
use Rattle.dmr_words.specs.Lines.{Line}
use Rattle.dmr_words.specs.Words.{line_words}
use Rattle.dmr_recording.specs.Places.{entries}
use Rattle.dmr_recording.specs.Recordings.{slot_limit_of}
use Rattle.dmr_recording.specs.declared.place.Place.{Place}
use Rattle.dmr_recording.specs.declared.recording.RecordedBurst.{RecordedBurst}
use Rattle.dmr_recording.specs.declared.recording.Recording.{Recording}
use Rattle.dmr_recording.specs.declared.recording.Recording.TheVariants.{Uplink, Downlink}
use Rattle.dmr_record.specs.Head.{record_limit}
use Rattle.dmr_record.specs.Outgoing.{Sending}
use Rattle.dmr_record.specs.Received.{Receipt, received_limit}
use Rattle.dmr_text.specs.Files.{File, Receipts, Sendings, Slots}
use Rattle.dmr_text.specs.Spelling.{confirmed_word, frames_words, kind_word, rate_word, records_words}
use Rattle.dmr_text.specs.declared.carried.Carried.{Carried}
use Rattle.dmr_text.specs.declared.carried.Carried.TheVariants as carried

-- the words of each of these lines
abbrev pub words_of_lines : List Line → List (List (List ℕ))
words_of_lines lines = map (λ (line : Line). line_words line.octets) lines

-- These words say a burst of this recording: 66 hexadecimal digits, and on the downlink the 6 of its CACH in front. Letters among
-- the digits are small or capital.
abbrev pub SaysBurst : Recording → List (List ℕ) → RecordedBurst → Type 0
SaysBurst Uplink words b = (word : List ℕ) × (words ≡ word ∷ []) × (b.cach ≡ None) × (decode_sized word 33 ≡ Ok b.burst)
SaysBurst Downlink words b = (first second cach : List ℕ) × (words ≡ first ∷ second ∷ [])
    × (b.cach ≡ Some cach) × (decode_sized first 3 ≡ Ok cach) × (decode_sized second 33 ≡ Ok b.burst)

-- These words say a burst in its place: its frame and its slot, and then the burst.
abbrev pub SaysEntry : Recording → List (List ℕ) → Place × RecordedBurst → Type 0
SaysEntry of words entry = (rest : List (List ℕ)) × (words ≡ decimal entry.0.frame ∷ decimal entry.0.slot ∷ rest)
    × SaysBurst of rest entry.1

-- This word says octets: a hyphen none, and hexadecimal digits some, two for each. Letters among the digits are small or capital.
abbrev pub SaysOctets : List ℕ → List ℕ → Type 0
SaysOctets word octets = ((word ≡ codes "-") × (octets ≡ [])) ⊎ ((word ≢ []) × (decode_of word ≡ Ok octets))

-- These words say a record of the outgoing list.
abbrev pub SaysSending : List (List ℕ) → Sending → Type 0
SaysSending words s = (octets : List ℕ) × SaysOctets octets s.datagram
    × (words ≡ decimal s.frame ∷ decimal s.slot ∷ confirmed_word s.confirmed ∷ rate_word s.full ∷ octets ∷ [])

-- These words say a record of the received list.
abbrev pub SaysReceipt : List (List ℕ) → Receipt → Type 0
SaysReceipt words r = (octets : List ℕ) × SaysOctets octets r.octets
    × (words ≡ decimal r.frame ∷ decimal r.slot ∷ kind_word r.kind ∷ decimal r.source ∷ octets ∷ [])

-- The lines of these words say the records of a file, one by one. A slot of a recording that no line says is silent.
abbrev pub SaysRecords : List (List (List ℕ)) → File → Type 0
SaysRecords lines (Slots of slots) = AllZip (SaysEntry of) lines (entries 0 slots)
SaysRecords lines (Sendings sendings) = AllZip SaysSending lines sendings
SaysRecords lines (Receipts receipts) = AllZip SaysReceipt lines receipts

-- the words of the line that a text ends with
abbrev pub last_words : Carried → List (List ℕ)
last_words (carried.Recording frames) = frames_words frames
last_words (carried.List records) = records_words records

-- A file has no more records than its format allows.
abbrev pub IsWithinLimit : File → Type 0
IsWithinLimit (Slots of slots) = length slots ≤ slot_limit_of of
IsWithinLimit (Sendings sendings) = length sendings ≤ record_limit
IsWithinLimit (Receipts receipts) = length receipts ≤ received_limit
