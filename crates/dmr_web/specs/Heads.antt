-- What the lines of a window begin with.
use Rattle.std.specs.Prelude.{ℕ, ◌+◌, ◌-◌, ◌/◌, ◌%◌, ◌^◌, false, List, [], ◌++◌, Option, codes, decimal, map, min}
use Rattle.std.specs.Fmt.{format_spec, padded, padded_integral}
use Rattle.std.specs.Io.KnownBytes.{Appends}
use Rattle.dmr_lines.specs.Line.{IsOneLine, first_line, line_octets}
use Rattle.dmr_recording.specs.Places.{milliseconds}
use Rattle.dmr_recording.specs.declared.place.Place.{Place}
use Rattle.dmr_show.specs.Records.{Records, Slots, Sendings, Receipts, places_of}
use Rattle.dmr_web.specs.declared.window.WrittenAs.{WrittenAs}
use Rattle.dmr_web.specs.declared.window.WrittenAs.TheVariants.{Text, Json}

-- Where something stands in a file that stands in this place behind a frame of it. No number is above the last of 32 bits.
abbrev pub later : ℕ → Place → Place
later frame place = record { frame = min (frame + place.frame) (2 ^ 32 - 1); slot = place.slot }

-- a number in two digits at least, with zeros before it
abbrev pub in_two_digits : ℕ → List ℕ
in_two_digits number = padded_integral (format_spec 32 0 4 2 (2 ^ 64 - 1)) false [] (decimal number)

-- a number at the right of so many columns, with spaces before it
abbrev pub number_in : ℕ → ℕ → List ℕ
number_in columns number = padded_integral (format_spec 32 3 0 columns (2 ^ 64 - 1)) false [] (decimal number)

-- a text at the right of so many columns, with spaces before it
abbrev pub text_in : ℕ → List ℕ → List ℕ
text_in columns text = padded (format_spec 32 3 0 columns (2 ^ 64 - 1)) text

-- milliseconds as seconds to the hundredth
abbrev pub seconds_text : ℕ → List ℕ
seconds_text ms = decimal (ms / 1000) ++ (codes "." ++ in_two_digits (ms % 1000 / 10))

-- Seconds, frame and slot in columns, and two spaces.
abbrev pub place_text : Place → List ℕ
place_text place = text_in 9 (seconds_text (milliseconds place))
    ++ (codes " " ++ (number_in 7 place.frame ++ (codes " " ++ (decimal place.slot ++ codes "  "))))

-- What the line of a burst begins with: as text its place in the whole file. Of an object this is left open.
abbrev pub burst_head : WrittenAs → ℕ → Place → List ℕ
burst_head Text frame place = first_line (place_text (later frame place))
burst_head Json frame place = []

-- The heads of all lines, where the first frame has this number. Those of records of a list are left open.
abbrev pub heads_of : WrittenAs → ℕ → Records → List (List ℕ)
heads_of notation frame (Slots slots lines) = map (burst_head notation frame) (places_of (Slots slots lines))
heads_of notation frame (Sendings sendings) = map (λ place. []) (places_of (Sendings sendings))
heads_of notation frame (Receipts receipts) = map (λ place. []) (places_of (Receipts receipts))

-- One line was put that begins with this head.
pub record PutsHeadedLine (old : Option (List ℕ)) (head : List ℕ) (new : Option (List ℕ)) : Type 0 where
  pub rest : List ℕ
  pub one : IsOneLine (head ++ rest)
  pub octets : Appends old new (line_octets (head ++ rest))
