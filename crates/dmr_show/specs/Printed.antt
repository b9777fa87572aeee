-- How many lines are printed of a file.
use Rattle.std.specs.Prelude.{◌≡◌, ℕ, ◌+◌, ◌-◌, ◌^◌, ◌&&◌, List, Option, if◌then◌else◌, length, nat_le, unwrap_or}
use Rattle.std.specs.Io.KnownBytes.{Appends}
use Rattle.std.specs.List.{All, flat_map, sum_by}
use Rattle.dmr_listing.specs.Strips.{AreStrips, Picture, shown_marks}
use Rattle.dmr_listing.specs.declared.frames.Frames.{Frames}
use Rattle.dmr_recording.specs.declared.place.Place.{Place}
use Rattle.dmr_lines.specs.Line.{IsOneLine, line_octets}
use Rattle.dmr_show.specs.Filter.{is_in_slot, lets_pass}
use Rattle.dmr_show.specs.Records.{Records, Slots, places_of}
use Rattle.dmr_show.specs.declared.filter.Filter.{Filter}
use Rattle.dmr_show.specs.declared.form.Form.{Form}
use Rattle.dmr_show.specs.declared.form.Form.TheVariants as form

-- So many lines were put, one behind the other.
pub record PutsLines (count : ℕ) (old new : Option (List ℕ)) : Type 0 where
  pub texts : List (List ℕ)
  pub many : length texts ≡ count
  pub each : All IsOneLine texts
  pub octets : Appends old new (flat_map line_octets texts)

-- the lines of what stands in a place: one where the filter lets it pass, and else none
abbrev pub lines_at : Filter → Place → ℕ
lines_at filter place = if lets_pass filter place then 1 else 0

-- the lines that a strip has of a slot: one where it has marks of that slot and the filter lets the slot pass, and else none
abbrev pub lines_of_slot : Filter → ℕ → Picture → ℕ
lines_of_slot filter slot strip = if is_in_slot filter slot && nat_le slot (length strip.marks) then 1 else 0

-- the lines of a strip: those of slot 1, and then those of slot 2
abbrev pub lines_of_strip : Filter → Picture → ℕ
lines_of_strip filter strip = lines_of_slot filter 1 strip + lines_of_slot filter 2 strip

-- the frames from the first to the last that is asked for
abbrev pub frames_of : Filter → Frames
frames_of filter = record { first = unwrap_or filter.from 0; last = unwrap_or filter.to (2 ^ 32 - 1) }

-- What was read has so many lines in a form: one for each burst or record that the filter lets pass, or those of its strips.
abbrev pub HasLines : Form → Filter → Records → ℕ → Type 0
HasLines form.Listing filter records count = count ≡ sum_by (lines_at filter) (places_of records)
HasLines form.Json filter records count = count ≡ sum_by (lines_at filter) (places_of records)
HasLines form.Strip filter (Slots slots lines) count =
    (strips : List Picture) × AreStrips (shown_marks (frames_of filter) 0 slots lines) strips
    × (count ≡ sum_by (lines_of_strip filter) strips)
HasLines form.Strip filter records count = ⊥

-- the lines that a form has for a file before what was read of it, and behind that for all that the file holds
abbrev pub lines_around : Form → ℕ
lines_around form.Listing = 1
lines_around form.Json = 1
lines_around form.Strip = 0
