-- A text that wasn't written to its end.
use Rattle.std.proofs.Common.{◌≡◌, ℕ, List, [], Option, refl, sym, subst}
use Rattle.std.specs.Io.KnownBytes.{Appends}
use Rattle.std.proofs.KnownBytes.{Appends-trans, Consumes-nil}
use Rattle.dmr_record.specs.Devices.{Tears}
use Rattle.dmr_record.specs.declared.head.FileFormat.{FileFormat}
use Rattle.dmr_record.specs.declared.head.FileFormat.TheVariants.{Uplink, Downlink, Outgoing, Received}
use Rattle.dmr_record.proofs.Torn.{Tears_after, Tears_more}
use Rattle.dmr_recording.specs.Endings.{IfNotWritten}
use Rattle.dmr_recording.specs.declared.recording.Recording.TheVariants as recording
use Rattle.dmr_recording.specs.declared.stop.Stop.{Stop}
use Rattle.dmr_recording.specs.declared.stop.Stop.TheVariants as stop
use Rattle.dmr_text.specs.Behind.{AreLinesTorn, AreLinesWritten}
use Rattle.dmr_text.specs.Exports.{IsTextTornBehind}
use Rattle.dmr_text.specs.Files.{File, Receipts, Sendings, Slots, carried_of, file_format, last_line, open_text, records_lines}
use Rattle.dmr_text.specs.Files.{file_text}
use Rattle.dmr_text.specs.Spelling.{title_line}
use Rattle.dmr_text.specs.declared.carried.Carried.{Carried}

-- a text of which the first line was torn
begun : (file : File) (a b : Option (List ℕ)) → Tears a b (title_line (file_format file)) → Tears a b (file_text file)
begun file a b torn = Tears_more a b (open_text file) (last_line (carried_of file))
    (Tears_more a b (title_line (file_format file)) (records_lines file) torn)

-- in its first line
pub first_torn : (format : FileFormat) (left a b : Option (List ℕ)) → Tears a b (title_line format)
    → IsTextTornBehind format left left a b
first_torn Uplink left a b torn = record {
  file = Slots recording.Uplink [];
  same = refl;
  read = record { records = tt; octets = Consumes-nil left };
  text = begun (Slots recording.Uplink []) a b torn;
}
first_torn Downlink left a b torn = record {
  file = Slots recording.Downlink [];
  same = refl;
  read = record { records = tt; octets = Consumes-nil left };
  text = begun (Slots recording.Downlink []) a b torn;
}
first_torn Outgoing left a b torn = record {
  file = Sendings [];
  same = refl;
  read = record { records = (tt, tt); octets = Consumes-nil left };
  text = begun (Sendings []) a b torn;
}
first_torn Received left a b torn = record {
  file = Receipts [];
  same = refl;
  read = record { records = (tt, tt); octets = Consumes-nil left };
  text = begun (Receipts []) a b torn;
}

-- the first line of a file of this format
first_of : (file : File) (format : FileFormat) (a b : Option (List ℕ)) → file_format file ≡ format → Appends a b (title_line format)
    → Appends a b (title_line (file_format file))
first_of file format a b same first = subst (λ (f : FileFormat). Appends a b (title_line f)) (sym same) first

-- in the line of a record
pub lines_torn : (format : FileFormat) (why : Stop) (left left' a b c : Option (List ℕ)) → Appends a b (title_line format)
    → IfNotWritten why ((file : File) × (file_format file ≡ format) × AreLinesTorn file left left' b c)
    → IfNotWritten why (IsTextTornBehind format left left' a c)
lines_torn format (stop.File fault) left left' a b c first torn = tt
lines_torn format stop.Output left left' a b c first (file, same, torn) = record {
  file = file;
  same = same;
  read = torn.read;
  text = Tears_more a c _ _ (Tears_after a b c _ _ (first_of file format a b same first) torn.text);
}

-- in its last line
pub last_torn : (format : FileFormat) (carried : Carried) (file : File) (left left' a b c d : Option (List ℕ))
    → file_format file ≡ format → Appends a b (title_line format) → AreLinesWritten file left left' b c → carried ≡ carried_of file
    → Tears c d (last_line carried) → IsTextTornBehind format left left' a d
last_torn format carried file left left' a b c d same first written counted torn = record {
  file = file;
  same = same;
  read = written.read;
  text = Tears_after a c d _ _ (Appends-trans a b c _ _ (first_of file format a b same first) written.text)
      (subst (λ (held : Carried). Tears c d (last_line held)) counted torn);
}
