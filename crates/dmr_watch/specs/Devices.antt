-- What watched devices do, which is what those behind them do, and what they remember.
use Rattle.std.specs.Prelude.{ℕ, Bool, List, Option}
use Rattle.std.specs.declared.io.Error.{Error}
use Rattle.dmr_record.specs.declared.head.FileFormat.{FileFormat}
use Rattle.dmr_watch.specs.declared.kept_reader.KeptReader.{KeptReader}
use Rattle.dmr_watch.specs.declared.watched_source.WatchedSource.{WatchedSource}
use Rattle.dmr_watch.specs.declared.watched_writer.WatchedWriter.{WatchedWriter}
use Rattle.dmr_watch.specs.declared.ear.Ear.{Ear}
use Rattle.dmr_watch.specs.declared.reached.Reached.{Reached}

-- what a kept reader has left: what the one behind it has
abbrev pub kept_remaining : {R : Type 0} → (R → Option (List ℕ)) → KeptReader R → Option (List ℕ)
kept_remaining remaining kept = remaining kept.reader

-- the error of the last read that failed
abbrev pub read_error_of : {R : Type 0} → KeptReader R → Option Error
read_error_of kept = kept.error

-- what a watched source has left, and whether it has failed: as the one behind it
abbrev pub watched_left : {S : Type 0} → (S → Option (List ℕ)) → WatchedSource S → Option (List ℕ)
watched_left left watched = left watched.source

abbrev pub is_watched_failed : {S : Type 0} → (S → Bool) → WatchedSource S → Bool
is_watched_failed has_failed watched = has_failed watched.source

-- the ear of a source
abbrev pub ear_of : {S : Type 0} → WatchedSource S → Ear
ear_of watched = watched.ear

-- what a watched writer holds: what the one behind it does
abbrev pub watched_contents : {W : Type 0} → (W → Option (List ℕ)) → WatchedWriter W → Option (List ℕ)
watched_contents contents watched = contents watched.writer

-- the format of the file that is written
abbrev pub file_format_of : {W : Type 0} → WatchedWriter W → FileFormat
file_format_of watched = watched.format

-- where the octets have got to that were written
abbrev pub reached_of : {W : Type 0} → WatchedWriter W → Reached
reached_of watched = watched.reached

-- the error of the last write that failed
abbrev pub write_error_of : {W : Type 0} → WatchedWriter W → Option Error
write_error_of watched = watched.error
