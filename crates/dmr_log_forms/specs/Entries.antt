-- What has a line in a log.
use Rattle.dmr_log_forms.specs.Columns.{columns_of, of_received}
use Rattle.dmr_log_forms.specs.declared.columns.EntryColumns.{EntryColumns}
use Rattle.dmr_log_forms.specs.declared.entry.LogEntry.{LogEntry}
use Rattle.dmr_log_forms.specs.declared.entry.LogEntry.TheVariants.{Transmission, Received}

-- the columns of a transmission that has ended, or of a record that was received
abbrev pub columns_of_entry : LogEntry → EntryColumns
columns_of_entry (Transmission slot ended) = columns_of slot ended.now
columns_of_entry (Received place address received) = of_received place received.now.kind received.now.source address
