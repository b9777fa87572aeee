-- So many silent slots were written.
use Rattle.std.proofs.Common.{◌≡◌, false}
use Rattle.std.specs.Io.KnownBytes.{Appends}
use Rattle.dmr_text.proofs.Silences.{silent_octets}
use Rattle.dmr_text.proofs.import_recording.write_silence.Given as goal

abbrev pub invariant-loop-past : goal.invariant-loop-past
invariant-loop-past g l = record {
  well : g.K.Sink.has_failed l.sink ≡ false;
  written : Appends (g.K.Sink.held l.initial.sink) (g.K.Sink.held l.sink) (silent_octets l.fn.recording l._past);
}
