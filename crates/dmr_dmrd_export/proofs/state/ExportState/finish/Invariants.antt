-- So many silent slots were taken, and what is decided by them is written.
use Rattle.std.proofs.Common.{◌≡◌, ◌+◌, ◌≤◌, List, None, false, length, replicate}
use Rattle.dmr_dmrd_export.specs.Deciding.{AreMoreWritten}
use Rattle.dmr_dmrd_export.specs.declared.packet.BurstPacket.{BurstPacket}
use Rattle.dmr_dmrd_export.proofs.state.ExportState.finish.Given as goal

abbrev pub invariant-loop-past : goal.invariant-loop-past
invariant-loop-past g l = record {
  sink : g.K.Sink.has_failed l.sink ≡ false;
  room : l.self.streams.slots + length l.self.waiting
      ≡ l.initial.self.streams.slots + length l.initial.self.waiting + l._past;
  names : l.self.streams.names ≤ l.self.streams.slots;
  few : l.written ≤ l._past;
  so_far : (more : List BurstPacket) × (l.written ≡ length more)
      × AreMoreWritten l.settings l.initial.self (replicate l._past None) more l.self
      (g.K.Sink.held l.initial.sink) (g.K.Sink.held l.sink);
}
