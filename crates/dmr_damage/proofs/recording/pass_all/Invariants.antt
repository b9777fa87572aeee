-- So many frames were passed, and the next one begins at this octet.
use Rattle.std.proofs.Common.{◌≡◌, ℕ, ◌+◌, ◌*◌, ◌-◌, ◌≤◌, List, [], Option, length, false}
use Rattle.std.specs.Io.KnownBytes.{Consumes}
use Rattle.std.specs.List.{AllByRecursion}
use Rattle.dmr_record.specs.Uplink.{IsFrame, UplinkSlots, frames_octets}
use Rattle.dmr_damage.specs.Counts.{IsFew}
use Rattle.dmr_damage.specs.Frames.{rest_of}
use Rattle.dmr_damage.specs.Passing.{ArePassed}
use Rattle.dmr_damage.specs.declared.settings.Damage.{Damage}
use Rattle.dmr_damage.proofs.recording.pass_all.Given as goal

abbrev pub invariant-loop-frame : goal.invariant-loop-frame
invariant-loop-frame g l = record {
  source : g.S.Source.has_failed l.source ≡ false;
  sink : g.K.Sink.has_failed l.sink ≡ false;
  limit : l.frames ≤ 1048576;
  room : l.octet ≤ 8 + 68 * l.frames;
  fewer : l.counts.frames ≤ l.frames;
  few : IsFew (2 * l.counts.frames) l.counts;
  rest : rest_of l.damager ≡ rest_of l.fn.damager;
  so_far : (frames : List UplinkSlots) × (length frames ≡ l.frames) × (l.octet ≡ 8 + length (frames_octets frames))
      × AllByRecursion IsFrame frames
      × Consumes (g.S.Source.left l.fn.source) (g.S.Source.left l.source) (frames_octets frames)
      × ((damage : Damage) (held : Option (List ℕ))
      → ArePassed damage l.fn.damager l.fn.counts [] [] held (g.K.Sink.held l.fn.sink)
      → (outs : List UplinkSlots) × ArePassed damage l.damager l.counts frames outs held (g.K.Sink.held l.sink));
}

abbrev pub decreases-loop-frame : goal.decreases-loop-frame
decreases-loop-frame g l = 1048577 - l.frames
