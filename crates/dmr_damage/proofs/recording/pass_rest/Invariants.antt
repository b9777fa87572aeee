-- So many silent frames were passed.
use Rattle.std.proofs.Common.{◌≡◌, ℕ, ◌+◌, ◌*◌, ◌≤◌, List, ◌++◌, Option, replicate, false}
use Rattle.dmr_record.specs.Uplink.{UplinkSlots}
use Rattle.dmr_damage.specs.Counts.{IsFew}
use Rattle.dmr_damage.specs.Frames.{rest_of}
use Rattle.dmr_damage.specs.Passing.{ArePassed, silence_in_both}
use Rattle.dmr_damage.specs.declared.settings.Damage.{Damage}
use Rattle.dmr_damage.proofs.recording.pass_rest.Given as goal

abbrev pub invariant-loop-past : goal.invariant-loop-past
invariant-loop-past g l = record {
  sink : g.K.Sink.has_failed l.sink ≡ false;
  inside : l._past ≤ 255;
  fewer : l.counts.frames ≤ l.fn.counts.frames + l._past;
  few : IsFew (2 * l.counts.frames) l.counts;
  rest : rest_of l.damager ≡ l._past-end;
  so_far : (damage : Damage) (frames outs : List UplinkSlots) (held : Option (List ℕ))
      → ArePassed damage l.fn.damager l.fn.counts frames outs held (g.K.Sink.held l.fn.sink)
      → (more : List UplinkSlots)
      × ArePassed damage l.damager l.counts (frames ++ replicate l._past silence_in_both) more held (g.K.Sink.held l.sink);
}
