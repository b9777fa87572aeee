-- As many silent frames were passed as the loop has turned.
use Rattle.std.proofs.Common.{◌≡◌, ◌+◌, [], ◌∷◌, None, replicate}
use Rattle.dmr_station.specs.DownlinkRules.{silent_frame}
use Rattle.dmr_station.specs.Station.{AreExchanged}
use Rattle.dmr_station.specs.StationRules.{RestsInSilence}
use Rattle.dmr_station.proofs.station.Station.pass_silence.Given as goal

abbrev pub invariant-loop-frame : goal.invariant-loop-frame
invariant-loop-frame l = record {
  rests : RestsInSilence l.self.memory;
  frames : l.self.frames ≡ l.fn.self.frames + l._frame;
  passed : AreExchanged l.fn.self (replicate l._frame []) (replicate l._frame silent_frame)
      (replicate l._frame (None ∷ None ∷ [])) (replicate l._frame []) l.self;
}
