use Rattle.std.proofs.Common.{◌≡◌, ◌++◌, drop}
use Rattle.board_timeline.specs.Layout.{after_legs, legs_shapes}
use Rattle.board_timeline.proofs.layout.add_legs.Given as goal

abbrev pub invariant-loop-leg : goal.invariant-loop-leg
invariant-loop-leg l = record {
  left : l.canvas ++ legs_shapes l.chart.lines l.chart.track.now.legs l.job l.at (drop l._leg-index l.legs)
      ≡ l.initial.canvas ++ legs_shapes l.chart.lines l.chart.track.now.legs l.job l.fn.first l.legs;
  end : after_legs l.job l.at (drop l._leg-index l.legs) ≡ after_legs l.job l.fn.first l.legs;
}
