use Rattle.std.proofs.Common.{◌≡◌, ◌++◌, drop}
use Rattle.board_timeline.specs.Layout.{after_runs, first, runs_shapes}
use Rattle.board_timeline.proofs.layout.add_runs.Given as goal

abbrev pub invariant-loop-place : goal.invariant-loop-place
invariant-loop-place l = record {
  left : l.canvas ++ runs_shapes l.chart.lines l.chart.track.now l.place l.at (drop l.place l.runs)
      ≡ l.initial.canvas ++ runs_shapes l.chart.lines l.chart.track.now 0 first l.runs;
  end : after_runs l.at (drop l.place l.runs) ≡ after_runs first l.runs;
}
