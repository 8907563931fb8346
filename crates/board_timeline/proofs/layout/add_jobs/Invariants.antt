use Rattle.std.proofs.Common.{◌≡◌, ◌++◌, drop}
use Rattle.board_timeline.specs.Layout.{after_jobs, jobs_shapes}
use Rattle.board_timeline.proofs.layout.add_jobs.Given as goal

abbrev pub invariant-loop-job : goal.invariant-loop-job
invariant-loop-job l = record {
  left : l.canvas ++ jobs_shapes l.chart.lines l.chart.track.now l.at (drop l.job-index l.jobs)
      ≡ l.initial.canvas ++ jobs_shapes l.chart.lines l.chart.track.now l.fn.first l.jobs;
  end : after_jobs l.at (drop l.job-index l.jobs) ≡ after_jobs l.fn.first l.jobs;
}
